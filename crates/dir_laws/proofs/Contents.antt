-- The namespace never looks at a tree, and an append adds its piece to its file and leaves every other.
use Rattle.std.proofs.Common.{◌≡◌, ℕ, true, false, cond, List, [], ◌∷◌, ◌++◌, filter, refl, ap, ◌∙◌, append-nil}
use Rattle.std.specs.List.{flat_map}
use Rattle.std.proofs.lemmas.List.Elements.{filter-append}
use Rattle.std.proofs.lemmas.Grind.{flat_map-append}
use Rattle.dir_model.specs.declared.event.Event.{Event}
use Rattle.dir_model.specs.declared.tree.TreeEntry.{TreeEntry}
use Rattle.dir_model.specs.declared.tree.TreeNode.TheVariants.{Piece}
use Rattle.dir_model.specs.State.{DirState}
use Rattle.dir_model.specs.Trace.{state_next, states_next}
use Rattle.dir_model.specs.Trees.{is_entry, bytes_of, content}
use Rattle.dir_laws.specs.Stretches.{namespaces_next}

-- the namespace after a trace follows from its requests and replies alone
pub namespace_alone : (s : DirState) (es : List Event) → (states_next s es).namespace ≡ namespaces_next s.namespace es
namespace_alone s [] = refl
namespace_alone s (e ∷ es) = namespace_alone (state_next s e) es

pub content-push : (es : List TreeEntry) (e : TreeEntry) (folder : ℕ) (path : List ℕ) → content (es ++ e ∷ []) folder path ≡ content es folder path ++ content (e ∷ []) folder path
content-push es e folder path = ap (flat_map (λ (x : TreeEntry). bytes_of x.node)) (filter-append (is_entry folder path) es (e ∷ [])) ∙ flat_map-append (λ (x : TreeEntry). bytes_of x.node) (filter (is_entry folder path) es) (filter (is_entry folder path) (e ∷ []))

-- a piece at a path adds its bytes there
pub piece_adds : (es : List TreeEntry) (folder : ℕ) (path piece : List ℕ) → is_entry folder path (record { folder = folder; path = path; node = Piece piece }) ≡ true → content (es ++ record { folder = folder; path = path; node = Piece piece } ∷ []) folder path ≡ content es folder path ++ piece
piece_adds es folder path piece here = content-push es (record { folder = folder; path = path; node = Piece piece }) folder path ∙ ap (λ l. content es folder path ++ l) (ap (λ b. flat_map (λ (x : TreeEntry). bytes_of x.node) (cond b (record { folder = folder; path = path; node = Piece piece } ∷ []) [])) here ∙ append-nil piece)

-- and leaves what stands elsewhere
pub piece_leaves : (es : List TreeEntry) (e : TreeEntry) (folder : ℕ) (path : List ℕ) → is_entry folder path e ≡ false → content (es ++ e ∷ []) folder path ≡ content es folder path
piece_leaves es e folder path elsewhere = content-push es e folder path ∙ (ap (λ b. content es folder path ++ flat_map (λ (x : TreeEntry). bytes_of x.node) (cond b (e ∷ []) [])) elsewhere ∙ append-nil (content es folder path))
