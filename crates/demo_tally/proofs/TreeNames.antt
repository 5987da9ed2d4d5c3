-- The app of a listing's path is the one that it was made of.
use Rattle.std.proofs.Common.{arith, ◌≡◌, ◌≢◌, ℕ, ◌+◌, ◌-◌, Bool, true, false, not, ◌&&◌, bytes_eq, nat_eq, codes, Bor, Option, Some, None, List, ◌++◌, length, take, drop, length-append, refl, sym, ap, subst, ◌∙◌}
use Rattle.std.proofs.lemmas.List.{append_cancel_left}
use Rattle.std.proofs.lemmas.Slice.Eq.{bytes_eq-Decides, strip_prefix_is, strip_suffix_is}
use Rattle.std.proofs.lemmas.Bool.Decides.{Decides-eqb}
use lib.Pointwise.{pointwise}
use Rattle.std.proofs.Math.Seq.{take-append_seam}
use Rattle.plain_laws.proofs.Texts.{same_bytes}
use Rattle.dir_model.proofs.Lists.{and_left}
use Rattle.dir_rules.specs.Marks.{has_slash}
use Rattle.demo_tally.specs.TreeFiles.{is_tree_file, listed_app, tree_file}

abbrev pub stage : List ℕ
stage = codes "stage1/rootfs/opt/stage2/"

abbrev pub tree : List ℕ
tree = codes "/tree"

rest_long : (app : List ℕ) → length (tree_file app) - 30 ≡ length app
rest_long app =
    let whole : length (tree_file app) ≡ length stage + length (app ++ tree) = length-append stage (app ++ tree) in
    let rest : length (app ++ tree) ≡ length app + length tree = length-append app tree in
    omega arith

same_app : (app : List ℕ) → listed_app (tree_file app) ≡ app
same_app app = ap (λ (n : ℕ). take n (app ++ tree)) (rest_long app) ∙ take-append_seam app tree

pub told : (app : List ℕ) → is_tree_file (tree_file app) ≡ not (has_slash app)
told app = subst (λ (other : List ℕ). (bytes_eq (tree_file app) (tree_file other) && not (has_slash other)) ≡ not (has_slash app)) (sym (same_app app))
    (ap (λ (b : Bool). b && not (has_slash app)) (same_bytes (tree_file app)))

pub told_at : (path rest app : List ℕ) → path ≡ stage ++ rest → rest ≡ app ++ tree → not (has_slash app) ≡ is_tree_file path
told_at path rest app first last = sym (ap is_tree_file (first ∙ ap (λ (r : List ℕ). stage ++ r) last) ∙ told app)

-- where it is no app's listing
pub untold : (path : List ℕ) → ((app : List ℕ) → path ≢ tree_file app) → false ≡ is_tree_file path
untold path none = by (is_tree_file path) refl
  where
    by : (b : Bool) → is_tree_file path ≡ b → false ≡ is_tree_file path
    by false is = sym is
    by true is = absurd (none (listed_app path) ((bytes_eq-Decides path (tree_file (listed_app path))).0 (and_left (bytes_eq path (tree_file (listed_app path))) (not (has_slash (listed_app path))) is)))

pub untold_behind : (path rest : List ℕ) → path ≡ stage ++ rest → ((app : List ℕ) → rest ≢ app ++ tree) → false ≡ is_tree_file path
untold_behind path rest first none = untold path (λ app same. none app (append_cancel_left stage rest (app ++ tree) (sym first ∙ same)))

-- what is left of a path behind a beginning, and of that before an end
pub cut_front : (path : List ℕ) (rest : Bor (List ℕ)) → (pointwise nat_eq (take 25 path) stage ≡ true) × (rest.now ≡ drop 25 path) × (length rest.now + 25 ≡ length path) → path ≡ stage ++ rest.now
cut_front path rest cases = strip_prefix_is Decides-eqb path stage (Some rest) cases

pub cut_end : (rest : List ℕ) (app : Bor (List ℕ)) → (pointwise nat_eq (drop (length rest - 5) rest) tree ≡ true) × (app.now ≡ take (length rest - 5) rest) × (length app.now + 5 ≡ length rest) → rest ≡ app.now ++ tree
cut_end rest app cases = strip_suffix_is Decides-eqb rest tree (Some app) cases

pub other_end : (rest app : List ℕ) → pointwise nat_eq (drop (length rest - 5) rest) tree ≡ false → rest ≢ app ++ tree
other_end rest app cases = strip_suffix_is {A = ℕ} Decides-eqb rest tree None cases app
