-- Reading the texts of a whitelist one after the other.
use Rattle.std.proofs.Common.{◌≡◌, ℕ, ◌<◌, ◌≤◌, ◌+◌, List, [], ◌∷◌, ◌++◌, Option, Some, None, get_or, length, map, refl, sym, ◌∙◌, ap}
use Rattle.serde_json.specs.View.{view}
use Rattle.serde_json.specs.declared.value.Value.{Value}
use Rattle.ac_types.specs.JsonPaths.{element_path}
use Rattle.ac_types.specs.Outcomes.{Outcome, reads, fails, ◌>>=◌}
use Rattle.ac_types.specs.declared.fault.FaultKind.{FaultKind}
use Rattle.ac_types.proofs.EachElement.{IsReadUpTo, read_none, read_next, read_fault, read_all}
use Rattle.path_map.specs.declared.listed.Listed.{Listed}
use Rattle.manifests.specs.WhitelistForm.{listed, entries, whitelist_of}

-- what the texts before a place gave, and the entries among it
pub record IsListedUpTo (at : List ℕ) (vs : List Value) (paths : List Listed) (i : ℕ) : Type 0 where
  pub found : List (Option Listed)
  pub read : IsReadUpTo (λ (before : List (Option Listed)). listed) at vs found i
  pub kept : paths ≡ entries found

entries-append : (xs ys : List (Option Listed)) → entries (xs ++ ys) ≡ entries xs ++ entries ys
entries-append [] ys = refl
entries-append (None ∷ xs) ys = entries-append xs ys
entries-append (Some l ∷ xs) ys = ap (λ (ls : List Listed). l ∷ ls) (entries-append xs ys)

pub listed_none : (at : List ℕ) (vs : List Value) → IsListedUpTo at vs [] 0
listed_none at vs = record { found = []; read = read_none (λ (before : List (Option Listed)). listed) at vs; kept = refl }

pub listed_next : (at : List ℕ) (vs : List Value) (paths : List Listed) (i : ℕ) (v : Value) (entry : Option Listed) (now : List Listed)
    → i < length vs → v ≡ get_or vs i v → listed (element_path at i) (view v) ≡ reads entry
    → now ≡ paths ++ entries (entry ∷ []) → IsListedUpTo at vs paths i → IsListedUpTo at vs now (i + 1)
listed_next at vs paths i v entry now within is read added so_far = record {
  found = so_far.found ++ entry ∷ [];
  read = read_next (λ (before : List (Option Listed)). listed) at vs so_far.found i v entry within is read so_far.read;
  kept = added ∙ ap (λ (ls : List Listed). ls ++ entries (entry ∷ [])) so_far.kept ∙ sym (entries-append so_far.found (entry ∷ []));
}

pub listed_fault : (at : List ℕ) (vs : List Value) (paths : List Listed) (i : ℕ) (v : Value) (path : List ℕ) (kind : FaultKind)
    → i < length vs → v ≡ get_or vs i v → listed (element_path at i) (view v) ≡ fails path kind
    → IsListedUpTo at vs paths i → whitelist_of at (map view vs) ≡ fails path kind
listed_fault at vs paths i v path kind within is fault so_far =
    ap (λ (o : Outcome (List (Option Listed))). o >>= λ found. reads (entries found))
    (read_fault (λ (before : List (Option Listed)). listed) at vs so_far.found i v path kind within is fault so_far.read)

pub listed_all : (at : List ℕ) (vs : List Value) (paths : List Listed) (i : ℕ) → length vs ≤ i → IsListedUpTo at vs paths i
    → whitelist_of at (map view vs) ≡ reads paths
listed_all at vs paths i past so_far =
    ap (λ (o : Outcome (List (Option Listed))). o >>= λ found. reads (entries found))
    (read_all (λ (before : List (Option Listed)). listed) at vs so_far.found i past so_far.read)
    ∙ ap (λ (ls : List Listed). reads ls) (sym so_far.kept)
