-- Lists of texts, one text further.
use Rattle.std.proofs.Common.{◌≡◌, ℕ, zero, suc, ◌+◌, ◌≤◌, List, [], ◌∷◌, ◌++◌, Some, drop, take, length, sym, ap, ◌∙◌, append_assoc, append-nil, arith}
use Rattle.std.proofs.lemmas.List.{drop_all}
use Rattle.std.specs.List.{slice_get}
use Rattle.std.proofs.lemmas.List.Sums.{fold_more}
use Rattle.std.proofs.lemmas.Option.{slice_get_within, get_or_from_slice_get}
use Rattle.host_spawner.specs.Programs.{with_text, last_variable_value}

same_text : {X : Type 0} (x y : X) → Some x ≡ Some y → x ≡ y
same_text x y e = cc

drop_at : {X : Type 0} (xs : List X) (i : ℕ) (x : X) → slice_get xs i ≡ Some x → drop i xs ≡ x ∷ drop (suc i) xs
drop_at [] i x at = cc
drop_at (y ∷ ys) zero x at = ap (λ z. z ∷ ys) (same_text y x at)
drop_at (y ∷ ys) (suc i) x at = drop_at ys i x at

drop_next : {X : Type 0} (xs : List X) (i : ℕ) (x : X) → slice_get xs i ≡ Some x → drop i xs ≡ x ∷ drop (i + 1) xs
drop_next xs i x at = let next : suc i ≡ i + 1 = omega arith in drop_at xs i x at ∙ ap (λ k. x ∷ drop k xs) next

-- a word is added, and one word fewer is left
pub one_more : (args words : List (List ℕ)) (i : ℕ) (word : List ℕ) → slice_get words i ≡ Some word → (args ++ word ∷ []) ++ drop (i + 1) words ≡ args ++ drop i words
one_more args words i word at = append_assoc args (word ∷ []) (drop (i + 1) words) ∙ ap (λ rest. args ++ rest) (sym (drop_next words i word at))

-- none is left
pub all_added : (args words all : List (List ℕ)) (i : ℕ) → length words ≤ i → args ++ drop i words ≡ all → args ≡ all
all_added args words all i past e = sym (ap (λ rest. args ++ rest) (drop_all i words past) ∙ append-nil args) ∙ e

-- what is said of a variable once a text is added
pub said_more : (env : List (List ℕ)) (i : ℕ) (text name : List ℕ) → slice_get env i ≡ Some text → last_variable_value (take (i + 1) env) name ≡ with_text name (last_variable_value (take i env) name) text
said_more env i text name at =
    fold_more (with_text name) _ env i text (slice_get_within env i text at) ∙ ap (with_text name (last_variable_value (take i env) name)) (get_or_from_slice_get env i text text at)
