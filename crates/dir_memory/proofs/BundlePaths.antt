-- Paths that lie below a directory, and the names through which they lead.
use Rattle.std.proofs.Common.{◌≡◌, ℕ, ◌+◌, ◌≤◌, ◌==◌, Bool, true, false, not, ◌||◌, cond, List, [], ◌∷◌, ◌++◌, length, take, refl, sym, ap, ◌∙◌, arith, append_assoc, length-append}
use Rattle.std.specs.List.{position_or_len, before_first, list_all}
use Rattle.std.proofs.Math.Seq.{take-append_seam}
use Rattle.std.proofs.lemmas.Bool.{and_parts}
use Rattle.std.proofs.lemmas.Bool.Decides.{nat_tests}
use Rattle.std.proofs.lemmas.List.{append-nil}
use Rattle.std.proofs.lemmas.List.Sums.{list_all-from_AllPass}
use Rattle.std.proofs.lemmas.Slice.Eq.{bytes_eq-Decides}
use Rattle.dir_model.specs.Names.{same_bytes, is_file_byte, IsFileName}
use Rattle.dir_trait.specs.Bundles.{directory_prefix, child_path}
use Rattle.dir_model.specs.Paths.{lies_below}
use Rattle.dir_laws.proofs.Paths.{below_rest, below_from}
use Rattle.dir_memory.specs.MemoryBundles.{leads_through}

prefix_other : (d rest : List ℕ) → (length d == 0) ≡ false → directory_prefix d ++ rest ≡ d ++ 47 ∷ rest
prefix_other d rest other = ap (λ b. cond b [] (d ++ 47 ∷ []) ++ rest) other ∙ append_assoc d (47 ∷ []) rest

-- what begins as the paths in a directory lies below it
pub below_prefix : (path d rest : List ℕ) → (length d == 0) ≡ false → path ≡ directory_prefix d ++ rest → lies_below path d ≡ true
below_prefix path d rest other e = ap (λ p. lies_below p d) (e ∙ prefix_other d rest other) ∙ below_from d rest other

abbrev pub is_slash : ℕ → Bool
is_slash b = b == 47

segment_len : (name rest : List ℕ) → list_all is_file_byte name ≡ true → position_or_len is_slash rest ≡ 0 → position_or_len is_slash (name ++ rest) ≡ length name
segment_len [] rest h e = e
segment_len (x ∷ xs) rest h e =
    let split = and_parts (is_file_byte x) (list_all is_file_byte xs) h in
    let plain = and_parts (not (x == 47)) (not (x == 0)) split.0 in
    let more : position_or_len is_slash (xs ++ rest) ≡ length xs = segment_len xs rest split.1 e in
    ap (λ b. cond b (1 + position_or_len is_slash (xs ++ rest)) 0) plain.0 ∙ omega (arith, more)

segment : (name rest : List ℕ) → IsFileName name → position_or_len is_slash rest ≡ 0 → before_first is_slash (name ++ rest) ≡ name
segment name rest named e =
    ap (λ n. take n (name ++ rest)) (segment_len name rest (list_all-from_AllPass is_file_byte name named.2) e) ∙ take-append_seam name rest

not_zero : (n : ℕ) → 1 ≤ n → (n == 0) ≡ false
not_zero n h = grind (arith, nat_tests)

pub child_other : (d name : List ℕ) → IsFileName name → (length (child_path d name) == 0) ≡ false
child_other d name named = not_zero (length (child_path d name)) (omega (arith, length-append (directory_prefix d) name, named.0))

-- a path that leads through a name of a directory: behind the directory, its first segment is the name
pub record Leads (path d name : List ℕ) : Type 0 where
  pub rest : List ℕ
  pub behind : path ≡ directory_prefix d ++ rest
  pub first : before_first is_slash rest ≡ name

pub leads : (path d name : List ℕ) → IsFileName name → leads_through path (child_path d name) ≡ true → Leads path d name
leads path d name named h = by (same_bytes path (child_path d name)) refl h
  where
    by : (b : Bool) → same_bytes path (child_path d name) ≡ b → (b || lies_below path (child_path d name)) ≡ true → Leads path d name
    by true same k = record {
      rest = name;
      behind = (bytes_eq-Decides path (child_path d name)).0 same;
      first = ap (λ t. before_first is_slash t) (sym (append-nil name)) ∙ segment name [] named refl;
    }
    by false same k =
        let more = below_rest path (child_path d name) (child_other d name named) k in
        record {
          rest = name ++ 47 ∷ more.0;
          behind = more.1 ∙ append_assoc (directory_prefix d) name (47 ∷ more.0);
          first = segment name (47 ∷ more.0) named refl;
        }
