-- One more piece of a file.
use Rattle.std.proofs.Common.{arith, ◌≡◌, ◌⊎◌, inl, inr, ◌≤◌, ◌<◌, ◌+◌, ◌-◌, ℕ, Bool, true, nat_lt, min, List, [], ◌++◌, length, take, drop, refl, sym, ap, subst, ◌∙◌, Option, Some, None, IsSomeAnd}
use Rattle.std.proofs.Math.Seq.{take-add}
use Rattle.std.proofs.lemmas.Grind.{common_steps}
use Rattle.plain_laws.proofs.Fronts.{take_past, taken_past}
use Rattle.dir_trait.specs.Bundles.{Fills}
use Rattle.bundle_image.specs.Fronts.{IsFrontOrNothing, IsFront}

take_front : (k n : ℕ) (xs ys : List ℕ) → k ≤ n → n ≤ length xs → take k (take n xs ++ ys) ≡ take k xs
take_front k n xs ys = grind (arith, common_steps)

front_is_first : (xs old : List ℕ) → (old ≡ []) ⊎ (old ≡ take (length old) xs) → old ≡ take (length old) xs
front_is_first xs old (inl e) = subst (λ (l : List ℕ). l ≡ take (length l) xs) (sym e) refl
front_is_first xs old (inr e) = e

module _ (file old room filled new : List ℕ) (n : ℕ) (first : old ≡ take (length old) file) (fills : Fills file (length old) room n filled) (is : new ≡ old ++ take n filled) where
  within_file : length old ≤ length file
  within_file = let e = ap length first in grind (arith, common_steps)

  count : n ≤ length (drop (length old) file)
  count = let c = fills.count in grind (arith, common_steps)

  room_kept : length filled ≡ length room
  room_kept = let c = fills.count in let e = ap length fills.room in grind (arith, common_steps)

  new_is : new ≡ take (length old + n) file
  new_is =
      let f : take n filled ≡ take n (drop (length old) file) = ap (take n) fills.room ∙ take_front n n (drop (length old) file) (drop n room) (omega arith) count in
      is ∙ (ap (λ (l : List ℕ). old ++ l) f ∙ (ap (λ (l : List ℕ). l ++ take n (drop (length old) file)) first ∙ sym (take-add (length old) n file)))

  new_length : length new ≡ min (length old + n) (length file)
  new_length = let e = ap length new_is in grind (arith, common_steps)

  past : nat_lt n (length filled) ≡ true → min (length old + n) (length file) ≡ min (length file) (length file)
  past short = let c = fills.count in let r = room_kept in let w = within_file in grind (arith, common_steps)

  pub front : IsFront (nat_lt n (length filled)) new file
  front = record {
    first = new_is ∙ take_past (length old + n) (length new) file (let e = new_length in grind (arith, common_steps));
    whole = λ short. new_is ∙ (take_past (length old + n) (length file) file (past short) ∙ taken_past (length file) file (omega arith));
  }

pub next_front : (file : Option (List ℕ)) (old room filled new : List ℕ) (n : ℕ) → IsFrontOrNothing file old → IsSomeAnd file (λ f. Fills f (length old) room n filled) → new ≡ old ++ take n filled → IsSomeAnd file (IsFront (nat_lt n (length filled)) new)
next_front None old room filled new n begun fills is = fills
next_front (Some f) old room filled new n begun fills is = front f old room filled new n (front_is_first f old begun) fills is

-- a front is a beginning
pub still_begun : (file : Option (List ℕ)) (ended : Bool) (bytes : List ℕ) → IsSomeAnd file (IsFront ended bytes) → IsFrontOrNothing file bytes
still_begun None ended bytes f = absurd f
still_begun (Some xs) ended bytes f = inr f.first

-- where it has ended, it is all that was asked for
pub ended_whole : (file : Option (List ℕ)) (most : ℕ) (bytes : List ℕ) → length bytes ≤ most → IsSomeAnd file (IsFront true bytes) → IsSomeAnd file (λ f. bytes ≡ take most f)
ended_whole None most bytes within f = f
ended_whole (Some xs) most bytes within f = f.whole refl ∙ sym (taken_past most xs (subst (λ (l : List ℕ). length l ≤ most) (f.whole refl) within))

full : (xs bytes : List ℕ) (most : ℕ) → 0 < most → most ≤ length bytes → length bytes ≤ most → (bytes ≡ []) ⊎ (bytes ≡ take (length bytes) xs) → bytes ≡ take most xs
full xs bytes most some least most_of (inl e) = let z : length bytes ≡ 0 = ap length e in absurd (omega arith)
full xs bytes most some least most_of (inr e) = let z : length bytes ≡ most = omega arith in e ∙ ap (λ (n : ℕ). take n xs) z

-- where as many were read as were asked for, it is all too
pub full_whole : (file : Option (List ℕ)) (bytes : List ℕ) (most : ℕ) → 0 < most → most ≤ length bytes → length bytes ≤ most → IsFrontOrNothing file bytes → IsSomeAnd file (λ f. bytes ≡ take most f)
full_whole None bytes most some least most_of (inl e) = let z : length bytes ≡ 0 = ap length e in absurd (omega arith)
full_whole None bytes most some least most_of (inr e) = e
full_whole (Some xs) bytes most some least most_of begun = full xs bytes most some least most_of begun
