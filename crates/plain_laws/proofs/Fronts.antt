-- The fronts of a list of bytes.
use Rattle.std.proofs.Common.{arith, ◌≡◌, ◌≤◌, ◌<◌, ◌+◌, ◌-◌, ℕ, true, false, nat_le, nat_lt, min, List, ◌++◌, length, take, drop, sym, ap, ◌∙◌}
use Rattle.std.proofs.Math.Seq.{take-add}
use Rattle.std.proofs.lemmas.Bool.Decides.{nat_tests}
use Rattle.std.proofs.lemmas.Grind.{common_steps}

-- two fronts that end at the same place, or past the end
pub take_past : (i j : ℕ) (xs : List ℕ) → min i (length xs) ≡ min j (length xs) → take i xs ≡ take j xs
take_past i j xs = grind (arith, common_steps)

pub taken_past : (n : ℕ) (xs : List ℕ) → length xs ≤ n → take n xs ≡ xs
taken_past n xs within = grind (arith, common_steps)

-- a front that isn't cut off is the whole
pub not_cut : (n : ℕ) (bytes : List ℕ) → length (take n bytes) < n → take n bytes ≡ bytes
not_cut n bytes within = grind (arith, common_steps)

pub within_take : (n : ℕ) (bytes : List ℕ) → length bytes < n → take n bytes ≡ bytes
within_take n bytes within = grind (arith, common_steps)

-- one byte more than there is room for tells what is too long
pub take_short : (n : ℕ) (bytes : List ℕ) → nat_le (length bytes) n ≡ true → take (n + 1) bytes ≡ bytes
take_short n bytes short = grind (arith, nat_tests, common_steps)

pub take_long : (n : ℕ) (bytes : List ℕ) → nat_le (length bytes) n ≡ false → nat_le (length (take (n + 1) bytes)) n ≡ false
take_long n bytes long = grind (arith, nat_tests, common_steps)

pub front_length : (file old : List ℕ) → old ≡ take (length old) file → length old ≤ length file
front_length file old first = let e = ap length first in grind (arith, common_steps)

-- piece by piece

pub piece_length : (at room : ℕ) (file : List ℕ) → length (take room (drop at file)) ≡ min room (length file - at)
piece_length at room file = grind (arith, common_steps)

module _ (file old piece : List ℕ) (room : ℕ) (first : old ≡ take (length old) file) (is : piece ≡ take room (drop (length old) file)) where
  counted : length piece ≡ min room (length file - length old)
  counted = ap length is ∙ piece_length (length old) room file

  whole_front : old ++ piece ≡ take (length old + room) file
  whole_front = ap (λ (l : List ℕ). old ++ l) is ∙ (ap (λ (l : List ℕ). l ++ take room (drop (length old) file)) first ∙ sym (take-add (length old) room file))

  -- one piece more is a front
  pub next_first : old ++ piece ≡ take (length (old ++ piece)) file
  next_first = whole_front ∙ take_past (length old + room) (length (old ++ piece)) file (let p = counted in let w = front_length file old first in grind (arith, common_steps))

  -- with a short piece it is all of it
  pub short_whole : length piece < room → old ++ piece ≡ file
  short_whole short = whole_front ∙ taken_past (length old + room) file (let p = counted in let w = front_length file old first in grind (arith, common_steps))

-- what was filled of a room, where that isn't the whole
pub short_piece : (count : ℕ) (old new : List ℕ) → drop count new ≡ drop count old → nat_lt count (length new) ≡ true → length (take count new) < length old
short_piece count old new rest short = let e = ap length rest in grind (arith, common_steps)
