-- The fields of a line of a listing.
use Rattle.std.specs.Prelude.{◌≡◌, ℕ, ◌+◌, ◌/◌, ◌%◌, ◌≤◌, ◌==◌, nat_le, Bool, false, ◌||◌, List, [], ◌∷◌, ◌++◌, map, length, if◌then◌else◌, IsUtf8}
use Rattle.std.specs.List.{list_any, flat_map}
use Rattle.std.specs.Int.Digits.{digits_of}
use Rattle.tree_digest.specs.declared.refusals.TheConstants.{MAX_TARGET}
use Rattle.percent_encoding.specs.Percent.{percent_encode_byte}

-- four octal digits
abbrev pub octal_text : ℕ → List ℕ
octal_text n = (48 + n / 512) ∷ (48 + n / 64 % 8) ∷ (48 + n / 8 % 8) ∷ (48 + n % 8) ∷ []

-- a decimal without leading zeros
unfoldable pub decimal_text : ℕ → List ℕ
decimal_text n = if n == 0 then 48 ∷ [] else map (λ d. 48 + d) (digits_of 10 n)

-- the byte is written as an escape: a control, a space, a percent sign, or past `~`
abbrev pub is_escaped : ℕ → Bool
is_escaped b = nat_le b 32 || b == 37 || nat_le 127 b

-- a text with these bytes as `%` and two upper-case hex digits
unfoldable pub escaped : List ℕ → List ℕ
escaped text = flat_map (λ b. if is_escaped b then percent_encode_byte b else b ∷ []) text

-- the target of a link: 1 to 4,095 bytes of UTF-8 without NUL
pub record IsTarget (target : List ℕ) : Type 0 where
  pub text : IsUtf8 target
  pub some : 1 ≤ length target
  pub short : length target ≤ MAX_TARGET
  pub no_nul : list_any (λ b. b == 0) target ≡ false

-- a field, and what follows it after a space
abbrev pub field : List ℕ → List ℕ → List ℕ
field text rest = text ++ 32 ∷ rest
