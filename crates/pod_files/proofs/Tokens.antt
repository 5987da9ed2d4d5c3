-- A token is text.
use Rattle.std.proofs.Common.{arith, ◌≡◌, ◌==◌, ◌<◌, ℕ, zero, suc, true, List, [], ◌∷◌, length}
use Rattle.std.specs.List.{list_all}
use Rattle.std.specs.Prelude.{IsUtf8}
use Rattle.std.specs.Str.{IsAscii}
use Rattle.std.proofs.lemmas.Bool.Decides.{nat_tests}
use Rattle.std.proofs.lemmas.Str.{IsUtf8-from_ascii}
use Rattle.dir_model.proofs.Lists.{and_left, and_right}
use Rattle.pod_files.specs.Files.{is_digit, is_token}

digit_small : (b : ℕ) → is_digit b ≡ true → b < 128
digit_small b h = grind (arith, nat_tests)

digits_ascii : (bs : List ℕ) → list_all is_digit bs ≡ true → IsAscii bs
digits_ascii [] h i = omega arith
digits_ascii (b ∷ bs) h zero = digit_small b (and_left (is_digit b) (list_all is_digit bs) h)
digits_ascii (b ∷ bs) h (suc i) = digits_ascii bs (and_right (is_digit b) (list_all is_digit bs) h) i

pub token_utf8 : (bytes : List ℕ) → is_token bytes ≡ true → IsUtf8 bytes
token_utf8 bytes h = IsUtf8-from_ascii bytes (digits_ascii bytes (and_right (length bytes == 32) (list_all is_digit bytes) h))
