-- Whether a text begins with a word.
use Rattle.std.proofs.Common.{◌≡◌, ℕ, List, take, length, sym}
use Rattle.std.specs.Bool.{Decides}
use Rattle.std.proofs.lemmas.Slice.Eq.{bytes_eq-Decides}
use Rattle.dir_rules.specs.Marks.{begins}

pub begins_decides : (word text : List ℕ) → Decides (begins word text) (take (length word) text ≡ word)
begins_decides word text = let d = bytes_eq-Decides word (take (length word) text) in (λ is. sym (d.0 is), λ is. d.1 (sym is))
