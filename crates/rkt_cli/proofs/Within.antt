-- A line that was read is within its bounds.
use Rattle.std.proofs.Common.{◌≡◌, Some, Result, Ok, Err, IfOk, Option, subst}
use Rattle.rkt_words.specs.declared.error.WordsError.{WordsError}
use Rattle.rkt_words.specs.declared.line.Line.{Line as Words}
use Rattle.rkt_words.specs.declared.line.Line.TheVariants as words
use Rattle.rkt_words.specs.Wishes.{AsksWell}
use Rattle.rkt_cli.specs.declared.line.Line.{Line}
use Rattle.rkt_cli.specs.Lines.{IsLineRead, IsWithinLimits, known_line}

is_same : (a b : Line) → ◌≡◌ {A = Option Line} (Some a) (Some b) → a ≡ b
is_same a b is = cc

known_within : (w : Words) → AsksWell w → IsWithinLimits (known_line w)
known_within (words.Demo count) asks = asks
known_within w asks = tt

pub reads_within : (w : Words) (r : Result Line WordsError) → AsksWell w → IsLineRead (Some (known_line w)) r → IfOk r IsWithinLimits
reads_within w (Ok read) asks is = subst IsWithinLimits (is_same (known_line w) read is) (known_within w asks)
reads_within w (Err e) asks is = tt
