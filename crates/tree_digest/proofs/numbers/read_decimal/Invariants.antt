use Rattle.std.proofs.Common.{◌≡◌, ◌<◌, min, take}
use Rattle.std.specs.Str.Parse.{digits_value}
use Rattle.tree_digest.proofs.Decimals.{IsDecimal}
use Rattle.tree_digest.proofs.numbers.read_decimal.Given as goal

abbrev pub invariant-loop-byte : goal.invariant-loop-byte
invariant-loop-byte l = record {
  value : l.value ≡ min (digits_value 10 (take l.byte-index l.field)) 1099511627776;
  text : 0 < l.byte-index → IsDecimal (take l.byte-index l.field);
}
