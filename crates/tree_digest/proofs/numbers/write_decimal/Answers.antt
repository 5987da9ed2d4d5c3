use Rattle.std.proofs.Common.{rules}
use Rattle.tree_digest.proofs.Decimals.{decimal_is_text}
use Rattle.tree_digest.proofs.numbers.write_decimal.Goals as goal

pub returns : goal.returns
returns c = search (rules, decimal_is_text)
