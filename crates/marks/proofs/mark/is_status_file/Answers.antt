use Rattle.std.proofs.Common.{◌≡◌, ◌∙◌, true, not, nat_lt, length, drop, ap, arith}
use Rattle.std.proofs.lemmas.Bool.Decides.{nat_tests}
use Rattle.dir_rules.specs.Marks.{has_slash, is_below_status}
use Rattle.marks.proofs.Texts.{and_last}
use Rattle.marks.proofs.mark.is_status_file.Goals as goal

pub returns : goal.returns
returns c =
    let path = c.args.path.now in
    let below : is_below_status path ≡ true = cc in
    let longer : nat_lt 25 (length path) ≡ true = grind (arith, nat_tests) in
    let same : c.has_slash.result ≡ has_slash (drop 25 path) = rw c.rest_from.ensures at c.has_slash.ensures in
    ap not same ∙ and_last (is_below_status path) (nat_lt 25 (length path)) (not (has_slash (drop 25 path))) below longer
