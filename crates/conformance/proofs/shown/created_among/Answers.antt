use Rattle.std.proofs.Common.{◌≡◌, ◌∙◌}
use Rattle.dir_rules.specs.Marks.{created_moment}
use Rattle.dir_rules.specs.Seen.{later}
use Rattle.conformance.proofs.Greatest.{greatest_more}
use Rattle.conformance.proofs.shown.created_among.Goals as goal

pub items-preserved : goal.items-preserved
items-preserved c =
    let more = greatest_more c.args.items.now c.items.item-index c.item-item.result c.items.greatest c.items-test.true in
    let name : created_moment c.as_bytes.result.now ≡ created_moment c.item-item.result.name = cc in
    let now : c.later-greatest.result ≡ later c.items.greatest (created_moment c.item-item.result.name) = cc in
    rw now (rw c.item-item.is (more ∙ c.items.invariant))
