use Rattle.std.proofs.Common.{rules}
use Rattle.host_spawner.specs.Layout.{closing}
use Rattle.host_spawner.proofs.Told.{one_before}
use Rattle.host_spawner.proofs.layout.set_modes.Goals as goal

pub lines-preserved : goal.lines-preserved
lines-preserved g c = λ t.
    let lines = c.args.lines.now in
    let line = c.index-lines-place.result in
    one_before (closing c.args.root.now) _ _ _ lines c.lines.behind line (search rules) (c.lines.invariant t) (search (rules, c.in_ok-close_line.ensures.recorded t))
