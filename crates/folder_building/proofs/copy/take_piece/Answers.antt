use Rattle.std.proofs.Common.{◌≡◌, ◌≤◌, ◌<◌, ◌+◌, length, refl, arith, rules}
use Rattle.folder_building.specs.declared.error.BuildError.TheVariants.{Unlike}
use Rattle.folder_building.proofs.Copying.{missing_longer}
use Rattle.folder_building.proofs.Stored.{ends_past}
use Rattle.folder_building.proofs.copy.take_piece.Goals as goal

pub returns-in-Err-clause-unlike : goal.returns-in-Err-clause-unlike
returns-in-Err-clause-unlike g c n h =
    let is : c.source_error.result ≡ Unlike n = cc in
    let why = c.source_error.ensures.unlike n is in
    (why.0, missing_longer (g.S.Source.shown c.args.source.now) c.args.origin.now (c.args.at + c.args.left) (c.in-Err.ensures.missing (rw why.1 refl)))

pub returns-then-count-left-clause-lacks : goal.returns-then-count-left-clause-lacks
returns-then-count-left-clause-lacks g c n h t =
    let within : c.in-Ok.count ≤ length c.read.new.room = search rules in
    let more : c.args.left < c.in-Ok.count = omega (arith, c.if-count-left.true) in
    ends_past (length c.args.room.now) c.in-Ok.count c.read.new.room within more (c.in-Ok.ensures.sees t)
