use Rattle.std.proofs.Common.{◌≡◌, IsErrOf, rules, take, arith, ap}
use Rattle.std.proofs.lemmas.List.{length-take-le}
use Rattle.dir_model.proofs.Moments.{at_before}
use Rattle.folder_building.specs.declared.error.BuildError.TheVariants.{Stray}
use Rattle.folder_building.specs.Stored.{reads_stored}
use Rattle.folder_building.proofs.Working.{worked_more}
use Rattle.folder_building.proofs.ReadsOf.{copies_here, copies_there}
use Rattle.folder_building.proofs.Strays.{stray_after}
use Rattle.folder_building.proofs.Copying.{worked_here, worked_there, stray_here, copies_piece, copies_end}
use Rattle.folder_building.proofs.copy.copy_piece.Goals as goal

pub returns-in_err-count-clause-worked : goal.returns-in_err-count-clause-worked
returns-in_err-count-clause-worked g c = worked_there c.args.spot.now (g.S.Source.shown c.args.source.now) c.take_piece.ensures.worked

pub returns-in_err-append-clause-worked : goal.returns-in_err-append-clause-worked
returns-in_err-append-clause-worked g c = worked_more (worked_there c.args.spot.now (g.S.Source.shown c.args.source.now) c.take_piece.ensures.worked) (worked_here c.args.spot.now (g.S.Source.shown c.args.source.now) c.append.ensures.worked)

pub returns-in_ok-append-clause-worked : goal.returns-in_ok-append-clause-worked
returns-in_ok-append-clause-worked g c = worked_more (worked_there c.args.spot.now (g.S.Source.shown c.args.source.now) c.take_piece.ensures.worked) (worked_here c.args.spot.now (g.S.Source.shown c.args.source.now) c.append.ensures.worked)

pub returns-else-count-gt0-clause-worked : goal.returns-else-count-gt0-clause-worked
returns-else-count-gt0-clause-worked g c = worked_there c.args.spot.now (g.S.Source.shown c.args.source.now) c.take_piece.ensures.worked

pub returns-in_err-append-clause-stray : goal.returns-in_err-append-clause-stray
returns-in_err-append-clause-stray g c h t =
    let D = g.D.Dir in
    let spot = c.args.spot.now in
    let k : IsErrOf c.append.result Stray = search (rules, h, c.from_residual-in_err-append.ensures, c.in_err-append.is) in
    stray_after (D.shown c.append.new.dir) t (worked_there spot (g.S.Source.shown c.args.source.now) c.take_piece.ensures.worked) (stray_here spot (g.S.Source.shown c.args.source.now) (D.shown c.take_piece.new.dir) (D.shown c.append.new.dir) (c.append.ensures.stray k t))

pub returns-in_ok-append-clause-done : goal.returns-in_ok-append-clause-done
returns-in_ok-append-clause-done g c =
    copies_piece c.in_ok-count.count (take c.in_ok-count.count c.take_piece.new.room) (length-take-le c.in_ok-count.count c.take_piece.new.room c.in_ok-count.ensures.most) c.in_ok-count.ensures.taken c.take_piece.ensures.known c.in_ok-append.ensures.done

pub returns-else-count-gt0-clause-done : goal.returns-else-count-gt0-clause-done
returns-else-count-gt0-clause-done g c =
    let none : c.in_ok-count.count ≡ 0 = omega (arith, c.if-count-gt0.false) in
    rw none (copies_end (take c.in_ok-count.count c.take_piece.new.room) (ap (λ n. take n c.take_piece.new.room) none) c.in_ok-count.ensures.taken c.take_piece.ensures.known)

pub returns-in_ok-append-clause-sees : goal.returns-in_ok-append-clause-sees
returns-in_ok-append-clause-sees g c t inner is = at_before (c.in_ok-count.ensures.sees t inner is) c.take_piece.ensures.worked.same (c.append.ensures.worked.extends t)

pub returns-in_err-count-clause-copies : goal.returns-in_err-count-clause-copies
returns-in_err-count-clause-copies g c = copies_there c.args.spot.now (reads_stored (g.S.Source.stored c.args.origin.now)) c.take_piece.ensures.copies

pub returns-in_err-append-clause-copies : goal.returns-in_err-append-clause-copies
returns-in_err-append-clause-copies g c = worked_more (copies_there c.args.spot.now (reads_stored (g.S.Source.stored c.args.origin.now)) c.take_piece.ensures.copies) (copies_here c.args.spot.now (reads_stored (g.S.Source.stored c.args.origin.now)) c.append.ensures.worked)

pub returns-in_ok-append-clause-copies : goal.returns-in_ok-append-clause-copies
returns-in_ok-append-clause-copies g c = worked_more (copies_there c.args.spot.now (reads_stored (g.S.Source.stored c.args.origin.now)) c.take_piece.ensures.copies) (copies_here c.args.spot.now (reads_stored (g.S.Source.stored c.args.origin.now)) c.append.ensures.worked)

pub returns-else-count-gt0-clause-copies : goal.returns-else-count-gt0-clause-copies
returns-else-count-gt0-clause-copies g c = copies_there c.args.spot.now (reads_stored (g.S.Source.stored c.args.origin.now)) c.take_piece.ensures.copies
