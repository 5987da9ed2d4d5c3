use Rattle.std.proofs.Common.{◌≡◌, ◌==◌, [], length, IsErrOf, rules, arith}
use Rattle.std.specs.List.{concat}
use Rattle.plain_laws.proofs.Results.{any_err}
use Rattle.folder_building.specs.declared.error.BuildError.TheVariants.{Stray, Unlike}
use Rattle.folder_building.proofs.Working.{worked_none, worked_more}
use Rattle.folder_building.proofs.Strays.{stray_after}
use Rattle.folder_building.proofs.Pieces.{under_spoils, under_given_up}
use Rattle.folder_building.proofs.Copying.{same_none, same_more, worked_same, stray_same, copies_none, copies_more, copies_all, front_none, front_more, longer_unlike, ended_unlike, ended_like, short}
use Rattle.folder_building.proofs.Stored.{seen_none, seen_more, unlike_past, unlike_ended, like_ended}
use Rattle.folder_building.proofs.copy.copy.Goals as goal

pub pieces-init : goal.pieces-init
pieces-init g c = record {
  same = same_none;
  worked = worked_none;
  copies = worked_none;
  within = omega arith;
  room = search rules;
  front = front_none (g.S.Source.shown c.args.source.now) c.args.origin.now c.new-check.result c.args.size c.args.sha c.new-check.ensures;
  seen = λ t. seen_none c.new-check.ensures;
  copied = copies_none;
}

pub returns-in_err-count-clause-worked : goal.returns-in_err-count-clause-worked
returns-in_err-count-clause-worked g c = worked_more c.pieces.invariant.worked (worked_same c.args.spot.now c.pieces.invariant.same c.copy_piece.ensures.worked)

pub returns-in_err-count-clause-stray : goal.returns-in_err-count-clause-stray
returns-in_err-count-clause-stray g c h t =
    let D = g.D.Dir in
    let i = c.pieces.invariant in
    let k : IsErrOf c.copy_piece.result Stray = search (rules, h, c.from_residual-in_err-count.ensures, c.in_err-count.is) in
    stray_after (D.shown c.copy_piece.new.dir) t i.worked (stray_same c.args.spot.now (D.shown c.pieces.dir) (D.shown c.copy_piece.new.dir) i.same (c.copy_piece.ensures.stray k t))

pub returns-in_err-count-clause-refused : goal.returns-in_err-count-clause-refused
returns-in_err-count-clause-refused g c =
    let D = g.D.Dir in
    let S = g.S.Source in
    let i = c.pieces.invariant in
    any_err _ c.from_residual-in_err-count.result (λ t. under_spoils c.args.spot.now c.args.path.now (S.shown c.args.source.now) (S.shown c.pieces.source) (D.shown c.args.dir.now) (D.shown c.pieces.dir) (D.shown c.copy_piece.new.dir) i.copied.pieces i.same (i.copied.appends t) (c.in_err-count.ensures.refused t))

pub pieces-preserved : goal.pieces-preserved
pieces-preserved g c =
    let i = c.pieces.invariant in
    let long : length c.deref_mut.result.now ≡ 65536 = search rules in
    record {
      same = same_more i.same c.copy_piece.ensures.same;
      worked = worked_more i.worked (worked_same c.args.spot.now i.same c.copy_piece.ensures.worked);
      copies = worked_more i.copies c.copy_piece.ensures.copies;
      within = omega (arith, i.within, c.in_ok-count.ensures.left);
      room = search rules;
      front = front_more (g.S.Source.shown c.args.source.now) (g.S.Source.shown c.pieces.source) c.args.origin.now c.pieces.more c.pieces.check c.copy_piece.new.check c.args.size c.args.sha c.pieces.at c.in_ok-count.count _ _ _ i.same i.front c.in_ok-count.ensures.read c.in_ok-count.ensures.taken (λ e. short c.in_ok-count.count (length c.deref_mut.result.now) (omega (arith, c.in_ok-count.ensures.most, c.in_ok-count.ensures.left)) long e);
      seen = λ t. seen_more c.in_ok-count.count c.copy_piece.new.room (c.in_ok-count.count == 65536) (i.seen t) i.worked.same (c.in_ok-count.ensures.sees t) c.in_ok-count.ensures.most c.in_ok-count.ensures.taken (λ e. short c.in_ok-count.count (length c.deref_mut.result.now) (omega (arith, c.in_ok-count.ensures.most, c.in_ok-count.ensures.left)) long e);
      copied = copies_more i.same i.copied c.in_ok-count.ensures.done;
    }

pub returns-then-matches-clause-done : goal.returns-then-matches-clause-done
returns-then-matches-clause-done g c =
    let i = c.pieces.invariant in
    let taken = i.copied.taken c.args.size c.args.sha [] c.new-check.ensures in
    let fits = (c.matches.ensures c.args.size c.args.sha (concat i.copied.pieces) taken).0 c.if-matches.true in
    copies_all c.args.size c.args.sha i.copied fits.0 fits.1

pub returns-clause-refused : goal.returns-clause-refused
returns-clause-refused g c t =
    let D = g.D.Dir in
    let i = c.pieces.invariant in
    under_given_up c.args.spot.now c.args.path.now (g.S.Source.shown c.args.source.now) (D.shown c.args.dir.now) (D.shown c.pieces.dir) i.copied.pieces (i.copied.appends t)

pub returns-in_err-count-clause-unlike : goal.returns-in_err-count-clause-unlike
returns-in_err-count-clause-unlike g c n h =
    let S = g.S.Source in
    let k : IsErrOf c.copy_piece.result (Unlike n) = search (rules, h, c.from_residual-in_err-count.ensures, c.in_err-count.is) in
    let why = c.copy_piece.ensures.unlike n k in
    (why.0, longer_unlike (S.shown c.args.source.now) (S.shown c.pieces.source) c.args.origin.now c.args.size c.pieces.at c.args.sha c.pieces.invariant.same c.pieces.invariant.within why.1)

pub returns-clause-unlike : goal.returns-clause-unlike
returns-clause-unlike g c n h =
    let is : n ≡ c.args.place = cc in
    (is, ended_unlike (g.S.Source.shown c.args.source.now) c.args.origin.now c.pieces.more c.pieces.check c.args.size c.args.sha c.pieces.at c.matches.result c.pieces-test.false c.pieces.invariant.front c.matches.ensures c.if-matches.false)

pub returns-in_err-count-clause-lacks : goal.returns-in_err-count-clause-lacks
returns-in_err-count-clause-lacks g c n h t =
    let k : IsErrOf c.copy_piece.result (Unlike n) = search (rules, h, c.from_residual-in_err-count.ensures, c.in_err-count.is) in
    unlike_past t c.pieces.invariant.worked c.pieces.invariant.within (c.pieces.invariant.seen t) (c.copy_piece.ensures.lacks n k t)

pub returns-clause-lacks : goal.returns-clause-lacks
returns-clause-lacks g c n h t = unlike_ended c.matches.result c.pieces-test.false (c.pieces.invariant.seen t) c.matches.ensures c.if-matches.false

pub returns-then-matches-clause-like : goal.returns-then-matches-clause-like
returns-then-matches-clause-like g c = ended_like (g.S.Source.shown c.args.source.now) c.args.origin.now c.pieces.more c.pieces.check c.args.size c.args.sha c.pieces.at c.matches.result c.pieces-test.false c.pieces.invariant.front c.matches.ensures c.if-matches.true

pub returns-then-matches-clause-had : goal.returns-then-matches-clause-had
returns-then-matches-clause-had g c t = like_ended c.matches.result c.pieces-test.false (c.pieces.invariant.seen t) c.matches.ensures c.if-matches.true

pub returns-in_err-count-clause-copies : goal.returns-in_err-count-clause-copies
returns-in_err-count-clause-copies g c = worked_more c.pieces.invariant.copies c.copy_piece.ensures.copies
