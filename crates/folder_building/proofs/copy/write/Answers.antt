use Rattle.std.proofs.Common.{IsErrOf, rules, arith}
use Rattle.std.proofs.lemmas.List.{drop_all}
use Rattle.std.proofs.lemmas.List.Folds.{drop_split}
use Rattle.plain_laws.proofs.Results.{any_err}
use Rattle.folder_building.specs.declared.error.BuildError.TheVariants.{Stray}
use Rattle.folder_building.proofs.Working.{worked_none, worked_more}
use Rattle.folder_building.proofs.Strays.{stray_after}
use Rattle.folder_building.proofs.Pieces.{appends_spoilt}
use Rattle.folder_building.proofs.Copying.{writes_none, writes_more, writes_all}
use Rattle.folder_building.proofs.copy.write.Goals as goal

pub pieces-init : goal.pieces-init
pieces-init g c = record {
  worked = worked_none;
  within = omega arith;
  written = writes_none g.D.Dir.observed c.args.spot.now c.args.path.now c.args.bytes.now (g.D.Dir.shown c.args.dir.now);
}

pub returns-in_err-append-clause-worked : goal.returns-in_err-append-clause-worked
returns-in_err-append-clause-worked g c = worked_more c.pieces.invariant.worked c.append.ensures.worked

pub returns-in_err-append-clause-stray : goal.returns-in_err-append-clause-stray
returns-in_err-append-clause-stray g c h t =
    let k : IsErrOf c.append.result Stray = search (rules, h, c.from_residual.ensures, c.in_err-append.is) in
    stray_after (g.D.Dir.shown c.append.new.dir) t c.pieces.invariant.worked (c.append.ensures.stray k t)

pub returns-in_err-append-clause-refused : goal.returns-in_err-append-clause-refused
returns-in_err-append-clause-refused g c =
    let D = g.D.Dir in
    let i = c.pieces.invariant in
    any_err _ c.from_residual.result (λ t. appends_spoilt c.args.spot.now c.args.path.now (D.shown c.args.dir.now) (D.shown c.pieces.dir) (D.shown c.append.new.dir) i.written.writes.pieces (i.written.writes.appends t) (c.in_err-append.ensures.refused t))

pub pieces-preserved : goal.pieces-preserved
pieces-preserved g c =
    let D = g.D.Dir in
    let i = c.pieces.invariant in
    record {
      worked = worked_more i.worked c.append.ensures.worked;
      within = omega (arith, c.min.ensures, i.within);
      written = writes_more _ _ (D.shown c.append.new.dir) (drop_split c.args.bytes.now c.pieces.at _ (omega arith)) i.written c.in_ok-append.ensures.done;
    }

pub returns-clause-done : goal.returns-clause-done
returns-clause-done g c =
    let i = c.pieces.invariant in
    writes_all (drop_all c.pieces.at c.args.bytes.now c.pieces-test.false) i.written
