use Rattle.std.proofs.Common.{◌≡◌, true, IsErrOf, rules, refl, subst, List, ◌∙◌}
use Rattle.std.proofs.lemmas.List.{take_all}
use Rattle.plain_laws.proofs.Results.{any_err}
use Rattle.folder_building.specs.declared.plan.PlanEntry.{PlanEntry}
use Rattle.folder_building.specs.declared.error.BuildError.TheVariants.{Stray, Unlike}
use Rattle.folder_building.specs.Sources.{AreLike}
use Rattle.folder_building.specs.Stored.{HadContents}
use Rattle.folder_building.specs.Making.{FillsWith}
use Rattle.folder_building.proofs.Working.{worked_none, worked_more}
use Rattle.folder_building.proofs.ReadsOf.{copies_entry}
use Rattle.folder_building.proofs.Strays.{stray_after}
use Rattle.folder_building.proofs.Copying.{same_none, same_more, worked_same, stray_same}
use Rattle.folder_building.proofs.Filling.{fills_none, fills_next, begins_next, planned_path, planned_origin, unlike_at, like_next}
use Rattle.folder_building.proofs.Stored.{had_next, lacks_at}
use Rattle.folder_building.proofs.build.add_all.Goals as goal

pub entries-init : goal.entries-init
entries-init g c = record { place = refl; same = same_none; like = tt; had = λ t. tt; worked = worked_none; copies = worked_none; filled = fills_none g.D.Dir.observed (g.S.Source.shown c.args.source.now) c.args.spot.now c.args.plan.now }

pub add-requires-clause-active : goal.add-requires-clause-active
add-requires-clause-active g c = rw c.entries.invariant.worked.local c.requires.active

pub add-requires-clause-path : goal.add-requires-clause-path
add-requires-clause-path g c = planned_path c.args.plan.now c.entries.entry-index c.entry-item.result c.entries-test.true c.entry-item.is c.requires.plan

pub add-requires-clause-origin : goal.add-requires-clause-origin
add-requires-clause-origin g c = planned_origin c.args.plan.now c.entries.entry-index c.entry-item.result c.entries-test.true c.entry-item.is c.requires.plan

pub entries-preserved : goal.entries-preserved
entries-preserved g c =
    let D = g.D.Dir in
    let S = g.S.Source in
    let i = c.entries.invariant in
    record {
      place = rw i.place refl;
      same = same_more i.same c.add.ensures.same;
      like = like_next (S.shown c.args.source.now) (S.shown c.entries.source) c.args.plan.now c.entries.entry-index c.entry-item.result c.entries-test.true c.entry-item.is i.same i.like c.in_ok-add.ensures.like;
      had = λ t. had_next S.stored c.args.plan.now c.entries.entry-index c.entry-item.result (D.shown c.args.dir.now) (D.shown c.entries.dir) (D.shown c.add.new.dir) c.entries-test.true c.entry-item.is t i.worked c.add.ensures.worked (i.had t) (c.in_ok-add.ensures.had t);
      worked = worked_more i.worked (worked_same c.args.spot.now i.same c.add.ensures.worked);
      copies = worked_more i.copies (copies_entry S.stored c.args.spot.now c.args.plan.now c.entries.entry-index c.entry-item.result c.entries-test.true c.entry-item.is c.add.ensures.copies);
      filled = fills_next D.observed (S.shown c.args.source.now) c.args.spot.now c.args.plan.now c.entries.entry-index c.entry-item.result c.entries-test.true c.entry-item.is c.requires.plan i.same i.filled c.in_ok-add.ensures.done;
    }

pub returns-in_err-add-clause-worked : goal.returns-in_err-add-clause-worked
returns-in_err-add-clause-worked g c = worked_more c.entries.invariant.worked (worked_same c.args.spot.now c.entries.invariant.same c.add.ensures.worked)

pub returns-in_err-add-clause-stray : goal.returns-in_err-add-clause-stray
returns-in_err-add-clause-stray g c h t =
    let D = g.D.Dir in
    let i = c.entries.invariant in
    let k : IsErrOf c.add.result Stray = search (rules, h, c.from_residual.ensures, c.in_err-add.is) in
    stray_after (D.shown c.add.new.dir) t i.worked (stray_same c.args.spot.now (D.shown c.entries.dir) (D.shown c.add.new.dir) i.same (c.add.ensures.stray k t))

pub returns-in_err-add-clause-refused : goal.returns-in_err-add-clause-refused
returns-in_err-add-clause-refused g c =
    let D = g.D.Dir in
    let S = g.S.Source in
    let i = c.entries.invariant in
    any_err _ c.from_residual.result (λ t. begins_next D.observed (S.shown c.args.source.now) c.args.spot.now c.args.plan.now c.entries.entry-index c.entry-item.result c.entries-test.true c.entry-item.is c.requires.plan t i.same i.filled (c.in_err-add.ensures.refused t))

pub returns-clause-done : goal.returns-clause-done
returns-clause-done g c =
    let D = g.D.Dir in
    let plan = c.args.plan.now in
    subst (λ (xs : List PlanEntry). FillsWith D.observed (g.S.Source.shown c.args.source.now) c.args.spot.now plan xs (D.shown c.args.dir.now) (D.shown c.entries.dir)) (take_all c.entries.entry-index plan c.entries-test.false) c.entries.invariant.filled

pub returns-in_err-add-clause-unlike : goal.returns-in_err-add-clause-unlike
returns-in_err-add-clause-unlike g c n h =
    let S = g.S.Source in
    let i = c.entries.invariant in
    let k : IsErrOf c.add.result (Unlike n) = search (rules, h, c.from_residual.ensures, c.in_err-add.is) in
    let why = c.add.ensures.unlike n k in
    unlike_at (S.shown c.args.source.now) (S.shown c.entries.source) c.args.plan.now c.entries.entry-index c.entry-item.result c.entries-test.true c.entry-item.is n (why.0 ∙ i.place) i.same why.1

pub returns-in_err-add-clause-lacks : goal.returns-in_err-add-clause-lacks
returns-in_err-add-clause-lacks g c n h t =
    let i = c.entries.invariant in
    let k : IsErrOf c.add.result (Unlike n) = search (rules, h, c.from_residual.ensures, c.in_err-add.is) in
    let why = c.add.ensures.unlike n k in
    lacks_at g.S.Source.stored c.args.plan.now c.entries.entry-index c.entry-item.result (g.D.Dir.shown c.args.dir.now) (g.D.Dir.shown c.entries.dir) (g.D.Dir.shown c.add.new.dir) c.entries-test.true c.entry-item.is n (why.0 ∙ i.place) t i.worked c.add.ensures.worked (i.had t) (c.add.ensures.lacks n k t)

pub returns-clause-like : goal.returns-clause-like
returns-clause-like g c = subst (λ (xs : List PlanEntry). AreLike (g.S.Source.shown c.args.source.now) xs) (take_all c.entries.entry-index c.args.plan.now c.entries-test.false) c.entries.invariant.like

pub returns-clause-had : goal.returns-clause-had
returns-clause-had g c t =
    let D = g.D.Dir in
    subst (λ (xs : List PlanEntry). HadContents g.S.Source.stored xs (D.shown c.args.dir.now) (D.shown c.entries.dir)) (take_all c.entries.entry-index c.args.plan.now c.entries-test.false) (c.entries.invariant.had t)

pub returns-in_err-add-clause-copies : goal.returns-in_err-add-clause-copies
returns-in_err-add-clause-copies g c =
    worked_more c.entries.invariant.copies (copies_entry g.S.Source.stored c.args.spot.now c.args.plan.now c.entries.entry-index c.entry-item.result c.entries-test.true c.entry-item.is c.add.ensures.copies)
