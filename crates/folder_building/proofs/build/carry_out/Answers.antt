use Rattle.std.proofs.Common.{◌≡◌, true}
use Rattle.plain_laws.proofs.Results.{if_ok, if_err}
use Rattle.folder_building.specs.Making.{CarriesOut, BeginsPlan}
use Rattle.folder_building.specs.Stored.{reads_contents}
use Rattle.folder_building.specs.Changes.{SyncsAll, UnsyncsAll}
use Rattle.folder_building.proofs.Working.{worked_more}
use Rattle.folder_building.proofs.ReadsOf.{copies_here}
use Rattle.folder_building.proofs.Strays.{stray_after}
use Rattle.folder_building.proofs.Copying.{worked_here, stray_here, ok_any}
use Rattle.folder_building.proofs.Filling.{carries_out, begins_after}
use Rattle.folder_building.proofs.Stored.{all_had_before}
use Rattle.folder_building.proofs.build.carry_out.Goals as goal

pub returns-clause-worked : goal.returns-clause-worked
returns-clause-worked g c = worked_more c.add_all.ensures.worked (worked_here c.args.spot (g.S.Source.shown c.args.source.now) c.sync_all.ensures.worked)

pub returns-clause-stray : goal.returns-clause-stray
returns-clause-stray g c h t =
    let D = g.D.Dir in
    stray_after (D.shown c.sync_all.new.dir) t c.add_all.ensures.worked (stray_here c.args.spot (g.S.Source.shown c.args.source.now) (D.shown c.add_all.new.dir) (D.shown c.sync_all.new.dir) (c.sync_all.ensures.stray h t))

pub returns-clause-done : goal.returns-clause-done
returns-clause-done g c =
    let D = g.D.Dir in
    let source = g.S.Source.shown c.args.source.now in
    let plan = c.args.plan.now in
    let old = D.shown c.args.dir.now in
    let mid = D.shown c.add_all.new.dir in
    let new = D.shown c.sync_all.new.dir in
    if_ok (λ done. D.observed ≡ true → SyncsAll c.args.spot plan mid new) (λ done. CarriesOut D.observed source c.args.spot plan old new) c.sync_all.result (λ done f. carries_out D.observed source c.args.spot plan old mid new c.in_ok-add_all.ensures.done f) c.sync_all.ensures.done

pub returns-clause-refused : goal.returns-clause-refused
returns-clause-refused g c =
    let D = g.D.Dir in
    let source = g.S.Source.shown c.args.source.now in
    let plan = c.args.plan.now in
    let old = D.shown c.args.dir.now in
    let mid = D.shown c.add_all.new.dir in
    let new = D.shown c.sync_all.new.dir in
    if_err (λ e. D.observed ≡ true → UnsyncsAll c.args.spot plan mid new) (λ e. D.observed ≡ true → BeginsPlan source c.args.spot plan old new) c.sync_all.result (λ e f t. begins_after D.observed source c.args.spot plan old mid new t c.in_ok-add_all.ensures.done (f t)) c.sync_all.ensures.refused

pub returns-clause-had : goal.returns-clause-had
returns-clause-had g c =
    let D = g.D.Dir in
    ok_any c.sync_all.result (λ t. all_had_before (D.shown c.add_all.new.dir) (D.shown c.sync_all.new.dir) (c.sync_all.ensures.worked.extends t) g.S.Source.stored c.args.plan.now (D.shown c.args.dir.now) c.add_all.ensures.worked.same (c.in_ok-add_all.ensures.had t))

pub returns-clause-copies : goal.returns-clause-copies
returns-clause-copies g c = worked_more c.add_all.ensures.copies (copies_here c.args.spot (reads_contents g.S.Source.stored c.args.plan.now) c.sync_all.ensures.worked)
