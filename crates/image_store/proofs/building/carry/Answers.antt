use Rattle.std.proofs.Common.{◌≡◌, true, false, Some, None, []}
use Rattle.plain_laws.proofs.Results.{if_err}
use Rattle.image_store.specs.Requests.{building_spot}
use Rattle.image_store.specs.Work.{UnderImportLocks, WhereImporting, holding, HasImportFolder}
use Rattle.image_store.specs.Causes.{bundle_source_at, FillCause}
use Rattle.image_store.proofs.Refusals.{fill_after}
use Rattle.folder_building.proofs.Working.{worked_more}
use Rattle.folder_building.proofs.Following.{follows_work}
use Rattle.image_store.proofs.building.carry.Goals as goal

pub returns-clause-cause : goal.returns-clause-cause
returns-clause-cause g c =
    let D = g.D.Dir in
    let source = bundle_source_at g.B.Bundle.observed (g.B.Bundle.shown c.args.bundle.now).tree c.args.path.now in
    if_err (λ e. FillCause D.observed source c.args.plan.now e (D.shown c.make_folder.new.dir) (D.shown c.fill.new.dir))
    (λ e. FillCause D.observed source c.args.plan.now e (D.shown c.args.dir.now) (D.shown c.fill.new.dir)) c.fill.result
    (λ e x. fill_after (follows_work c.make_folder.ensures.worked) x) c.fill.ensures.cause

pub returns-clause-left : goal.returns-clause-left
returns-clause-left g c =
    let D = g.D.Dir in
    if_err (λ e. D.observed ≡ true → WhereImporting c.args.draw UnderImportLocks true (Some (holding (building_spot c.args.draw) [])) (D.shown c.make_folder.new.dir) (λ intent hs. HasImportFolder c.args.draw intent hs (D.shown c.fill.new.dir)))
    (λ e. D.observed ≡ true → WhereImporting c.args.draw UnderImportLocks false None (D.shown c.args.dir.now) (λ intent hs. HasImportFolder c.args.draw intent hs (D.shown c.fill.new.dir))) c.fill.result
    (λ e f t intent hs imports under k. f t intent hs imports under (c.in_ok-make_folder.ensures.made t intent hs imports under k)) c.fill.ensures.left

pub returns-clause-worked : goal.returns-clause-worked
returns-clause-worked g c = worked_more c.make_folder.ensures.worked c.fill.ensures.worked
