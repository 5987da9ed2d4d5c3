use Rattle.std.proofs.Common.{◌≡◌, true, false, Some, sym, ap, subst, ◌∙◌}
use Rattle.rkt_cli.specs.Tasks.{Task, MeansItsPod}
use Rattle.rkt_cli.specs.Commands.{uses_dir, intent_of}
use Rattle.rkt_cli.proofs.Conforming.{apart_conforming, list_conforming, report_conforming}
use Rattle.rkt_cli.proofs.StoreRan.{imports, import_ran, removal_conforming, sweep_conforming, removal_ran, sweep_ran}
use Rattle.rkt_cli.proofs.ValidateRan.{validate_ran}
use Rattle.rkt_cli.proofs.PodRan.{prepares, prepare_ran}
use Rattle.rkt_cli.proofs.PodRemovals.{rm_conforming, gc_conforming, rm_ran, gc_ran}
use Rattle.rkt_cli.proofs.Makers.{inspects_none, surveys_none, visits_none, lists_none, imports_none, image_removes_none, image_sweeps_none, removes_none, sweeps_none, prepare_hands}
use Rattle.pod_build.proofs.Handing.{none_handed}
use Rattle.image_store.specs.Requests.{building_spot}
use Rattle.rkt_cli.proofs.Acting.{at_task}
use Rattle.rkt_cli.proofs.Reported.{cat_ran, list_ran, none_open, status_ran}
use Rattle.rkt_cli.proofs.perform.act_alone.Goals as goal

pub returns-in-Validate-clause-ran : goal.returns-in-Validate-clause-ran
returns-in-Validate-clause-ran g c = validate_ran _ _ _ c.in-Validate.path _ _ _ _ _ (at_task c.args.pod c.in-Validate.is) c.validate.ensures.faults c.validate.ensures.cause c.validate.ensures.refusals c.validate.ensures.reads c.validate.ensures.says

pub returns-in-Status-clause-keeps : goal.returns-in-Status-clause-keeps
returns-in-Status-clause-keeps g c t intent said = report_conforming intent g.D.Dir.observed _ _ c.pod_status.ensures.only t

pub returns-in-Validate-clause-keeps : goal.returns-in-Validate-clause-keeps
returns-in-Validate-clause-keeps g c t intent said = apart_conforming intent (g.D.Dir.shown c.args.dir.now)

pub returns-in-ImageList-clause-keeps : goal.returns-in-ImageList-clause-keeps
returns-in-ImageList-clause-keeps g c t intent said = list_conforming intent g.D.Dir.observed _ _ (c.image_list.ensures.known t)

pub returns-in-ImageImport-clause-keeps : goal.returns-in-ImageImport-clause-keeps
returns-in-ImageImport-clause-keeps g c t intent said = c.image_import.ensures.known t intent (imports c.in-ImageImport.path c.args.now c.args.draw.now intent (subst (λ (line : Task). intent_of line c.args.now c.args.draw.now ≡ Some intent) (at_task c.args.pod c.in-ImageImport.is) said))

pub returns-in-ImageImport-clause-ran : goal.returns-in-ImageImport-clause-ran
returns-in-ImageImport-clause-ran g c =
    let D = g.D.Dir in
    import_ran _ _ _ c.in-ImageImport.path D.observed (D.shown c.args.dir.now) (D.shown c.image_import.new.dir) _ _ _ (at_task c.args.pod c.in-ImageImport.is) c.image_import.ensures.worked c.image_import.ensures.cause
    c.image_import.ensures.bundle c.image_import.ensures.bundle_cause c.image_import.ensures.refusals c.image_import.ensures.says

pub returns-in-ImageRm-clause-keeps : goal.returns-in-ImageRm-clause-keeps
returns-in-ImageRm-clause-keeps g c t intent said =
    removal_conforming c.in-ImageRm.key c.args.now c.args.draw.now intent g.D.Dir.observed _ _ (subst (λ (line : Task). intent_of line c.args.now c.args.draw.now ≡ Some intent) (at_task c.args.pod c.in-ImageRm.is) said) (c.image_rm.ensures.conforms t)

pub returns-in-ImageRm-clause-ran : goal.returns-in-ImageRm-clause-ran
returns-in-ImageRm-clause-ran g c =
    let D = g.D.Dir in
    removal_ran _ _ _ c.in-ImageRm.key D.observed (D.shown c.args.dir.now) (D.shown c.image_rm.new.dir) _ _ (at_task c.args.pod c.in-ImageRm.is) c.image_rm.ensures.worked c.image_rm.ensures.cause c.image_rm.ensures.refusals c.image_rm.ensures.says c.image_rm.ensures.kept

pub returns-in-ImageGc-clause-keeps : goal.returns-in-ImageGc-clause-keeps
returns-in-ImageGc-clause-keeps g c t intent said =
    sweep_conforming c.args.now c.args.draw.now intent g.D.Dir.observed _ _ (subst (λ (line : Task). intent_of line c.args.now c.args.draw.now ≡ Some intent) (at_task c.args.pod c.in-ImageGc.is) said) (c.image_gc.ensures.conforms t)

pub returns-in-ImageGc-clause-ran : goal.returns-in-ImageGc-clause-ran
returns-in-ImageGc-clause-ran g c =
    let D = g.D.Dir in
    sweep_ran _ _ _ D.observed (D.shown c.args.dir.now) (D.shown c.image_gc.new.dir) _ _ (at_task c.args.pod c.in-ImageGc.is) c.image_gc.ensures.worked c.image_gc.ensures.cause c.image_gc.ensures.refusals c.image_gc.ensures.says

pub returns-in-Prepare-clause-keeps : goal.returns-in-Prepare-clause-keeps
returns-in-Prepare-clause-keeps g c t intent said =
    c.prepare_pod.ensures.known t intent (prepares c.in-Prepare.wanted c.args.now c.args.draw.now intent (subst (λ (line : Task). intent_of line c.args.now c.args.draw.now ≡ Some intent) (at_task c.args.pod c.in-Prepare.is) said))

pub returns-in-Prepare-clause-ran : goal.returns-in-Prepare-clause-ran
returns-in-Prepare-clause-ran g c =
    let D = g.D.Dir in
    prepare_ran _ _ _ c.in-Prepare.wanted D.observed (D.shown c.args.dir.now) (D.shown c.prepare_pod.new.dir) _ _ (at_task c.args.pod c.in-Prepare.is) c.prepare_pod.ensures.worked c.prepare_pod.ensures.cause c.prepare_pod.ensures.refusals c.prepare_pod.ensures.says

pub returns-in-Rm-clause-keeps : goal.returns-in-Rm-clause-keeps
returns-in-Rm-clause-keeps g c t intent said =
    rm_conforming c.args.pod c.args.now c.args.draw.now intent g.D.Dir.observed _ _ (subst (λ (task : Task). MeansItsPod task) (at_task c.args.pod c.in-Rm.is) c.requires.meant) (subst (λ (line : Task). intent_of line c.args.now c.args.draw.now ≡ Some intent) (at_task c.args.pod c.in-Rm.is) said) (c.rm.ensures.ready t)

pub returns-in-Rm-clause-ran : goal.returns-in-Rm-clause-ran
returns-in-Rm-clause-ran g c =
    let D = g.D.Dir in
    rm_ran _ _ _ c.args.pod D.observed (D.shown c.args.dir.now) (D.shown c.rm.new.dir) _ _ (at_task c.args.pod c.in-Rm.is) c.rm.ensures.worked c.rm.ensures.cause c.rm.ensures.refusals c.rm.ensures.says c.rm.ensures.kept

pub returns-in-Gc-clause-keeps : goal.returns-in-Gc-clause-keeps
returns-in-Gc-clause-keeps g c t intent said =
    gc_conforming c.args.now c.args.draw.now intent g.D.Dir.observed _ _ (subst (λ (line : Task). intent_of line c.args.now c.args.draw.now ≡ Some intent) (at_task c.args.pod c.in-Gc.is) said) (c.gc_pods.ensures.ready t)

pub returns-in-Gc-clause-ran : goal.returns-in-Gc-clause-ran
returns-in-Gc-clause-ran g c =
    let D = g.D.Dir in
    gc_ran _ _ _ D.observed (D.shown c.args.dir.now) (D.shown c.gc_pods.new.dir) _ _ (at_task c.args.pod c.in-Gc.is) c.gc_pods.ensures.worked c.gc_pods.ensures.cause c.gc_pods.ensures.refusals c.gc_pods.ensures.says

pub returns-in-Status-clause-makers : goal.returns-in-Status-clause-makers
returns-in-Status-clause-makers g c t uses intent said known run = none_handed (inspects_none c.args.pod) (c.pod_status.ensures.only.extends t)

pub returns-in-ImageList-clause-makers : goal.returns-in-ImageList-clause-makers
returns-in-ImageList-clause-makers g c t uses intent said known run = none_handed (lists_none) (c.image_list.ensures.extends t)

pub returns-in-ImageImport-clause-makers : goal.returns-in-ImageImport-clause-makers
returns-in-ImageImport-clause-makers g c t uses intent said known run = none_handed (imports_none (building_spot c.args.draw.now.uuid)) (c.image_import.ensures.worked.extends t)

pub returns-in-ImageRm-clause-makers : goal.returns-in-ImageRm-clause-makers
returns-in-ImageRm-clause-makers g c t uses intent said known run = none_handed (image_removes_none c.in-ImageRm.key c.args.draw.now.uuid) (c.image_rm.ensures.worked.extends t)

pub returns-in-ImageGc-clause-makers : goal.returns-in-ImageGc-clause-makers
returns-in-ImageGc-clause-makers g c t uses intent said known run = none_handed (image_sweeps_none) (c.image_gc.ensures.worked.extends t)

pub returns-in-Rm-clause-makers : goal.returns-in-Rm-clause-makers
returns-in-Rm-clause-makers g c t uses intent said known run = none_handed (removes_none c.args.pod c.args.now) (c.rm.ensures.worked.extends t)

pub returns-in-Gc-clause-makers : goal.returns-in-Gc-clause-makers
returns-in-Gc-clause-makers g c t uses intent said known run = none_handed (sweeps_none c.args.now) (c.gc_pods.ensures.worked.extends t)

pub returns-in-Prepare-clause-makers : goal.returns-in-Prepare-clause-makers
returns-in-Prepare-clause-makers g c t uses = prepare_hands (g.D.Dir.shown c.args.dir.now) (g.D.Dir.shown c.prepare_pod.new.dir) c.args.now c.args.draw.now (at_task c.args.pod c.in-Prepare.is) (c.prepare_pod.ensures.makers t)

pub returns-in-Validate-clause-makers : goal.returns-in-Validate-clause-makers
returns-in-Validate-clause-makers g c t uses = let clash : true ≡ false = sym uses ∙ ap uses_dir (at_task c.args.pod c.in-Validate.is) in cc

pub list-requires-clause-alone : goal.list-requires-clause-alone
list-requires-clause-alone g c = none_open (g.D.Dir.shown c.args.dir.now).local c.requires.ready

pub returns-in-PodList-clause-keeps : goal.returns-in-PodList-clause-keeps
returns-in-PodList-clause-keeps g c t intent said = report_conforming intent g.D.Dir.observed _ _ c.list.ensures.only t

pub returns-in-PodList-clause-makers : goal.returns-in-PodList-clause-makers
returns-in-PodList-clause-makers g c t uses intent said known run = none_handed surveys_none (c.list.ensures.only.extends t)

pub returns-in-PodList-clause-ran : goal.returns-in-PodList-clause-ran
returns-in-PodList-clause-ran g c =
    let D = g.D.Dir in
    list_ran _ _ _ D.observed (D.shown c.args.dir.now) (D.shown c.list.new.dir) _ _ (at_task c.args.pod c.in-PodList.is) c.list.ensures.only c.list.ensures.cause c.list.ensures.refusals c.list.ensures.says

pub returns-in-CatManifest-clause-keeps : goal.returns-in-CatManifest-clause-keeps
returns-in-CatManifest-clause-keeps g c t intent said = report_conforming intent g.D.Dir.observed _ _ c.cat_manifest.ensures.only t

pub returns-in-CatManifest-clause-makers : goal.returns-in-CatManifest-clause-makers
returns-in-CatManifest-clause-makers g c t uses intent said known run = none_handed (visits_none c.args.pod) (c.cat_manifest.ensures.only.extends t)

pub returns-in-CatManifest-clause-ran : goal.returns-in-CatManifest-clause-ran
returns-in-CatManifest-clause-ran g c =
    let D = g.D.Dir in
    cat_ran _ _ _ D.observed (D.shown c.args.dir.now) (D.shown c.cat_manifest.new.dir) _ _ _ c.args.pod (at_task c.args.pod c.in-CatManifest.is) c.cat_manifest.ensures.only c.cat_manifest.ensures.cause c.cat_manifest.ensures.refusals c.cat_manifest.ensures.says

pub returns-in-Status-clause-ran : goal.returns-in-Status-clause-ran
returns-in-Status-clause-ran g c =
    let D = g.D.Dir in
    status_ran _ _ _ D.observed (D.shown c.args.dir.now) (D.shown c.pod_status.new.dir) _ _ _ c.args.pod (at_task c.args.pod c.in-Status.is) c.pod_status.ensures.only c.pod_status.ensures.cause c.pod_status.ensures.refusals c.pod_status.ensures.says
