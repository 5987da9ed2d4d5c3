use Rattle.std.proofs.Common.{◌≡◌, true, Err, sym, ap, subst, ◌∙◌}
use Rattle.dir_model.specs.declared.spot.Spot.{Spot}
use Rattle.folder_removal.specs.Removal.{is_removal_area}
use Rattle.pod_locks.specs.declared.setback.Setback.{Setback}
use Rattle.dir_model.specs.Spots.{pod_spot}
use Rattle.pod_locks.specs.Setbacks.{delete_setback}
use Rattle.pod_gc.proofs.Deleting.{place_deletes, worked_delete, delete_stops, delete_calm, deed_removed, known_deleted, known_tried}
use Rattle.pod_gc.specs.RemovalCauses.{StoppedDeleting}
use Rattle.pod_gc.proofs.RemovalLawful.{knows_stray}
use Rattle.pod_gc.proofs.deletion.delete_standing.Goals as goal

pub delete_folder-requires-clause-area : goal.delete_folder-requires-clause-area
delete_folder-requires-clause-area g c = subst (λ (s : Spot). is_removal_area s.area ≡ true) (sym c.of_pod.ensures) (place_deletes c.args.area c.requires.garbage)

pub returns-in-Ok-clause-worked : goal.returns-in-Ok-clause-worked
returns-in-Ok-clause-worked g c =
    let d = c.delete_folder.ensures in
    worked_delete c.args.pod c.args.area (g.D.Dir.shown c.args.dir.now) (g.D.Dir.shown c.delete_folder.new.dir) c.of_pod.ensures d.same d.faults d.local d.extends

pub returns-in-Ok-clause-done : goal.returns-in-Ok-clause-done
returns-in-Ok-clause-done g c t = deed_removed c.args.pod c.args.area (g.D.Dir.shown c.args.dir.now) (g.D.Dir.shown c.delete_folder.new.dir) c.of_pod.ensures (c.in-Ok.ensures.gone t)

pub returns-in-Ok-clause-known : goal.returns-in-Ok-clause-known
returns-in-Ok-clause-known g c t = known_deleted c.of_pod.ensures c.requires.garbage (c.in-Ok.ensures.deleted t)

pub returns-in-Err-clause-worked : goal.returns-in-Err-clause-worked
returns-in-Err-clause-worked g c =
    let d = c.delete_folder.ensures in
    worked_delete c.args.pod c.args.area (g.D.Dir.shown c.args.dir.now) (g.D.Dir.shown c.delete_folder.new.dir) c.of_pod.ensures d.same d.faults d.local d.extends

pub returns-in-Err-clause-stopped : goal.returns-in-Err-clause-stopped
returns-in-Err-clause-stopped g c =
    let D = g.D.Dir in
    let old = D.shown c.args.dir.now in
    let new = D.shown c.delete_folder.new.dir in
    subst (λ (x : Setback). StoppedDeleting D.observed (pod_spot c.args.pod c.args.area) x old new) (sym c.delete_setback.ensures)
    (subst (λ (s : Spot). StoppedDeleting D.observed s (delete_setback c.in-Err.error) old new) c.of_pod.ensures
    (delete_stops c.in-Err.error (λ is. c.delete_folder.ensures.cause (c.in-Err.is ∙ ap Err is)) (λ is t. c.delete_folder.ensures.stray (c.in-Err.is ∙ ap Err is) t)))

pub returns-in-Err-clause-never_busy : goal.returns-in-Err-clause-never_busy
returns-in-Err-clause-never_busy g c which is = delete_calm c.in-Err.error which (sym c.delete_setback.ensures ∙ is)

pub returns-in-Err-clause-known : goal.returns-in-Err-clause-known
returns-in-Err-clause-known g c t = known_tried c.of_pod.ensures c.requires.garbage (c.in-Err.ensures.refused t)

pub returns-in-Err-clause-knew : goal.returns-in-Err-clause-knew
returns-in-Err-clause-knew g c is =
    knows_stray (g.D.Dir.shown c.args.dir.now) (g.D.Dir.shown c.delete_folder.new.dir) c.in-Err.error c.of_pod.ensures c.requires.garbage (λ stray t. c.delete_folder.ensures.knew (c.in-Err.is ∙ ap Err stray) t) (sym c.delete_setback.ensures ∙ is)
