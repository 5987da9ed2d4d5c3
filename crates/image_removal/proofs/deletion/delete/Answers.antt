use Rattle.std.proofs.Common.{◌≡◌, Err, ap, sym, subst, ◌∙◌}
use Rattle.dir_model.specs.declared.spot.Spot.{Spot}
use Rattle.dir_trait.specs.DirCalls.{ExtendsBy}
use Rattle.folder_removal.specs.Removal.{asks_deletion_at, EndsWithStrayDeletion}
use Rattle.folder_removal.specs.Known.{Deletes, OnlyTries, StrayDeleting}
use Rattle.image_reading.specs.declared.error.StoreError.{StoreError}
use Rattle.image_reading.specs.declared.error.StoreError.TheVariants.{Stray}
use Rattle.image_removal.specs.Causes.{RemovalWorkCause}
use Rattle.image_removal.proofs.Causes.{delete_cause}
use Rattle.image_removal.proofs.Knowing.{may_delete, deleted_stays, tried_stays}
use Rattle.image_removal.proofs.Lawful.{delete_stray}
use Rattle.image_removal.proofs.deletion.delete.Goals as goal

pub returns-in-Ok-clause-stays : goal.returns-in-Ok-clause-stays
returns-in-Ok-clause-stays g c t =
    let D = g.D.Dir in
    deleted_stays c.args.name (subst (λ (spot : Spot). Deletes spot (D.shown c.args.dir.now) (D.shown c.delete_folder.new.dir)) c.removed_spot.ensures (c.in-Ok.ensures.deleted t))

pub returns-in-Err-clause-worked : goal.returns-in-Err-clause-worked
returns-in-Err-clause-worked g c =
    let D = g.D.Dir in
    record {
      same = c.delete_folder.ensures.same;
      faults = c.delete_folder.ensures.faults;
      local = c.delete_folder.ensures.local;
      extends = λ t. subst (λ (spot : Spot). ExtendsBy (asks_deletion_at spot) (D.shown c.args.dir.now) (D.shown c.delete_folder.new.dir)) c.removed_spot.ensures (c.delete_folder.ensures.extends t);
    }

pub returns-in-Err-clause-cause : goal.returns-in-Err-clause-cause
returns-in-Err-clause-cause g c =
    let D = g.D.Dir in
    subst (λ (e : StoreError). RemovalWorkCause D.observed e (D.shown c.args.dir.now) (D.shown c.delete_folder.new.dir)) (sym c.delete_refusal.ensures)
    (delete_cause c.removed_spot.result c.in-Err.error (λ is. c.in-Err.ensures.cause (ap Err is)) (λ is. c.in-Err.ensures.stray (ap Err is)))

pub returns-in-Err-clause-left : goal.returns-in-Err-clause-left
returns-in-Err-clause-left g c t =
    let D = g.D.Dir in
    tried_stays c.args.name (subst (λ (spot : Spot). OnlyTries spot (D.shown c.args.dir.now) (D.shown c.delete_folder.new.dir)) c.removed_spot.ensures (c.in-Err.ensures.refused t))

pub returns-in-Err-clause-stray : goal.returns-in-Err-clause-stray
returns-in-Err-clause-stray g c is t =
    let D = g.D.Dir in
    let same : c.delete_refusal.result ≡ Stray = cc in
    subst (λ (spot : Spot). EndsWithStrayDeletion spot (D.shown c.args.dir.now) (D.shown c.delete_folder.new.dir)) c.removed_spot.ensures
    (c.in-Err.ensures.stray (ap Err (delete_stray c.in-Err.error (sym c.delete_refusal.ensures ∙ same))) t)

pub returns-in-Err-clause-knew : goal.returns-in-Err-clause-knew
returns-in-Err-clause-knew g c is t s k may =
    let D = g.D.Dir in
    let same : c.delete_refusal.result ≡ Stray = cc in
    subst (λ (spot : Spot). StrayDeleting spot (D.shown c.args.dir.now) (D.shown c.delete_folder.new.dir)) c.removed_spot.ensures
    (c.in-Err.ensures.knew (ap Err (delete_stray c.in-Err.error (sym c.delete_refusal.ensures ∙ same))) t) s k (may_delete c.args.name may)
