use Rattle.std.proofs.Common.{◌≡◌, true, false, None, Ok, ap, rules, subst}
use Rattle.plain_laws.proofs.Results.{if_err, err_same, err_both}
use Rattle.ac_types.specs.declared.store_key.StoreKey.{StoreKey}
use Rattle.dir_model.specs.declared.area.Area.TheVariants.{Incoming}
use Rattle.dir_trait.specs.DirCalls.{HeldBetween}
use Rattle.folder_building.proofs.Working.{worked_more}
use Rattle.folder_building.proofs.Following.{follows_work}
use Rattle.image_reading.specs.Places.{IsImageAbsent}
use Rattle.image_store.specs.Refusals.{is_import_lock_refusal, is_import_refusal}
use Rattle.image_store.specs.Requests.{building_spot}
use Rattle.image_store.specs.Work.{seen_importing, ImportsUnderImages, WhereImporting}
use Rattle.image_store.specs.Causes.{bundle_source_at, ImportBusyElsewhere, WasThere, HadIncoming, FoundInTurn, LookCause, ImportCause}
use Rattle.image_store.specs.Imports.{key_of_image}
use Rattle.image_store.proofs.Widths.{held_before, told_after, cause_after}
use Rattle.image_store.proofs.Refusals.{late_in_turn, look_importing, look_in_turn}
use Rattle.image_store.proofs.Placings.{worked_reads, may_read_there, same_key}
use Rattle.image_store.proofs.Outcomes.{elsewhere_after, leaves_after}
use Rattle.image_store.proofs.Moving.{moves_none, moves_after, nothing_read}
use Rattle.image_store.proofs.importing.import_or_find.Goals as goal

pub returns-in_err-is_there-clause-worked : goal.returns-in_err-is_there-clause-worked
returns-in_err-is_there-clause-worked g c = worked_reads (building_spot c.args.draw) c.of.result c.is_there.ensures.only

pub returns-in_err-is_there-clause-cause : goal.returns-in_err-is_there-clause-cause
returns-in_err-is_there-clause-cause g c =
    let D = g.D.Dir in
    let source = bundle_source_at g.B.Bundle.observed (g.B.Bundle.shown c.args.bundle.now).tree c.args.path.now in
    let old = D.shown c.args.dir.now in
    let new = D.shown c.is_there.new.dir in
    let image = c.args.image.now in
    err_same (λ e. ImportCause is_import_refusal D.observed source (key_of_image image) c.args.digest.now image.listing e old new) c.is_there.result c.from_residual.result (λ e h. search (rules, h, c.from_residual.ensures, c.in_err-is_there.is))
    (if_err (λ e. LookCause D.observed c.of.result c.args.digest.now e old new) (λ e. ImportCause is_import_refusal D.observed source (key_of_image image) c.args.digest.now image.listing e old new) c.is_there.result
    (λ e x. look_importing e (subst (λ (k : StoreKey). LookCause D.observed k c.args.digest.now e old new) (same_key c.of.result image c.of.ensures) x)) c.is_there.ensures.cause)

pub returns-in_err-is_there-clause-turn : goal.returns-in_err-is_there-clause-turn
returns-in_err-is_there-clause-turn g c =
    let D = g.D.Dir in
    let source = bundle_source_at g.B.Bundle.observed (g.B.Bundle.shown c.args.bundle.now).tree c.args.path.now in
    let old = D.shown c.args.dir.now in
    let new = D.shown c.is_there.new.dir in
    let image = c.args.image.now in
    err_same (λ e. FoundInTurn D.observed source (key_of_image image) image.listing e old new) c.is_there.result c.from_residual.result (λ e h. search (rules, h, c.from_residual.ensures, c.in_err-is_there.is))
    (if_err (λ e. LookCause D.observed c.of.result c.args.digest.now e old new) (λ e. FoundInTurn D.observed source (key_of_image image) image.listing e old new) c.is_there.result
    (λ e x. look_in_turn e (subst (λ (k : StoreKey). LookCause D.observed k c.args.digest.now e old new) (same_key c.of.result image c.of.ensures) x)) c.is_there.ensures.cause)

pub returns-else-branch-clause-turn : goal.returns-else-branch-clause-turn
returns-else-branch-clause-turn g c =
    let D = g.D.Dir in
    let source = bundle_source_at g.B.Bundle.observed (g.B.Bundle.shown c.args.bundle.now).tree c.args.path.now in
    let old = D.shown c.args.dir.now in
    let mid = D.shown c.is_there.new.dir in
    let new = D.shown c.import_new.new.dir in
    let image = c.args.image.now in
    let absent = λ (t : D.observed ≡ true). held_before old mid new c.is_there.ensures.only.same (follows_work c.import_new.ensures.worked) t
    (subst (λ (k : StoreKey). HeldBetween old mid (IsImageAbsent k)) (same_key c.of.result image c.of.ensures) (c.in_ok-is_there.ensures.absent (ap Ok c.if-branch.false) t)) in
    let before = follows_work (worked_reads (building_spot c.args.draw) c.of.result c.is_there.ensures.only) in
    err_both (λ e. is_import_lock_refusal Incoming e ≡ false → D.observed ≡ true → HadIncoming mid new) (λ e. ImportCause is_import_refusal D.observed source (key_of_image image) c.args.digest.now image.listing e mid new)
    (λ e. FoundInTurn D.observed source (key_of_image image) image.listing e old new) c.import_new.result
    (λ e l x. late_in_turn e absent (λ other t. told_after old mid new before t (l other t)) (cause_after before x)) c.import_new.ensures.locked c.import_new.ensures.cause

pub returns-then-branch-clause-worked : goal.returns-then-branch-clause-worked
returns-then-branch-clause-worked g c = worked_reads (building_spot c.args.draw) c.of.result c.is_there.ensures.only

pub returns-then-branch-clause-there : goal.returns-then-branch-clause-there
returns-then-branch-clause-there g c is t =
    let D = g.D.Dir in
    subst (λ (k : StoreKey). WasThere k c.args.digest.now (D.shown c.args.dir.now) (D.shown c.is_there.new.dir)) (same_key c.of.result c.args.image.now c.of.ensures)
    (c.in_ok-is_there.ensures.there (ap Ok c.if-branch.true) t)

pub returns-else-branch-clause-worked : goal.returns-else-branch-clause-worked
returns-else-branch-clause-worked g c = worked_more (worked_reads (building_spot c.args.draw) c.of.result c.is_there.ensures.only) c.import_new.ensures.worked

pub returns-else-branch-clause-cause : goal.returns-else-branch-clause-cause
returns-else-branch-clause-cause g c =
    let D = g.D.Dir in
    let source = bundle_source_at g.B.Bundle.observed (g.B.Bundle.shown c.args.bundle.now).tree c.args.path.now in
    let old = D.shown c.args.dir.now in
    let mid = D.shown c.is_there.new.dir in
    let new = D.shown c.import_new.new.dir in
    let image = c.args.image.now in
    if_err (λ e. ImportCause is_import_refusal D.observed source (key_of_image image) c.args.digest.now image.listing e mid new)
    (λ e. ImportCause is_import_refusal D.observed source (key_of_image image) c.args.digest.now image.listing e old new) c.import_new.result
    (λ e x. cause_after (follows_work (worked_reads (building_spot c.args.draw) c.of.result c.is_there.ensures.only)) x) c.import_new.ensures.cause

pub returns-else-branch-clause-by_other_process : goal.returns-else-branch-clause-by_other_process
returns-else-branch-clause-by_other_process g c =
    let D = g.D.Dir in
    let old = D.shown c.args.dir.now in
    let mid = D.shown c.is_there.new.dir in
    let new = D.shown c.import_new.new.dir in
    if_err (λ e. D.observed ≡ true → WhereImporting c.args.draw ImportsUnderImages false None mid (λ intent hs. ImportBusyElsewhere e mid new))
    (λ e. D.observed ≡ true → WhereImporting c.args.draw ImportsUnderImages false None old (λ intent hs. ImportBusyElsewhere e old new)) c.import_new.result
    (λ e x t intent hs imports under k. elsewhere_after old mid new t (follows_work (worked_reads (building_spot c.args.draw) c.of.result c.is_there.ensures.only))
    (x t intent hs imports under (c.is_there.ensures.only.known t (seen_importing intent hs false None) (may_read_there intent hs false None under.images) k))) c.import_new.ensures.by_other_process

pub returns-else-branch-clause-leaves : goal.returns-else-branch-clause-leaves
returns-else-branch-clause-leaves g c t intent hs imports under k =
    let D = g.D.Dir in
    leaves_after c.args.draw c.args.now c.args.image.now intent hs (D.shown c.args.dir.now) (D.shown c.is_there.new.dir) (D.shown c.import_new.new.dir) c.import_new.result t (follows_work (worked_reads (building_spot c.args.draw) c.of.result c.is_there.ensures.only))
    (c.import_new.ensures.leaves t intent hs imports under (c.is_there.ensures.only.known t (seen_importing intent hs false None) (may_read_there intent hs false None under.images) k))

pub returns-in_err-is_there-clause-moves : goal.returns-in_err-is_there-clause-moves
returns-in_err-is_there-clause-moves g c t =
    let D = g.D.Dir in
    moves_none (building_spot c.args.draw) (key_of_image c.args.image.now) c.from_residual.result (D.shown c.args.dir.now) (D.shown c.is_there.new.dir) (λ is. search (rules, is, c.from_residual.ensures, c.in_err-is_there.is))
    (nothing_read c.of.result c.is_there.ensures.only t)

pub returns-then-branch-clause-moves : goal.returns-then-branch-clause-moves
returns-then-branch-clause-moves g c t = nothing_read c.of.result c.is_there.ensures.only t

pub returns-else-branch-clause-moves : goal.returns-else-branch-clause-moves
returns-else-branch-clause-moves g c t =
    let D = g.D.Dir in
    moves_after (building_spot c.args.draw) (key_of_image c.args.image.now) c.import_new.result (D.shown c.args.dir.now) (D.shown c.is_there.new.dir) (D.shown c.import_new.new.dir) c.is_there.ensures.only.same
    (nothing_read c.of.result c.is_there.ensures.only t) (c.import_new.ensures.moves t)
