use Rattle.std.proofs.Common.{◌≡◌, true, not, false, None, Some, ◌∷◌, ap, refl, rules, ◌∙◌}
use Rattle.plain_laws.proofs.Results.{if_err, err_same}
use Rattle.dir_model.specs.declared.area.Area.TheVariants.{Incoming}
use Rattle.dir_model.specs.declared.spot.Mode.TheVariants.{Shared}
use Rattle.dir_files.specs.AreaLocks.{on_gate}
use Rattle.dir_files.proofs.Locking.{number_is_new}
use Rattle.folder_building.proofs.Following.{GivesBack, follows_back}
use Rattle.image_store.specs.Refusals.{is_import_lock_refusal, is_import_work_refusal, is_import_refusal}
use Rattle.image_store.specs.Requests.{building_spot}
use Rattle.image_store.specs.Work.{seen_importing}
use Rattle.image_store.specs.Causes.{bundle_source_at, HadIncoming, LockCause, ImportCause}
use Rattle.image_store.specs.Imports.{key_of_image}
use Rattle.image_store.proofs.Widths.{cause_after, cause_before}
use Rattle.image_store.proofs.Locked.{Shares, follows_share, share_incoming, worked_refused, worked_under, got_locked, lock_is_apart, under_both}
use Rattle.image_store.proofs.Refusals.{lock_importing, work_importing}
use Rattle.image_store.proofs.Outcomes.{given_leaves}
use Rattle.image_store.proofs.Moving.{moves_under}
use Rattle.image_store.proofs.importing.import_new.Goals as goal

pub returns-in_err-gate-clause-worked : goal.returns-in_err-gate-clause-worked
returns-in_err-gate-clause-worked g c = worked_refused (building_spot c.args.draw) Incoming (share_incoming (building_spot c.args.draw)) c.share.ensures.same c.share.ensures.faults c.in_err-gate.ensures.refused c.share.ensures.extends

pub returns-in_err-gate-clause-cause : goal.returns-in_err-gate-clause-cause
returns-in_err-gate-clause-cause g c =
    let D = g.D.Dir in
    let source = bundle_source_at g.B.Bundle.observed (g.B.Bundle.shown c.args.bundle.now).tree c.args.path.now in
    let old = D.shown c.args.dir.now in
    let new = D.shown c.share.new.dir in
    let image = c.args.image.now in
    err_same (λ e. ImportCause is_import_refusal D.observed source (key_of_image image) c.args.digest.now image.listing e old new) c.share.result c.from_residual.result (λ e h. search (rules, h, c.from_residual.ensures, c.in_err-gate.is))
    (if_err (λ e. LockCause D.observed Incoming e old new) (λ e. ImportCause is_import_refusal D.observed source (key_of_image image) c.args.digest.now image.listing e old new) c.share.result (λ e x. lock_importing Incoming e refl x) c.share.ensures.cause)

pub returns-in_err-gate-clause-locked : goal.returns-in_err-gate-clause-locked
returns-in_err-gate-clause-locked g c =
    let D = g.D.Dir in
    let old = D.shown c.args.dir.now in
    let new = D.shown c.share.new.dir in
    err_same (λ e. is_import_lock_refusal Incoming e ≡ false → D.observed ≡ true → HadIncoming old new) c.share.result c.from_residual.result (λ e h. search (rules, h, c.from_residual.ensures, c.in_err-gate.is))
    (if_err (λ e. LockCause D.observed Incoming e old new) (λ e. is_import_lock_refusal Incoming e ≡ false → D.observed ≡ true → HadIncoming old new) c.share.result (λ e x other t. absurd (lock_is_apart e x other)) c.share.ensures.cause)

pub returns-clause-locked : goal.returns-clause-locked
returns-clause-locked g c =
    let D = g.D.Dir in
    let old = D.shown c.args.dir.now in
    let mid = D.shown c.share.new.dir in
    let late = D.shown c.build_and_place-result.new.dir in
    let new = D.shown c.unlock_area.new.dir in
    let s : Shares D.observed Incoming c.in_ok-gate.gate old mid = record { same = c.share.ensures.same; faults = c.share.ensures.faults; held = c.in_ok-gate.ensures.held; unopened = c.in_ok-gate.ensures.unopened; extends = c.share.ensures.extends } in
    let b : GivesBack D.observed c.in_ok-gate.gate late new = record { same = c.unlock_area.ensures.same; faultless = c.unlock_area.ensures.faultless; local = c.unlock_area.ensures.local; extends = c.unlock_area.ensures.extends } in
    let image = c.args.image.now in
    let source = bundle_source_at g.B.Bundle.observed (g.B.Bundle.shown c.args.bundle.now).tree c.args.path.now in
    if_err (λ e. ImportCause is_import_work_refusal D.observed source (key_of_image image) c.args.digest.now image.listing e mid late) (λ e. is_import_lock_refusal Incoming e ≡ false → D.observed ≡ true → HadIncoming old new) c.build_and_place-result.result
    (λ e x other t. got_locked s (follows_back b) t) c.build_and_place-result.ensures.cause

pub returns-clause-worked : goal.returns-clause-worked
returns-clause-worked g c =
    let D = g.D.Dir in
    let s : Shares D.observed Incoming c.in_ok-gate.gate (D.shown c.args.dir.now) (D.shown c.share.new.dir) = record { same = c.share.ensures.same; faults = c.share.ensures.faults; held = c.in_ok-gate.ensures.held; unopened = c.in_ok-gate.ensures.unopened; extends = c.share.ensures.extends } in
    let b : GivesBack D.observed c.in_ok-gate.gate (D.shown c.build_and_place-result.new.dir) (D.shown c.unlock_area.new.dir) = record { same = c.unlock_area.ensures.same; faultless = c.unlock_area.ensures.faultless; local = c.unlock_area.ensures.local; extends = c.unlock_area.ensures.extends } in
    worked_under (building_spot c.args.draw) (share_incoming (building_spot c.args.draw)) s c.build_and_place-result.ensures.worked b

pub returns-clause-cause : goal.returns-clause-cause
returns-clause-cause g c =
    let D = g.D.Dir in
    let source = bundle_source_at g.B.Bundle.observed (g.B.Bundle.shown c.args.bundle.now).tree c.args.path.now in
    let old = D.shown c.args.dir.now in
    let mid = D.shown c.share.new.dir in
    let late = D.shown c.build_and_place-result.new.dir in
    let new = D.shown c.unlock_area.new.dir in
    let image = c.args.image.now in
    let s : Shares D.observed Incoming c.in_ok-gate.gate old mid = record { same = c.share.ensures.same; faults = c.share.ensures.faults; held = c.in_ok-gate.ensures.held; unopened = c.in_ok-gate.ensures.unopened; extends = c.share.ensures.extends } in
    let b : GivesBack D.observed c.in_ok-gate.gate late new = record { same = c.unlock_area.ensures.same; faultless = c.unlock_area.ensures.faultless; local = c.unlock_area.ensures.local; extends = c.unlock_area.ensures.extends } in
    if_err (λ e. ImportCause is_import_work_refusal D.observed source (key_of_image image) c.args.digest.now image.listing e mid late)
    (λ e. ImportCause is_import_refusal D.observed source (key_of_image image) c.args.digest.now image.listing e old new) c.build_and_place-result.result
    (λ e x. cause_before (c.build_and_place-result.ensures.worked.same ∙ c.share.ensures.same) (cause_after (follows_share s) (work_importing e x)) (follows_back b)) c.build_and_place-result.ensures.cause

pub returns-clause-leaves : goal.returns-clause-leaves
returns-clause-leaves g c t intent hs imports under k =
    let D = g.D.Dir in
    let h = c.in_ok-gate.gate in
    let s : Shares D.observed Incoming h (D.shown c.args.dir.now) (D.shown c.share.new.dir) = record { same = c.share.ensures.same; faults = c.share.ensures.faults; held = c.in_ok-gate.ensures.held; unopened = c.in_ok-gate.ensures.unopened; extends = c.share.ensures.extends } in
    let b : GivesBack D.observed h (D.shown c.build_and_place-result.new.dir) (D.shown c.unlock_area.new.dir) = record { same = c.unlock_area.ensures.same; faultless = c.unlock_area.ensures.faultless; local = c.unlock_area.ensures.local; extends = c.unlock_area.ensures.extends } in
    given_leaves c.args.draw c.args.now c.args.image.now Incoming h c.build_and_place-result.result t (follows_share s) (follows_back b)
    (λ seen fresh known. c.unlock_area.ensures.given t seen Incoming refl fresh known) intent hs (number_is_new h k c.in_ok-gate.ensures.unopened)
    (c.build_and_place-result.ensures.leaves t intent (on_gate h Incoming (Some Shared) ∷ hs) imports (under_both hs h under) (c.in_ok-gate.ensures.taken t (seen_importing intent hs false None) k (ap not under.free)))

pub returns-clause-moves : goal.returns-clause-moves
returns-clause-moves g c t =
    let D = g.D.Dir in
    let h = c.in_ok-gate.gate in
    let old = D.shown c.args.dir.now in
    let mid = D.shown c.share.new.dir in
    let late = D.shown c.build_and_place-result.new.dir in
    let new = D.shown c.unlock_area.new.dir in
    let s : Shares D.observed Incoming h old mid = record { same = c.share.ensures.same; faults = c.share.ensures.faults; held = c.in_ok-gate.ensures.held; unopened = c.in_ok-gate.ensures.unopened; extends = c.share.ensures.extends } in
    let b : GivesBack D.observed h late new = record { same = c.unlock_area.ensures.same; faultless = c.unlock_area.ensures.faultless; local = c.unlock_area.ensures.local; extends = c.unlock_area.ensures.extends } in
    moves_under (building_spot c.args.draw) (key_of_image c.args.image.now) c.build_and_place-result.result old mid late new t s c.build_and_place-result.ensures.worked.same b (c.build_and_place-result.ensures.moves t)
