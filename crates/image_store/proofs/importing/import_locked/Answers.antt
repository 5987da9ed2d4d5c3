use Rattle.std.proofs.Common.{◌≡◌, true, not, false, None, Some, List, ◌∷◌, ap, sym, subst, refl, rules, ◌∙◌}
use Rattle.plain_laws.proofs.Results.{if_err, err_same}
use Rattle.dir_model.specs.declared.area.Area.TheVariants.{Images}
use Rattle.dir_model.specs.declared.spot.Mode.TheVariants.{Shared}
use Rattle.dir_model.specs.declared.opening.Target.TheVariants.{Gate}
use Rattle.dir_rules.specs.declared.standing.Held.{Held}
use Rattle.dir_rules.specs.LockRules.{is_open_on}
use Rattle.dir_files.specs.AreaLocks.{on_gate}
use Rattle.dir_files.proofs.Locking.{number_is_new}
use Rattle.folder_building.proofs.Following.{GivesBack, follows_back}
use Rattle.image_store.specs.Refusals.{is_import_refusal}
use Rattle.image_store.specs.Requests.{building_spot}
use Rattle.image_store.specs.Work.{seen_importing, ImportsUnderImages, IsAlone, WhereImporting}
use Rattle.image_store.specs.Causes.{bundle_source_at, LockCause, ImportBusyElsewhere, FoundInTurn, ImportCause}
use Rattle.image_store.specs.Imports.{key_of_image}
use Rattle.image_store.proofs.Widths.{cause_after, cause_before, turn_within}
use Rattle.image_store.proofs.Locked.{Shares, follows_share, share_images, worked_refused, worked_under, under_images}
use Rattle.image_store.proofs.Refusals.{lock_importing, lock_in_turn}
use Rattle.image_store.proofs.Outcomes.{elsewhere_after, elsewhere_before, given_leaves}
use Rattle.image_store.proofs.Moving.{moves_under}
use Rattle.image_store.proofs.importing.import_locked.Goals as goal

pub returns-in_err-gate-clause-worked : goal.returns-in_err-gate-clause-worked
returns-in_err-gate-clause-worked g c = worked_refused (building_spot c.args.draw) Images (share_images (building_spot c.args.draw)) c.share.ensures.same c.share.ensures.faults c.in_err-gate.ensures.refused c.share.ensures.extends

pub returns-in_err-gate-clause-cause : goal.returns-in_err-gate-clause-cause
returns-in_err-gate-clause-cause g c =
    let D = g.D.Dir in
    let source = bundle_source_at g.B.Bundle.observed (g.B.Bundle.shown c.args.bundle.now).tree c.args.path.now in
    let old = D.shown c.args.dir.now in
    let new = D.shown c.share.new.dir in
    let image = c.args.image.now in
    err_same (λ e. ImportCause is_import_refusal D.observed source (key_of_image image) c.args.digest.now image.listing e old new) c.share.result c.from_residual.result (λ e h. search (rules, h, c.from_residual.ensures, c.in_err-gate.is))
    (if_err (λ e. LockCause D.observed Images e old new) (λ e. ImportCause is_import_refusal D.observed source (key_of_image image) c.args.digest.now image.listing e old new) c.share.result (λ e x. lock_importing Images e refl x) c.share.ensures.cause)

pub returns-in_err-gate-clause-turn : goal.returns-in_err-gate-clause-turn
returns-in_err-gate-clause-turn g c =
    let D = g.D.Dir in
    let source = bundle_source_at g.B.Bundle.observed (g.B.Bundle.shown c.args.bundle.now).tree c.args.path.now in
    let old = D.shown c.args.dir.now in
    let new = D.shown c.share.new.dir in
    let image = c.args.image.now in
    err_same (λ e. FoundInTurn D.observed source (key_of_image image) image.listing e old new) c.share.result c.from_residual.result (λ e h. search (rules, h, c.from_residual.ensures, c.in_err-gate.is))
    (if_err (λ e. LockCause D.observed Images e old new) (λ e. FoundInTurn D.observed source (key_of_image image) image.listing e old new) c.share.result (λ e x. lock_in_turn e x) c.share.ensures.cause)

pub returns-clause-turn : goal.returns-clause-turn
returns-clause-turn g c =
    let D = g.D.Dir in
    let source = bundle_source_at g.B.Bundle.observed (g.B.Bundle.shown c.args.bundle.now).tree c.args.path.now in
    let old = D.shown c.args.dir.now in
    let mid = D.shown c.share.new.dir in
    let late = D.shown c.import_or_find-result.new.dir in
    let new = D.shown c.unlock_area.new.dir in
    let image = c.args.image.now in
    let s : Shares D.observed Images c.in_ok-gate.gate old mid = record { same = c.share.ensures.same; faults = c.share.ensures.faults; held = c.in_ok-gate.ensures.held; unopened = c.in_ok-gate.ensures.unopened; extends = c.share.ensures.extends } in
    let b : GivesBack D.observed c.in_ok-gate.gate late new = record { same = c.unlock_area.ensures.same; faultless = c.unlock_area.ensures.faultless; local = c.unlock_area.ensures.local; extends = c.unlock_area.ensures.extends } in
    if_err (λ e. FoundInTurn D.observed source (key_of_image image) image.listing e mid late) (λ e. FoundInTurn D.observed source (key_of_image image) image.listing e old new) c.import_or_find-result.result
    (λ e x. turn_within old mid late new (follows_share s) (c.import_or_find-result.ensures.worked.same ∙ c.share.ensures.same) (follows_back b) x) c.import_or_find-result.ensures.turn

pub returns-clause-worked : goal.returns-clause-worked
returns-clause-worked g c =
    let D = g.D.Dir in
    let s : Shares D.observed Images c.in_ok-gate.gate (D.shown c.args.dir.now) (D.shown c.share.new.dir) = record { same = c.share.ensures.same; faults = c.share.ensures.faults; held = c.in_ok-gate.ensures.held; unopened = c.in_ok-gate.ensures.unopened; extends = c.share.ensures.extends } in
    let b : GivesBack D.observed c.in_ok-gate.gate (D.shown c.import_or_find-result.new.dir) (D.shown c.unlock_area.new.dir) = record { same = c.unlock_area.ensures.same; faultless = c.unlock_area.ensures.faultless; local = c.unlock_area.ensures.local; extends = c.unlock_area.ensures.extends } in
    worked_under (building_spot c.args.draw) (share_images (building_spot c.args.draw)) s c.import_or_find-result.ensures.worked b

pub returns-clause-cause : goal.returns-clause-cause
returns-clause-cause g c =
    let D = g.D.Dir in
    let source = bundle_source_at g.B.Bundle.observed (g.B.Bundle.shown c.args.bundle.now).tree c.args.path.now in
    let old = D.shown c.args.dir.now in
    let mid = D.shown c.share.new.dir in
    let late = D.shown c.import_or_find-result.new.dir in
    let new = D.shown c.unlock_area.new.dir in
    let image = c.args.image.now in
    let s : Shares D.observed Images c.in_ok-gate.gate old mid = record { same = c.share.ensures.same; faults = c.share.ensures.faults; held = c.in_ok-gate.ensures.held; unopened = c.in_ok-gate.ensures.unopened; extends = c.share.ensures.extends } in
    let b : GivesBack D.observed c.in_ok-gate.gate late new = record { same = c.unlock_area.ensures.same; faultless = c.unlock_area.ensures.faultless; local = c.unlock_area.ensures.local; extends = c.unlock_area.ensures.extends } in
    if_err (λ e. ImportCause is_import_refusal D.observed source (key_of_image image) c.args.digest.now image.listing e mid late)
    (λ e. ImportCause is_import_refusal D.observed source (key_of_image image) c.args.digest.now image.listing e old new) c.import_or_find-result.result
    (λ e x. cause_before (c.import_or_find-result.ensures.worked.same ∙ c.share.ensures.same) (cause_after (follows_share s) x) (follows_back b)) c.import_or_find-result.ensures.cause

pub returns-clause-by_other_process : goal.returns-clause-by_other_process
returns-clause-by_other_process g c =
    let D = g.D.Dir in
    let h = c.in_ok-gate.gate in
    let old = D.shown c.args.dir.now in
    let mid = D.shown c.share.new.dir in
    let late = D.shown c.import_or_find-result.new.dir in
    let new = D.shown c.unlock_area.new.dir in
    let s : Shares D.observed Images h old mid = record { same = c.share.ensures.same; faults = c.share.ensures.faults; held = c.in_ok-gate.ensures.held; unopened = c.in_ok-gate.ensures.unopened; extends = c.share.ensures.extends } in
    let b : GivesBack D.observed h late new = record { same = c.unlock_area.ensures.same; faultless = c.unlock_area.ensures.faultless; local = c.unlock_area.ensures.local; extends = c.unlock_area.ensures.extends } in
    if_err (λ e. D.observed ≡ true → WhereImporting c.args.draw ImportsUnderImages false None mid (λ intent hs. ImportBusyElsewhere e mid late)) (λ e. D.observed ≡ true → WhereImporting c.args.draw IsAlone false None old (λ intent hs. ImportBusyElsewhere e old new)) c.import_or_find-result.result
    (λ e x t intent hs imports alone k. elsewhere_before old late new t (c.import_or_find-result.ensures.worked.same ∙ c.share.ensures.same) (elsewhere_after old mid late t (follows_share s)
    (x t intent (on_gate h Images (Some Shared) ∷ hs) imports (subst (λ (l : List Held). ImportsUnderImages (on_gate h Images (Some Shared) ∷ l)) (sym alone) (under_images h))
    (c.in_ok-gate.ensures.taken t (seen_importing intent hs false None) k (ap (λ (l : List Held). not (is_open_on (Gate Images) l)) alone)))) (follows_back b)) c.import_or_find-result.ensures.by_other_process

pub returns-clause-leaves : goal.returns-clause-leaves
returns-clause-leaves g c t intent hs imports alone k =
    let D = g.D.Dir in
    let h = c.in_ok-gate.gate in
    let s : Shares D.observed Images h (D.shown c.args.dir.now) (D.shown c.share.new.dir) = record { same = c.share.ensures.same; faults = c.share.ensures.faults; held = c.in_ok-gate.ensures.held; unopened = c.in_ok-gate.ensures.unopened; extends = c.share.ensures.extends } in
    let b : GivesBack D.observed h (D.shown c.import_or_find-result.new.dir) (D.shown c.unlock_area.new.dir) = record { same = c.unlock_area.ensures.same; faultless = c.unlock_area.ensures.faultless; local = c.unlock_area.ensures.local; extends = c.unlock_area.ensures.extends } in
    given_leaves c.args.draw c.args.now c.args.image.now Images h c.import_or_find-result.result t (follows_share s) (follows_back b)
    (λ seen fresh known. c.unlock_area.ensures.given t seen Images refl fresh known) intent hs (number_is_new h k c.in_ok-gate.ensures.unopened)
    (c.import_or_find-result.ensures.leaves t intent (on_gate h Images (Some Shared) ∷ hs) imports (subst (λ (l : List Held). ImportsUnderImages (on_gate h Images (Some Shared) ∷ l)) (sym alone) (under_images h))
    (c.in_ok-gate.ensures.taken t (seen_importing intent hs false None) k (ap (λ (l : List Held). not (is_open_on (Gate Images) l)) alone)))

pub returns-clause-moves : goal.returns-clause-moves
returns-clause-moves g c t =
    let D = g.D.Dir in
    let h = c.in_ok-gate.gate in
    let old = D.shown c.args.dir.now in
    let mid = D.shown c.share.new.dir in
    let late = D.shown c.import_or_find-result.new.dir in
    let new = D.shown c.unlock_area.new.dir in
    let s : Shares D.observed Images h old mid = record { same = c.share.ensures.same; faults = c.share.ensures.faults; held = c.in_ok-gate.ensures.held; unopened = c.in_ok-gate.ensures.unopened; extends = c.share.ensures.extends } in
    let b : GivesBack D.observed h late new = record { same = c.unlock_area.ensures.same; faultless = c.unlock_area.ensures.faultless; local = c.unlock_area.ensures.local; extends = c.unlock_area.ensures.extends } in
    moves_under (building_spot c.args.draw) (key_of_image c.args.image.now) c.import_or_find-result.result old mid late new t s c.import_or_find-result.ensures.worked.same b (c.import_or_find-result.ensures.moves t)
