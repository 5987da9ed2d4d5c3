use Rattle.std.proofs.Common.{◌≡◌, true, Some, Err, [], ◌∷◌, sym, ap, subst, ◌∙◌, arith}
use Rattle.plain_laws.proofs.Results.{if_ok, if_err, ok_both}
use Rattle.dir_model.specs.declared.area.Area.TheVariants.{Embryo}
use Rattle.dir_model.specs.declared.spot.Handle.{Handle}
use Rattle.dir_model.specs.declared.spot.Mode.TheVariants.{Shared, Exclusive}
use Rattle.dir_model.specs.Local.{IsUnopened}
use Rattle.dir_trait.specs.Knowledge.{Knows}
use Rattle.dir_files.specs.AreaLocks.{on_gate}
use Rattle.dir_files.proofs.Locking.{number_is_new}
use Rattle.folder_building.proofs.Following.{Follows}
use Rattle.pod_build.specs.Progress.{seen_making, nothing_made, in_prepare, own_held}
use Rattle.pod_build.specs.Work.{IsMaker, MakesUnderImages, UnderMakingLocks, WhereMakingPod, HasMakerFolder}
use Rattle.pod_build.specs.declared.make_error.MakeError.{MakeError}
use Rattle.pod_build.specs.MakingRequests.{is_move_to_prepare}
use Rattle.pod_build.specs.MakingCauses.{EmbryoCause, MakeCause, MakesFirst, HasMadeFolder, BringsToPrepare}
use Rattle.pod_build.proofs.Times.{follows_went, locked_cause, folder_asked, folder_before, own_after, own_before, answered_after, answered_before}
use Rattle.pod_build.proofs.Calls.{lock_cause}
use Rattle.pod_build.proofs.Knowing.{has_nothing, under_both, may_lock, gate_back, gate_back_after}
use Rattle.pod_build.proofs.Outcomes.{Shares, GivesBack, went_refused, went_under, err_with, apart_from}
use Rattle.pod_build.proofs.embryo.begin_pod.Goals as goal

pub returns-in-Ok-clause-went : goal.returns-in-Ok-clause-went
returns-in-Ok-clause-went g c =
    let D = g.D.Dir in
    let s : Shares D.observed c.in-Ok.gate (D.shown c.args.dir.now) (D.shown c.lock_area.new.dir) = record { same = c.lock_area.ensures.same; faults = c.lock_area.ensures.faults; held = c.in-Ok.ensures.held; unopened = c.in-Ok.ensures.unopened; extends = c.lock_area.ensures.extends } in
    let b : GivesBack D.observed c.in-Ok.gate (D.shown c.make_and_take_out-result.new.dir) (D.shown c.unlock_area.new.dir) = record { same = c.unlock_area.ensures.same; faultless = c.unlock_area.ensures.faultless; local = c.unlock_area.ensures.local; extends = c.unlock_area.ensures.extends } in
    went_under c.args.draw c.make_and_take_out-result.result s c.make_and_take_out-result.ensures.unopened c.make_and_take_out-result.ensures.went b

pub returns-in-Ok-clause-held : goal.returns-in-Ok-clause-held
returns-in-Ok-clause-held g c =
    let D = g.D.Dir in
    let draw = c.args.draw in
    let gate = c.in-Ok.gate in
    let mid = D.shown c.lock_area.new.dir in
    let late = D.shown c.make_and_take_out-result.new.dir in
    let new = D.shown c.unlock_area.new.dir in
    ok_both (λ (own : Handle). D.observed ≡ true → WhereMakingPod (IsMaker draw) (UnderMakingLocks draw) nothing_made mid (λ intent hs. Knows late (seen_making intent (own_held draw own (Some Exclusive) ∷ hs) (in_prepare draw []))))
    (λ (own : Handle). IsUnopened mid.local own)
    (λ (own : Handle). D.observed ≡ true → WhereMakingPod (IsMaker draw) (MakesUnderImages draw) nothing_made (D.shown c.args.dir.now) (λ intent hs. Knows new (seen_making intent (own_held draw own (Some Exclusive) ∷ hs) (in_prepare draw [])))) c.make_and_take_out-result.result
    (λ own f fresh t intent hs maker under k. gate_back_after draw (apart_from (D.shown c.args.dir.now).local gate own c.in-Ok.ensures.held fresh) (number_is_new gate k c.in-Ok.ensures.unopened) (λ s known. c.unlock_area.ensures.gives t s known)
    (f t intent (on_gate gate Embryo (Some Shared) ∷ hs) maker (under_both gate under) (c.in-Ok.ensures.taken t (seen_making intent hs nothing_made) k (may_lock under))))
    c.make_and_take_out-result.ensures.held c.make_and_take_out-result.ensures.unopened

pub returns-in-Ok-clause-left : goal.returns-in-Ok-clause-left
returns-in-Ok-clause-left g c =
    let D = g.D.Dir in
    let draw = c.args.draw in
    let gate = c.in-Ok.gate in
    let mid = D.shown c.lock_area.new.dir in
    let late = D.shown c.make_and_take_out-result.new.dir in
    let new = D.shown c.unlock_area.new.dir in
    if_err (λ e. D.observed ≡ true → WhereMakingPod (IsMaker draw) (UnderMakingLocks draw) nothing_made mid (λ intent hs. HasMakerFolder draw intent hs late))
    (λ e. D.observed ≡ true → WhereMakingPod (IsMaker draw) (MakesUnderImages draw) nothing_made (D.shown c.args.dir.now) (λ intent hs. HasMakerFolder draw intent hs new)) c.make_and_take_out-result.result
    (λ e f t intent hs maker under k. gate_back maker under.apart (number_is_new gate k c.in-Ok.ensures.unopened) (λ s known. c.unlock_area.ensures.gives t s known)
    (f t intent (on_gate gate Embryo (Some Shared) ∷ hs) maker (under_both gate under) (c.in-Ok.ensures.taken t (seen_making intent hs nothing_made) k (may_lock under))))
    c.make_and_take_out-result.ensures.left

pub returns-in-Err-clause-went : goal.returns-in-Err-clause-went
returns-in-Err-clause-went g c = went_refused c.args.draw c.lock_area.ensures.same c.lock_area.ensures.faults c.in-Err.ensures.refused c.lock_area.ensures.extends

pub returns-in-Err-clause-left : goal.returns-in-Err-clause-left
returns-in-Err-clause-left g c t intent hs maker under k = has_nothing (c.in-Err.ensures.left t (seen_making intent hs nothing_made) k (may_lock under))

pub returns-in-Err-clause-cause : goal.returns-in-Err-clause-cause
returns-in-Err-clause-cause g c =
    let D = g.D.Dir in
    subst (λ (x : MakeError). MakeCause D.observed c.args.draw [] x (D.shown c.args.dir.now) (D.shown c.lock_area.new.dir)) (sym c.lock_refusal.ensures)
    (lock_cause c.in-Err.error (λ is. c.in-Err.ensures.busy (ap Err is)) c.lock_area.ensures.extends (λ is. c.in-Err.ensures.cause (ap Err is)))

pub returns-in-Ok-clause-cause : goal.returns-in-Ok-clause-cause
returns-in-Ok-clause-cause g c =
    let D = g.D.Dir in
    let draw = c.args.draw in
    let old = D.shown c.args.dir.now in
    let mid = D.shown c.lock_area.new.dir in
    let late = D.shown c.make_and_take_out-result.new.dir in
    let new = D.shown c.unlock_area.new.dir in
    let still = c.unlock_area.ensures.faultless in
    let locks : Follows D.observed old mid = record { same = c.lock_area.ensures.same; faults = c.lock_area.ensures.faults; asks = _; extends = c.lock_area.ensures.extends } in
    let gives : Follows D.observed late new = record { same = c.unlock_area.ensures.same; faults = omega (arith, still); asks = _; extends = c.unlock_area.ensures.extends } in
    err_with (λ e. EmbryoCause D.observed draw e mid late) (λ e. MakeCause D.observed draw [] e old new) c.make_and_take_out-result.result
    (λ e was x. locked_cause old mid late new locks c.in-Ok.ensures.free c.lock_area.ensures.extends (follows_went c.make_and_take_out-result.ensures.went) gives
    (λ is t. own_before old late new (own_after old mid late (locks.extends t) locks.same (c.make_and_take_out-result.ensures.stray (was ∙ ap Err is) t)) (gives.extends t)) x)
    c.make_and_take_out-result.ensures.cause

pub returns-in-Ok-clause-brings : goal.returns-in-Ok-clause-brings
returns-in-Ok-clause-brings g c =
    let D = g.D.Dir in
    let draw = c.args.draw in
    if_ok (λ (own : Handle). D.observed ≡ true → BringsToPrepare draw (D.shown c.lock_area.new.dir) (D.shown c.make_and_take_out-result.new.dir)) (λ (own : Handle). D.observed ≡ true → BringsToPrepare draw (D.shown c.args.dir.now) (D.shown c.unlock_area.new.dir)) c.make_and_take_out-result.result
    (λ own f t. answered_before (is_move_to_prepare draw) (answered_after (is_move_to_prepare draw) (c.lock_area.ensures.extends t) c.lock_area.ensures.same (f t)) (c.unlock_area.ensures.extends t)) c.make_and_take_out-result.ensures.brings

pub returns-in-Ok-clause-begins : goal.returns-in-Ok-clause-begins
returns-in-Ok-clause-begins g c =
    let D = g.D.Dir in
    let draw = c.args.draw in
    let old = D.shown c.args.dir.now in
    let mid = D.shown c.lock_area.new.dir in
    let late = D.shown c.make_and_take_out-result.new.dir in
    let new = D.shown c.unlock_area.new.dir in
    let went = c.make_and_take_out-result.ensures.went in
    let same = c.lock_area.ensures.same in
    if_ok (λ (own : Handle). D.observed ≡ true → MakesFirst draw mid late) (λ (own : Handle). D.observed ≡ true → HasMadeFolder draw old new) c.make_and_take_out-result.result
    (λ own f t. folder_before old late new (folder_asked old mid late (c.in-Ok.ensures.free t) (c.lock_area.ensures.extends t) same (went.extends t) (f t)) (went.same ∙ same) (c.unlock_area.ensures.extends t))
    c.make_and_take_out-result.ensures.first
