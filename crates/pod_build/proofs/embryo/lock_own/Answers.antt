use Rattle.std.proofs.Common.{◌≡◌, ℕ, true, Err, refl, ap, sym, subst, ◌∙◌}
use Rattle.dir_model.specs.declared.area.Area.TheVariants.{Embryo}
use Rattle.dir_model.specs.declared.request.Reply.TheVariants.{Opened, Refused}
use Rattle.dir_model.specs.declared.spot.Spot.{Spot}
use Rattle.dir_model.specs.Calls.{CallStep}
use Rattle.dir_model.specs.Replies.{may_refuse}
use Rattle.dir_model.proofs.Chains.{nothing_yet, and_call}
use Rattle.pod_build.specs.declared.make_error.MakeError.TheVariants.{Stray}
use Rattle.dir_model.specs.Spots.{pod_spot}
use Rattle.dir_model.specs.declared.opening.Target.TheVariants.{Own}
use Rattle.dir_model.specs.declared.request.Request.TheVariants.{Open, TryLock}
use Rattle.dir_model.specs.declared.spot.Mode.TheVariants.{Exclusive}
use Rattle.dir_model.specs.declared.spot.Which.TheVariants as which
use Rattle.dir_model.specs.Local.{Local, IsUnlocked}
use Rattle.dir_model.proofs.Holdings.{unlocked_new}
use Rattle.dir_model.proofs.Spots.{spot_self}
use Rattle.dir_trait.proofs.Calls.{with_spot}
use Rattle.pod_build.specs.declared.make_error.MakeError.{MakeError}
use Rattle.pod_build.specs.MakingCauses.{WasOpenedThere, MakingWorkCause}
use Rattle.pod_build.proofs.Calls.{change_cause, shows_call, taken_open, taken_lock, follows_call}
use Rattle.pod_build.proofs.Knowing.{knows_locked, knows_unlocked, knows_unopened}
use Rattle.pod_build.proofs.Outcomes.{follows_close, went_locked, went_unlocked, went_unopened}
use Rattle.pod_build.proofs.Times.{cause_after, cause_before, taken_after, taken_before}
use Rattle.pod_build.proofs.embryo.lock_own.Goals as goal

pub try_lock-requires-clause-unlocked : goal.try_lock-requires-clause-unlocked
try_lock-requires-clause-unlocked g c =
    let before = (g.D.Dir.shown c.args.dir.now).local in
    let unlocked = unlocked_new before c.in-Ok.own (Own c.of_pod-spot.result) c.in-Ok.ensures.unopened in
    subst (λ (m : Local). IsUnlocked m c.in-Ok.own) (sym c.in-Ok.ensures.called.local) unlocked

pub returns-in-Ok-try_lock-clause-went : goal.returns-in-Ok-try_lock-clause-went
returns-in-Ok-try_lock-clause-went g c =
    went_locked c.args.draw c.in-Ok.own c.in-Ok.ensures.unopened (with_spot (λ s. Open s which.Own) c.of_pod-spot.ensures c.in-Ok.ensures.called) c.in-Ok-try_lock.ensures.called

pub returns-in-Ok-try_lock-clause-held : goal.returns-in-Ok-try_lock-clause-held
returns-in-Ok-try_lock-clause-held g c t =
    knows_locked {draw = c.args.draw} t c.in-Ok.ensures.unopened (with_spot (λ s. Open s which.Own) c.of_pod-spot.ensures c.in-Ok.ensures.called) c.in-Ok-try_lock.ensures.called

pub returns-in-Err-try_lock-clause-went : goal.returns-in-Err-try_lock-clause-went
returns-in-Err-try_lock-clause-went g c =
    went_unlocked c.args.draw c.in-Ok.own c.in-Err-try_lock.error c.in-Ok.ensures.unopened (with_spot (λ s. Open s which.Own) c.of_pod-spot.ensures c.in-Ok.ensures.called) c.in-Err-try_lock.ensures.called c.close.ensures.called

pub returns-in-Err-try_lock-clause-cause : goal.returns-in-Err-try_lock-clause-cause
returns-in-Err-try_lock-clause-cause g c =
    let D = g.D.Dir in
    let e = c.in-Err-try_lock.error in
    let asks = c.in-Err-try_lock.ensures in
    subst (λ (x : MakeError). MakingWorkCause D.observed _ x (D.shown c.args.dir.now) (D.shown c.close.new.self)) (sym c.change_refusal.ensures)
    (cause_before (asks.called.same ∙ c.in-Ok.ensures.called.same)
    (cause_after (follows_call c.in-Ok.ensures.called)
    (change_cause e (λ is. asks.cause (ap Err is))))
    (follows_close c.close.ensures.faultless c.close.ensures.called))

pub returns-in-Err-try_lock-clause-left : goal.returns-in-Err-try_lock-clause-left
returns-in-Err-try_lock-clause-left g c t =
    knows_unlocked {draw = c.args.draw} c.in-Err-try_lock.error t c.in-Ok.ensures.unopened (with_spot (λ s. Open s which.Own) c.of_pod-spot.ensures c.in-Ok.ensures.called) c.in-Err-try_lock.ensures.called c.close.ensures.called

pub returns-in-Err-clause-went : goal.returns-in-Err-clause-went
returns-in-Err-clause-went g c = went_unopened c.args.draw c.in-Err.error (with_spot (λ s. Open s which.Own) c.of_pod-spot.ensures c.in-Err.ensures.called)

pub returns-in-Err-clause-cause : goal.returns-in-Err-clause-cause
returns-in-Err-clause-cause g c =
    let D = g.D.Dir in
    let e = c.in-Err.error in
    subst (λ (x : MakeError). MakingWorkCause D.observed _ x (D.shown c.args.dir.now) (D.shown c.«open».new.self)) (sym c.change_refusal-in-Err.ensures)
    (change_cause e (λ is. c.in-Err.ensures.cause (ap Err is)))

pub returns-in-Err-clause-left : goal.returns-in-Err-clause-left
returns-in-Err-clause-left g c t = knows_unopened {draw = c.args.draw} c.in-Err.error t (with_spot (λ s. Open s which.Own) c.of_pod-spot.ensures c.in-Err.ensures.called)

pub returns-in-Ok-try_lock-clause-locks : goal.returns-in-Ok-try_lock-clause-locks
returns-in-Ok-try_lock-clause-locks g c t =
    let opens = with_spot (λ s. Open s which.Own) c.of_pod-spot.ensures c.in-Ok.ensures.called in
    and_call (and_call nothing_yet refl (spot_self (pod_spot c.args.draw Embryo)) (opens.step t)) opens.same refl (c.in-Ok-try_lock.ensures.called.step t)

pub returns-in-Err-try_lock-clause-stray : goal.returns-in-Err-try_lock-clause-stray
returns-in-Err-try_lock-clause-stray g c h t =
    let e = c.in-Err-try_lock.error in
    let is : c.change_refusal.result ≡ Stray = cc in
    let opens = with_spot (λ s. Open s which.Own) c.of_pod-spot.ensures c.in-Ok.ensures.called in
    let asks = c.in-Err-try_lock.ensures in
    let D = g.D.Dir in
    let old = D.shown c.args.dir.now in
    let mid = D.shown c.«open».new.self in
    let lock : WasOpenedThere c.args.draw mid.process mid.trace (TryLock c.in-Ok.own Exclusive) = (old.trace, subst (λ (p : ℕ). CallStep p old.trace (Open (pod_spot c.args.draw Embryo) which.Own) (Opened c.in-Ok.own) mid.trace) (sym opens.same) (opens.step t)) in
    taken_before (taken_after (and_call nothing_yet refl (spot_self (pod_spot c.args.draw Embryo)) (opens.step t)) opens.same
    (shows_call (TryLock c.in-Ok.own _) (Refused e 0) lock (taken_lock c.args.draw c.in-Ok.own e asks.refusals (sym c.change_refusal.ensures ∙ is)) (asks.called.step t)))
    ((follows_close c.close.ensures.faultless c.close.ensures.called).extends t)

pub returns-in-Err-clause-stray : goal.returns-in-Err-clause-stray
returns-in-Err-clause-stray g c h t =
    let e = c.in-Err.error in
    let is : c.change_refusal-in-Err.result ≡ Stray = cc in
    shows_call (Open (pod_spot c.args.draw Embryo) which.Own) (Refused e 0) tt
    (taken_open c.args.draw e (subst (λ (s : Spot). may_refuse (Open s which.Own) e ≡ true) c.of_pod-spot.ensures c.in-Err.ensures.refusals) (sym c.change_refusal-in-Err.ensures ∙ is))
    ((with_spot (λ s. Open s which.Own) c.of_pod-spot.ensures c.in-Err.ensures.called).step t)
