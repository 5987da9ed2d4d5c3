-- What a step at a listed pod comes to as a deed.
use Rattle.std.proofs.Common.{◌≡◌, ◌≤◌, ◌||◌, ◌⊎◌, inl, inr, ℕ, Bool, true, false, Option, Some, None, codes, Result, Ok, Err, IfOk, IfErr, List, refl, sym, ap, subst, ◌∙◌, not}
use Rattle.plain_laws.proofs.Results.{err_all}
use Rattle.dir_model.specs.declared.area.Area.{Area}
use Rattle.dir_model.specs.declared.area.Area.TheVariants as area
use Rattle.dir_model.specs.declared.area.Phase.{Phase}
use Rattle.dir_model.specs.declared.area.Phase.TheVariants as kind
use Rattle.dir_model.specs.declared.event.Event.{Event}
use Rattle.dir_model.specs.declared.pod.PodId.{PodId}
use Rattle.dir_model.specs.declared.spot.Mode.{Mode}
use Rattle.dir_model.specs.declared.spot.Spot.{Spot}
use Rattle.dir_model.specs.declared.spot.Which.{Which}
use Rattle.dir_model.specs.declared.spot.Which.TheVariants.{Own, Claim}
use Rattle.dir_model.specs.declared.request.Request.{Request}
use Rattle.dir_model.specs.declared.request.Request.TheVariants.{MoveFolder, RemoveFolder, Open, TryLock, Close}
use Rattle.dir_model.specs.declared.request.Reply.TheVariants.{Done}
use Rattle.dir_model.specs.Areas.{rank, phase_in}
use Rattle.dir_model.specs.Between.{LockTold}
use Rattle.dir_model.specs.Calls.{AtOwnStep}
use Rattle.dir_model.specs.Causes.{Rose}
use Rattle.dir_model.specs.State.{DirState, stands, spot_eq}
use Rattle.dir_model.proofs.Lists.{or_last}
use Rattle.dir_model.proofs.Moments.{at_weaker, settle}
use Rattle.dir_rules.specs.declared.seen.Seen.{Seen}
use Rattle.dir_trait.specs.DirCalls.{DirAt, HeldBetween, LockToldBetween, ExtendsBy}
use Rattle.dir_trait.specs.Knowledge.{Knows, OnlyLooks}
use Rattle.dir_trait.specs.Effects.{Given}
use Rattle.lifecycle.specs.Executions.{IsConforming}
use Rattle.lifecycle.proofs.Stays.{stays_between}
use Rattle.phase_read.specs.declared.found.LookError.{LookError}
use Rattle.phase_read.specs.declared.found.LookError.TheVariants as look
use Rattle.dir_model.specs.Spots.{pod_spot}
use Rattle.phase_read.specs.Read.{HasPhase, is_pod_spot}
use Rattle.phase_read.specs.Exact.{AtOwnEvent, IsInPhase}
use Rattle.phase_read.proofs.Exact.{found_exactly}
use Rattle.pod_locks.specs.Work.{Grew}
use Rattle.pod_locks.proofs.ClaimSeen.{off, none_kind}
use Rattle.pod_locks.proofs.Times.{at_part, deeds_part}
use Rattle.pod_locks.proofs.Traces.{grown_none, grown_more}
use Rattle.pod_locks.specs.declared.setback.Setback.{Setback}
use Rattle.pod_locks.specs.declared.setback.Setback.TheVariants as stop
use Rattle.pod_locks.specs.Requests.{looks_at, moves_pod, peeks_at}
use Rattle.pod_locks.specs.Holding.{MayLook, LooksFree, with_look, KeepsReady}
use Rattle.pod_locks.specs.Causes.{StepWasStopped, IsAbsentAt, Did, WasStrayStep, LockBusyElsewhere, PodHeldByAnother, FreeOfOthers, FreeIfObserved}
use Rattle.pod_locks.proofs.Calls.{Follows, stray_part}
use Rattle.pod_gc.specs.RemovalRequests.{is_garbage_place, may_lie_dead, removes}
use Rattle.pod_gc.specs.RemovalHolding.{MayRemove}
use Rattle.pod_gc.proofs.Dead.{at_dead, dead_rank}
use Rattle.pod_gc.proofs.CallKinds.{looks_remove}
use Rattle.pod_gc.proofs.Stages.{same_ready}
use Rattle.pod_gc.proofs.Rounds.{may_kept, looked_keeps}
use Rattle.dir_model.specs.declared.spot.Mode.TheVariants.{Shared, Exclusive}
use Rattle.dir_model.specs.Replies.{is_look_at}
use Rattle.dir_model.proofs.Chains.{and_more, extends_wider}
use Rattle.dir_rules.specs.Standing.{is_in}
use Rattle.dir_laws.proofs.Rose.{rose_later}
use Rattle.pod_locks.specs.Elsewhere.{is_owned_phase}
use Rattle.pod_locks.proofs.Elsewhere.{met_elsewhere}
use Rattle.pod_locks.proofs.Within.{held_within, free_within, told_within}
use Rattle.pod_locks.proofs.Outcomes.{event_part}
use Rattle.phase_read.proofs.Stages.{pod_spot_only}
use Rattle.pod_gc.specs.declared.gc_error.GcError.{GcError}
use Rattle.pod_gc.specs.declared.line.Deed.{Deed}
use Rattle.pod_gc.specs.declared.line.Deed.TheVariants.{Moved, Deleted, Kept, Busy, Left}
use Rattle.pod_gc.specs.Requests.{deals_with_pod, lists_marks, goes_to, moves_pods, owned_phase, lets_be}
use Rattle.pod_gc.specs.Causes.{deed_of, look_fault, GcCause}
use Rattle.pod_gc.specs.declared.ages.Times.{Times}
use Rattle.pod_gc.specs.Ages.{Showed, is_young}
use Rattle.pod_gc.specs.Deeds.{IsGoneFrom, SaysThere, DoesNothing, DeedCause, refused_lock, RestsBy, RestedByAge, is_under_claim, is_resting, busy_mode, mode_of_deed, LeftToAnother, LeavesToAnother, LeavesIfObserved}

-- the calls are of their kind

pub removes_deal : (pod : PodId) (now : ℕ) (place : Area) (r : Request) → removes pod now r ≡ true → deals_with_pod pod now place r ≡ true
removes_deal pod now place r is = or_last (lists_marks pod place r) _ (or_last _ (removes pod now r) is)

pub looks_deal : (pod : PodId) (now : ℕ) (place : Area) → rank place ≤ 5 → (r : Request) → looks_at pod place r ≡ true → deals_with_pod pod now place r ≡ true
looks_deal pod now place stage r is = removes_deal pod now place r (looks_remove pod now place stage r is)

-- why a step was set back, told of the place of the pass
pub record SetBackAt (observed : Bool) (pod : PodId) (place : Area) (e : Setback) (old new : DirAt) : Type 0 where
  pub fault : e ≡ stop.DirFault → Rose old.faults new.faults
  pub gone : e ≡ stop.Missing → observed ≡ true → HeldBetween old new (IsGoneFrom pod place)
  pub lacking : e ≡ stop.NoManifest → observed ≡ true → HeldBetween old new (IsGoneFrom pod place)
  pub stray : e ≡ stop.Stray → observed ≡ true → WasStrayStep old.process old.trace new.trace

pub set_stopped : {observed : Bool} {e : Setback} {old new : DirAt} (pod : PodId) (place : Area) → ((s : DirState) → IsAbsentAt pod place s → IsGoneFrom pod place s) → StepWasStopped observed pod (IsAbsentAt pod place) e old new → SetBackAt observed pod place e old new
set_stopped pod place only x = record { fault = x.fault; gone = λ is t. at_weaker (IsGoneFrom pod place) only (x.missing is t); lacking = λ is t. absurd (x.manifest is); stray = x.stray }

pub gone_garbage : (pod : PodId) (a : Area) → is_garbage_place a ≡ true → (s : DirState) → IsAbsentAt pod a s → IsGoneFrom pod a s
gone_garbage pod area.ExitedGarbage place s h = h
gone_garbage pod area.Garbage place s h = h
gone_garbage pod _ place s h = cc

pub dead_gone : (pod : PodId) (a : Area) → may_lie_dead a ≡ true → (s : DirState) → IsAbsentAt pod a s → IsGoneFrom pod a s
dead_gone pod = at_dead (λ a. (s : DirState) → IsAbsentAt pod a s → IsGoneFrom pod a s) (λ s h. h) (λ s h. h)

pub dead_moves : (a : Area) → may_lie_dead a ≡ true → moves_pods a ≡ true
dead_moves = at_dead (λ a. moves_pods a ≡ true) refl refl

pub garbage_unprepared : (a : Area) → is_garbage_place a ≡ true → a ≡ area.Prepared → ⊥
garbage_unprepared area.ExitedGarbage place is = cc
garbage_unprepared area.Garbage place is = cc
garbage_unprepared _ place is = cc

-- the deeds

pub cause_left : {pod : PodId} {place : Area} {me : ℕ} {old new : List Event} → AtOwnStep me old new (IsGoneFrom pod place) → DeedCause pod place Left me old new
cause_left at = record { moved = λ to is. cc; deleted = λ is. cc; kept = λ p is. cc; left = λ is. at; gate = λ is. cc; claimed = λ here is. cc; freed = λ is. cc; alone = λ is. cc }

pub cause_busy : {pod : PodId} {place : Area} {me : ℕ} {old new : List Event} (which : Which) → (place ≡ area.Prepared → is_under_claim (Busy which) ≡ true → FreeOfOthers pod place Claim Exclusive me old new) → DeedCause pod place (Busy which) me old new
cause_busy which claimed = record { moved = λ to is. cc; deleted = λ is. cc; kept = λ p is. cc; left = λ is. cc; gate = λ is. cc; claimed = claimed; freed = λ is. cc; alone = λ is. cc }

pub cause_moved : {me : ℕ} {old new : List Event} (pod : PodId) (place to : Area) → moves_pods place ≡ true → to ≡ goes_to place → Did (MoveFolder (pod_spot pod place) (pod_spot pod to)) Done me old new
    → (place ≡ area.Prepared → FreeOfOthers pod place Claim Exclusive me old new) → (not (is_in area.Embryo place) ≡ true → LockTold me old new (pod_spot pod place) false) → DeedCause pod place (Moved to) me old new
cause_moved {me} {old} {new} pod place to moves_pod goes did claimed freed = record {
  moved = λ other is. let same : to ≡ other = cc in (moves_pod, sym same ∙ goes, subst (λ (a : Area). Did (MoveFolder (pod_spot pod place) (pod_spot pod a)) Done me old new) same did);
  deleted = λ is. cc;
  kept = λ p is. cc;
  left = λ is. cc;
  gate = λ is. cc;
  claimed = λ here is. claimed here;
  freed = freed;
  alone = λ is. cc;
}

pub cause_deleted : {pod : PodId} {place : Area} {me : ℕ} {old new : List Event} → is_garbage_place place ≡ true → Did (RemoveFolder (pod_spot pod place)) Done me old new → FreeOfOthers pod place Own Exclusive me old new → DeedCause pod place Deleted me old new
cause_deleted garbage did alone = record { moved = λ to is. cc; deleted = λ is. (garbage, did); kept = λ p is. cc; left = λ is. cc; gate = λ is. cc; claimed = λ here is. cc; freed = λ is. cc; alone = λ is. alone }

pub cause_kept : {me : ℕ} {old new : List Event} (pod : PodId) (place : Area) (p : Phase) → lets_be place p ≡ true → (IsConforming new → AtOwnEvent me old new (IsInPhase pod p place)) → (is_resting p ≡ true → LockTold me old new (pod_spot pod place) false) → DeedCause pod place (Kept p) me old new
cause_kept {me} {old} {new} pod place p fits so freed = record {
  moved = λ to is. cc;
  deleted = λ is. cc;
  kept = λ q is. let same : p ≡ q = cc in (subst (λ (x : Phase). lets_be place x ≡ true) same fits, λ conforming. subst (λ (x : Phase). AtOwnEvent me old new (IsInPhase pod x place)) same (so conforming));
  left = λ is. cc;
  gate = λ is. cc;
  claimed = λ here is. cc;
  freed = freed;
  alone = λ is. cc;
}

-- its own lock was refused in prepared
abbrev pub ClaimsFirst : Bool → PodId → Area → Setback → DirAt → DirAt → Type 0
ClaimsFirst observed pod place e old new = e ≡ stop.Busy Own → place ≡ area.Prepared → FreeIfObserved observed pod place Claim Exclusive old new

own_alone : (which : Which) → is_under_claim (Busy which) ≡ true → stop.Busy which ≡ stop.Busy Own
own_alone Own is = refl
own_alone Claim is = cc

pub claims_elsewhere : (observed : Bool) (pod : PodId) (place : Area) (old new : DirAt) (r : Result (Unit {0}) Setback) → (place ≡ area.Prepared → ⊥) → IfErr r (λ e. ClaimsFirst observed pod place e old new)
claims_elsewhere observed pod place old new r never = err_all (λ e. ClaimsFirst observed pod place e old new) r (λ e is here. absurd (never here))

-- nothing is said of another
pub left_moved : {pod : PodId} {place to : Area} {me : ℕ} {old new : List Event} → LeftToAnother pod place (Moved to) me old new
left_moved = record { held = λ which is. cc; owner = λ conforming p is. cc }

pub left_waiting : {pod : PodId} {place : Area} {me : ℕ} {old new : List Event} → LeftToAnother pod place (Kept kind.Prepared) me old new
left_waiting = record { held = λ which is. cc; owner = λ conforming p is owned. let same : kind.Prepared ≡ p = cc in let clash : false ≡ true = ap is_owned_phase same ∙ owned in cc }

pub left_gone : {pod : PodId} {place : Area} {me : ℕ} {old new : List Event} → LeftToAnother pod place Left me old new
left_gone = record { held = λ which is. cc; owner = λ conforming p is. cc }

-- another process held the lock that was refused here
abbrev pub BusyHere : PodId → Area → Setback → DirAt → DirAt → Type 0
BusyHere pod place e old new = (which : Which) → e ≡ stop.Busy which → PodHeldByAnother pod place which (busy_mode place which) old.process old.trace new.trace

pub busy_garbage : (pod : PodId) (place : Area) (e : Setback) (old new : DirAt) → is_garbage_place place ≡ true → LockBusyElsewhere pod place Exclusive e old new → BusyHere pod place e old new
busy_garbage pod area.ExitedGarbage e old new garbage busy which is = busy which is
busy_garbage pod area.Garbage e old new garbage busy which is = busy which is
busy_garbage pod _ e old new garbage busy which is = cc

module _ (observed : Bool) (pod : PodId) (place : Area) (done : Deed) (old new : DirAt) where
  pub step_deed : (r : Result (Unit {0}) Setback) → IfOk r (λ d. observed ≡ true → DeedCause pod place done old.process old.trace new.trace) → IfErr r (λ e. SetBackAt observed pod place e old new)
      → IfErr r (λ e. ClaimsFirst observed pod place e old new) → IfOk (deed_of r done) (λ deed. observed ≡ true → DeedCause pod place deed old.process old.trace new.trace)
  step_deed (Ok d) ok err claims = ok
  step_deed (Err stop.Missing) ok err claims = λ t. cause_left (err.gone refl t)
  step_deed (Err stop.NoManifest) ok err claims = λ t. cause_left (err.lacking refl t)
  step_deed (Err (stop.Busy which)) ok err claims = λ t. cause_busy which (λ here is. claims (own_alone which is) here t)
  step_deed (Err _) ok err claims = tt

  pub step_cause : (r : Result (Unit {0}) Setback) → IfErr r (λ e. SetBackAt observed pod place e old new) → IfErr (deed_of r done) (λ e. GcCause observed e old new)
  step_cause (Ok d) err = tt
  step_cause (Err stop.Missing) err = tt
  step_cause (Err stop.NoManifest) err = tt
  step_cause (Err (stop.Busy which)) err = tt
  step_cause (Err stop.DirFault) err = record { fault = λ is. err.fault refl; stray = λ is. cc }
  step_cause (Err stop.Stray) err = record { fault = λ is. cc; stray = λ is t. err.stray refl t }
  step_cause (Err stop.NoMemory) err = record { fault = λ is. cc; stray = λ is. cc }

  module _ (May : Seen → Type 0) (calm : (which : Which) → refused_lock done ≡ Some which → ⊥) (acts : (p : Phase) → done ≡ Kept p → ⊥) where
    pub step_another : (r : Result (Unit {0}) Setback) → IfErr r (λ e. observed ≡ true → Given May old (λ s. BusyHere pod place e old new)) → IfOk (deed_of r done) (λ deed. LeavesIfObserved observed May pod place deed old new)
    step_another (Ok d) busy = λ t s k m. record { held = λ which is. absurd (calm which is); owner = λ conforming p is. absurd (acts p is) }
    step_another (Err stop.Missing) busy = λ t s k m. left_gone
    step_another (Err stop.NoManifest) busy = λ t s k m. left_gone
    step_another (Err (stop.Busy w)) busy = λ t s k m. record {
      held = λ which is. let same : w ≡ which = cc in subst (λ (v : Which). PodHeldByAnother pod place v (busy_mode place w) old.process old.trace new.trace) same (busy t s k m w refl);
      owner = λ conforming p is. cc;
    }
    step_another (Err stop.DirFault) busy = tt
    step_another (Err stop.Stray) busy = tt
    step_another (Err stop.NoMemory) busy = tt

-- a pod that is let be by what its own lock told

pub kept_phase : {me other : ℕ} {old mid new : List Event} (pod : PodId) (place : Area) (p : Phase) (owned : Bool) → rank place ≤ 5 → phase_in place owned ≡ Some p → LockTold me old mid (pod_spot pod place) owned → other ≡ me
    → AtOwnStep other mid new (λ s. stands s.namespace (pod_spot pod place) ≡ true) → IsConforming new → AtOwnEvent me old new (IsInPhase pod p place)
kept_phase {me} {other} {old} {mid} {new} pod place p owned stage is told same there conforming =
    found_exactly pod p place stage conforming
    (at_weaker (HasPhase (pod_spot pod place) p) (λ s h. record { owned = owned; here = h; is = is })
    (settle stage told (subst (λ (n : ℕ). AtOwnStep n mid new (λ s. stands s.namespace (pod_spot pod place) ≡ true)) same there) (stays_between new conforming)))

module _ (observed : Bool) (pod : PodId) (place : Area) (p : Phase) (owned : Bool) (stage : rank place ≤ 5) (is : phase_in place owned ≡ Some p) (fits : lets_be place p ≡ true) (rests : is_resting p ≡ true → owned ≡ false) (only : (s : DirState) → IsAbsentAt pod place s → IsGoneFrom pod place s)
    (old mid new : DirAt) (ab : Follows observed old mid) (bc : Follows observed mid new) (told : observed ≡ true → LockToldBetween old mid (pod_spot pod place) owned) where
  pub said_deed : (r : Result Deed GcError) → IfOk r (λ deed. SaysThere observed pod place p deed mid new) → IfOk r (λ deed. observed ≡ true → DeedCause pod place deed old.process old.trace new.trace)
  said_deed (Err e) x = tt
  said_deed (Ok deed) x = λ t. by deed x.is x t
    where
      by : (d : Deed) → (d ≡ Kept p) ⊎ (d ≡ Left) → SaysThere observed pod place p d mid new → observed ≡ true → DeedCause pod place d old.process old.trace new.trace
      by d (inl kept) y t = subst (λ (z : Deed). DeedCause pod place z old.process old.trace new.trace) (sym kept) (cause_kept pod place p fits (λ conforming. kept_phase pod place p owned stage is (told t) ab.same (y.there kept t) conforming)
          (λ rest. subst (λ (b : Bool). LockTold old.process old.trace new.trace (pod_spot pod place) b) (rests rest) (told_within grown_none refl (bc.grown t) (told t))))
      by d (inr left) y t = subst (λ (z : Deed). DeedCause pod place z old.process old.trace new.trace) (sym left) (cause_left (at_part (ab.grown t) ab.same grown_none (at_weaker (IsGoneFrom pod place) only (y.gone left t))))

-- where it may lie dead, its owner was preparing or running it
module _ (observed : Bool) (pod : PodId) (place : Area) (p : Phase) (dead : may_lie_dead place ≡ true) (its : p ≡ owned_phase place) where
  owned_in : phase_in place true ≡ Some p
  owned_in = at_dead (λ a. phase_in a true ≡ Some (owned_phase a)) refl refl place dead ∙ ap Some (sym its)

  owned_stays : lets_be place p ≡ true
  owned_stays = ap (lets_be place) its ∙ at_dead (λ a. lets_be a (owned_phase a) ≡ true) refl refl place dead

  owned_works : is_resting p ≡ true → true ≡ false
  owned_works rest = sym rest ∙ (ap is_resting its ∙ at_dead (λ a. is_resting (owned_phase a) ≡ false) refl refl place dead)

  pub said_dead : (old mid new : DirAt) → Follows observed old mid → Follows observed mid new → (observed ≡ true → LockToldBetween old mid (pod_spot pod place) true) → (r : Result Deed GcError) → IfOk r (λ deed. SaysThere observed pod place p deed mid new)
      → IfOk r (λ deed. observed ≡ true → DeedCause pod place deed old.process old.trace new.trace)
  said_dead old mid new ab bc told = said_deed observed pod place p true (dead_rank place dead) owned_in owned_stays owned_works (dead_gone pod place dead) old mid new ab bc told

never_busy : (d : Deed) (p : Phase) → (d ≡ Kept p) ⊎ (d ≡ Left) → (which : Which) → d ≡ Busy which → ⊥
never_busy d p (inl kept) which is = let e : Kept p ≡ Busy which = sym kept ∙ is in cc
never_busy d p (inr left) which is = let e : Left ≡ Busy which = sym left ∙ is in cc

phase_kept : (d : Deed) (p : Phase) → (d ≡ Kept p) ⊎ (d ≡ Left) → (q : Phase) → d ≡ Kept q → p ≡ q
phase_kept d p (inl kept) q is = let e : Kept p ≡ Kept q = sym kept ∙ is in cc
phase_kept d p (inr left) q is = let e : Left ≡ Kept q = sym left ∙ is in cc

lock_kept : (d : Deed) (p : Phase) → (d ≡ Kept p) ⊎ (d ≡ Left) → (which : Which) → refused_lock d ≡ Some which → refused_lock (Kept p) ≡ Some which
lock_kept d p (inl kept) which is = sym (ap refused_lock kept) ∙ is
lock_kept d p (inr left) which is = let e : None ≡ Some which = sym (ap refused_lock left) ∙ is in cc

-- by a phase that has no owner
pub said_calm : (observed : Bool) (May : Seen → Type 0) (pod : PodId) (place : Area) (p : Phase) (old mid new : DirAt) → refused_lock (Kept p) ≡ None → is_owned_phase p ≡ false → (r : Result Deed GcError) → IfOk r (λ deed. SaysThere observed pod place p deed mid new)
    → IfOk r (λ deed. LeavesIfObserved observed May pod place deed old new)
said_calm observed May pod place p old mid new free unowned (Err e) x = tt
said_calm observed May pod place p old mid new free unowned (Ok deed) x = λ t s k m. record {
  held = λ which is. let e : None ≡ Some which = sym free ∙ lock_kept deed p x.is which is in cc;
  owner = λ conforming q is owned. let e : false ≡ true = sym unowned ∙ (ap is_owned_phase (phase_kept deed p x.is q is) ∙ owned) in cc;
}

-- by a phase that has one, once its own lock was refused
own_kept : (p : Phase) (which : Which) → refused_lock (Kept p) ≡ Some which → which ≡ Own
own_kept kind.Preparing which is = cc
own_kept kind.Running which is = cc
own_kept kind.Deleting which is = cc
own_kept _ which is = cc

module _ (observed : Bool) (now : ℕ) (pod : PodId) (place : Area) (w : Which) (p : Phase) (old mid new : DirAt) (stage : rank place ≤ 5) (same : mid.process ≡ old.process) (bc : Follows observed mid new) (named : w ≡ Own)
    (busy : observed ≡ true → Given (MayRemove now) old (λ s. LockBusyElsewhere pod place Shared (stop.Busy w) old mid)) (first : observed ≡ true → ExtendsBy (peeks_at pod place) old mid) (then : observed ≡ true → ExtendsBy (peeks_at pod place) mid new) where
  peeks_its : (r : Request) → peeks_at pod place r ≡ true → is_look_at (is_pod_spot pod) r ≡ true
  peeks_its (Open spot which) is = pod_spot_only pod (pod_spot pod place) spot stage refl is
  peeks_its (TryLock handle Shared) is = refl
  peeks_its (TryLock handle Exclusive) is = cc
  peeks_its (Close handle) is = refl
  peeks_its _ is = cc

  pub said_refused : (r : Result Deed GcError) → IfOk r (λ deed. SaysThere observed pod place p deed mid new) → IfOk r (λ deed. observed ≡ true → DeedCause pod place deed old.process old.trace new.trace) → IfOk r (λ deed. LeavesIfObserved observed (MayRemove now) pod place deed old new)
  said_refused (Err e) x cause = tt
  said_refused (Ok deed) x cause = λ t s k m. record {
    held = λ which is. subst (λ (mode : Mode). PodHeldByAnother pod place which mode old.process old.trace new.trace) (kept_mode deed p x.is which is)
        (subst (λ (l : Which). PodHeldByAnother pod place l Shared old.process old.trace new.trace) (named ∙ sym (own_kept p which (lock_kept deed p x.is which is)))
        (held_within grown_none refl (bc.grown t) (busy t s k m w refl)));
    owner = λ conforming q is owned. met_elsewhere pod old new (extends_wider peeks_its (and_more (first t) same (then t))) conforming s k m.apart q place owned (((cause t).kept q is).1 conforming);
  }
    where
      kept_mode : (d : Deed) (q : Phase) → (d ≡ Kept q) ⊎ (d ≡ Left) → (which : Which) → refused_lock d ≡ Some which → Shared ≡ mode_of_deed place d
      kept_mode d q (inl kept) which is = ap (mode_of_deed place) (sym kept)
      kept_mode d q (inr left) which is = ap (mode_of_deed place) (sym left)

pub cause_after : {observed : Bool} {e : GcError} {a b c : DirAt} → Follows observed a b → GcCause observed e b c → GcCause observed e a c
cause_after {observed} {e} {a} {b} {c} ab x = record { fault = λ is. rose_later a.faults b.faults c.faults ab.faults (x.fault is); stray = λ is t. stray_part (ab.grown t) ab.same grown_none (x.stray is t) }

-- a look after a step

pub ready_looked : {now : ℕ} {a b c : DirAt} → Given (MayRemove now) a (λ s. KeepsReady s b) → OnlyLooks b c → Given (MayRemove now) a (λ s. KeepsReady s c)
ready_looked ready looks s k m =
    let x = ready s k m in
    let y = looks x.known x.knows in
    let z = looked_keeps (may_kept x.keeps m) y.looked in
    record { known = y.known; keeps = record { intent = z.intent ∙ x.keeps.intent; holdings = z.holdings ∙ x.keeps.holdings; kept = z.kept ∙ x.keeps.kept; bare = z.bare }; knows = y.knows }

-- a look alone

pub says_there : {observed : Bool} {spot : Spot} (pod : PodId) (place : Area) (p : Phase) (old new : DirAt) → spot ≡ pod_spot pod place → (observed ≡ true → HeldBetween old new (λ s. stands s.namespace spot ≡ true)) → SaysThere observed pod place p (Kept p) old new
says_there pod place p old new is there = record { is = inl refl; there = λ e t. subst (λ (x : Spot). HeldBetween old new (λ s. stands s.namespace x ≡ true)) is (there t); gone = λ e. cc }

pub says_gone : {observed : Bool} {spot : Spot} (pod : PodId) (place : Area) (p : Phase) (old new : DirAt) → spot ≡ pod_spot pod place → (observed ≡ true → HeldBetween old new (λ s. stands s.namespace spot ≡ false)) → SaysThere observed pod place p Left old new
says_gone pod place p old new is absent = record { is = inr refl; there = λ e. cc; gone = λ e t. subst (λ (x : Spot). HeldBetween old new (λ s. stands s.namespace x ≡ false)) is (absent t) }

pub peeks_here : {observed : Bool} {spot : Spot} (pod : PodId) (place : Area) (old new : DirAt) → spot ≡ pod_spot pod place → (observed ≡ true → ExtendsBy (is_look_at (spot_eq spot)) old new) → observed ≡ true → ExtendsBy (peeks_at pod place) old new
peeks_here pod place old new is looks t = subst (λ (s : Spot). ExtendsBy (is_look_at (spot_eq s)) old new) is (looks t)

pub look_cause : {observed : Bool} {old new : DirAt} (e : LookError) → (e ≡ look.DirFault → Rose old.faults new.faults) → GcCause observed (look_fault e) old new
look_cause look.DirFault rose = record { fault = λ is. rose refl; stray = λ is. cc }
look_cause _ rose = record { fault = λ is. cc; stray = λ is. cc }

-- a pod whose time isn't over

pub step_rests : (done : Deed) (e : Setback) → IfOk (deed_of (Err e) done) (λ deed. DoesNothing deed)
step_rests done stop.Missing = tt
step_rests done stop.NoManifest = tt
step_rests done (stop.Busy which) = tt
step_rests done _ = tt

pub said_rests : (p : Phase) (deed : Deed) → (deed ≡ Kept p) ⊎ (deed ≡ Left) → DoesNothing deed
said_rests p deed (inl kept) = subst (λ (d : Deed). DoesNothing d) (sym kept) tt
said_rests p deed (inr left) = subst (λ (d : Deed). DoesNothing d) (sym left) tt

pub looks_resting : {now : ℕ} {s : Seen} (pod : PodId) → MayRemove now s → MayLook pod area.ExitedGarbage s
looks_resting {now} {s} pod m = record { alone = off Own (pod_spot pod area.ExitedGarbage) s.standing.holdings m.apart; single = none_kind Own s.standing.holdings m.apart; may = refl }

pub ready_probed : {now : ℕ} {a b : DirAt} (pod : PodId) → Given (MayLook pod area.ExitedGarbage) a (λ s. LooksFree pod area.ExitedGarbage s b) → Given (MayRemove now) a (λ s. KeepsReady s b)
ready_probed pod free s k m = record { known = with_look pod area.ExitedGarbage s; keeps = record { intent = refl; holdings = refl; kept = refl; bare = m.bare }; knows = free s k (looks_resting pod m) }

pub ready_unprobed : {now : ℕ} {a b : DirAt} (pod : PodId) → Given (MayLook pod area.ExitedGarbage) a (λ s. Knows b s) → Given (MayRemove now) a (λ s. KeepsReady s b)
ready_unprobed pod left s k m = same_ready m (left s k (looks_resting pod m))

-- a step that no lock stops
pub step_calm : (done : Deed) → ((which : Which) → refused_lock done ≡ Some which → ⊥) → (r : Result (Unit {0}) Setback) → IfErr r (λ e. (which : Which) → e ≡ stop.Busy which → ⊥) → IfOk (deed_of r done) (λ deed. (which : Which) → refused_lock deed ≡ Some which → ⊥)
step_calm done calm (Ok d) never = calm
step_calm done calm (Err stop.Missing) never = λ which is. cc
step_calm done calm (Err stop.NoManifest) never = λ which is. cc
step_calm done calm (Err (stop.Busy w)) never = absurd (never w refl)
step_calm done calm (Err stop.DirFault) never = tt
step_calm done calm (Err stop.Stray) never = tt
step_calm done calm (Err stop.NoMemory) never = tt

-- a step never lets a pod be for its phase
pub step_ends : (done : Deed) → ((p : Phase) → done ≡ Kept p → ⊥) → (r : Result (Unit {0}) Setback) → IfOk (deed_of r done) (λ deed. (p : Phase) → deed ≡ Kept p → ⊥)
step_ends done calm (Ok d) = calm
step_ends done calm (Err stop.Missing) = λ p is. cc
step_ends done calm (Err stop.NoManifest) = λ p is. cc
step_ends done calm (Err (stop.Busy w)) = λ p is. cc
step_ends done calm (Err stop.DirFault) = tt
step_ends done calm (Err stop.Stray) = tt
step_ends done calm (Err stop.NoMemory) = tt

pub said_unbusy : (p : Phase) (d : Deed) → (d ≡ Kept p) ⊎ (d ≡ Left) → (which : Which) → d ≡ Busy which → ⊥
said_unbusy p d is which busy = never_busy d p is which busy

pub said_unmoved : (p : Phase) (d : Deed) → (d ≡ Kept p) ⊎ (d ≡ Left) → (to : Area) → d ≡ Moved to → ⊥
said_unmoved p d (inl kept) to is = let e : Kept p ≡ Moved to = sym kept ∙ is in cc
said_unmoved p d (inr left) to is = let e : Left ≡ Moved to = sym left ∙ is in cc

pub step_unmoved : (done : Deed) (e : Setback) → IfOk (deed_of (Err e) done) (λ deed. (to : Area) → deed ≡ Moved to → ⊥)
step_unmoved done stop.Missing = λ to is. cc
step_unmoved done stop.NoManifest = λ to is. cc
step_unmoved done (stop.Busy which) = λ to is. cc
step_unmoved done _ = tt

-- by its age

pub rests_young : {young : Bool} (deed : Deed) → young ≡ true → DoesNothing deed → ((which : Which) → deed ≡ Busy which → ⊥) → RestsBy young deed
rests_young (Kept p) is nothing calm = record { rests = λ q e. is; over = λ e. cc }
rests_young (Busy which) is nothing calm = absurd (calm which refl)
rests_young Left is nothing calm = record { rests = λ q e. is; over = λ e. cc }
rests_young _ is nothing calm = absurd nothing

pub rests_over : {young : Bool} (deed : Deed) → young ≡ false → ((p : Phase) → deed ≡ Kept p → ⊥) → RestsBy young deed
rests_over deed is ends = record { rests = λ p e. absurd (ends p e); over = λ e. is }

-- after the marks were listed

pub showed_longer : {pod : PodId} {place : Area} {text : List ℕ} {m : Option ℕ} {me : ℕ} {a b c : List Event} → Showed pod place text m me a b → Grew b c → Showed pod place text m me a c
showed_longer x more = record { items = x.items; after = x.after; only = x.only; shows = x.shows; last = grown_more x.last more; greatest = x.greatest }

pub rested_so : {observed : Bool} {b c : DirAt} (times : Times) (pod : PodId) (a : DirAt) (m : Option ℕ) (deed : Deed) → observed ≡ true → Follows observed b c → Showed pod area.ExitedGarbage (codes "marked-") m a.process a.trace b.trace → RestsBy (is_young times.now times.grace m) deed
    → RestedByAge times pod deed a.process a.trace c.trace
rested_so times pod a m deed t bc shows by = record { rests = λ p is. (m, showed_longer shows (bc.grown t), by.rests p is); over = λ is. (m, showed_longer shows (bc.grown t), by.over is) }

deed_after : {pod : PodId} {place : Area} {deed : Deed} {me other : ℕ} {a b c : List Event} → Grew a b → other ≡ me → DeedCause pod place deed other b c → DeedCause pod place deed me a c
deed_after ab same x = record {
  moved = λ to is. let y = x.moved to is in (y.0, y.1, deeds_part ab same grown_none y.2);
  deleted = λ is. let y = x.deleted is in (y.0, deeds_part ab same grown_none y.1);
  kept = λ p is. let y = x.kept p is in (y.0, λ conforming. event_part ab same (y.1 conforming));
  left = λ is. at_part ab same grown_none (x.left is);
  gate = x.gate;
  claimed = λ here is. free_within ab same grown_none (x.claimed here is);
  freed = λ is. told_within ab same grown_none (x.freed is);
  alone = λ is. free_within ab same grown_none (x.alone is);
}

pub deed_later : {observed : Bool} {pod : PodId} {place : Area} {deed : Deed} {a b : DirAt} (c : DirAt) → observed ≡ true → Follows observed a b → DeedCause pod place deed b.process b.trace c.trace → DeedCause pod place deed a.process a.trace c.trace
deed_later c t ab x = deed_after (ab.grown t) ab.same x

pub left_after : {pod : PodId} {place : Area} {deed : Deed} {me other : ℕ} {a b c : List Event} → Grew a b → other ≡ me → LeftToAnother pod place deed other b c → LeftToAnother pod place deed me a c
left_after {pod} {place} {deed} {me} {other} {a} {b} {c} ab same x =
    let y = subst (λ (p : ℕ). LeftToAnother pod place deed p b c) same x in
    record { held = λ which is. held_within ab refl grown_none (y.held which is); owner = λ conforming p is owned. event_part ab refl (y.owner conforming p is owned) }

pub busy_later : {observed : Bool} {now : ℕ} {pod : PodId} {place : Area} {a b : DirAt} (deed : Deed) (c : DirAt) → observed ≡ true → Follows observed a b → Given (MayRemove now) a (λ s. KeepsReady s b) → Given (MayRemove now) b (λ s. LeavesToAnother pod place deed b c)
    → Given (MayRemove now) a (λ s. LeavesToAnother pod place deed a c)
busy_later deed c t ab ready busy s k m = let x = ready s k m in left_after (ab.grown t) ab.same (busy x.known x.knows (may_kept x.keeps m))

pub ready_later : {now : ℕ} {a b c : DirAt} → Given (MayRemove now) a (λ s. KeepsReady s b) → Given (MayRemove now) b (λ s. KeepsReady s c) → Given (MayRemove now) a (λ s. KeepsReady s c)
ready_later ab bc s k m =
    let x = ab s k m in
    let y = bc x.known x.knows (may_kept x.keeps m) in
    record { known = y.known; keeps = record { intent = y.keeps.intent ∙ x.keeps.intent; holdings = y.keeps.holdings ∙ x.keeps.holdings; kept = y.keeps.kept ∙ x.keeps.kept; bare = y.keeps.bare }; knows = y.knows }

-- or nothing was there
pub gone_deed : {observed : Bool} {pod : PodId} (old new : DirAt) (place : Area) → ((s : DirState) → IsAbsentAt pod place s → IsGoneFrom pod place s) → (observed ≡ true → HeldBetween old new (IsAbsentAt pod place)) → observed ≡ true → DeedCause pod place Left old.process old.trace new.trace
gone_deed {observed} {pod} old new place only absent t = cause_left (at_weaker (IsGoneFrom pod place) only (absent t))

pub lists_deal : (pod : PodId) (now : ℕ) (place : Area) (r : Request) → lists_marks pod place r ≡ true → deals_with_pod pod now place r ≡ true
lists_deal pod now place r is = ap (λ b. b || (moves_pod pod area.Embryo area.Garbage r || removes pod now r)) is
