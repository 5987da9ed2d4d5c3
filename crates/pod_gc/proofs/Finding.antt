-- What a round does with a pod that it found, from its steps.
use Rattle.std.proofs.Common.{◌≡◌, inl, inr, ℕ, Bool, true, Result, Ok, Err, IfOk, IfErr, List, refl, sym, ap, subst, ◌∙◌}
use Rattle.dir_model.specs.declared.area.Area.{Area}
use Rattle.dir_model.specs.declared.area.Area.TheVariants.{Prepare, Prepared, Run, ExitedGarbage, Garbage}
use Rattle.dir_model.specs.declared.area.Phase.{Phase}
use Rattle.dir_model.specs.declared.area.Phase.TheVariants as kind
use Rattle.dir_model.specs.declared.event.Event.{Event}
use Rattle.dir_model.specs.declared.pod.PodId.{PodId}
use Rattle.dir_model.specs.declared.spot.Mode.TheVariants.{Shared, Exclusive}
use Rattle.dir_model.specs.declared.spot.Which.{Which}
use Rattle.dir_model.specs.declared.spot.Which.TheVariants.{Own, Claim}
use Rattle.dir_model.specs.declared.request.Reply.TheVariants.{Done}
use Rattle.dir_model.specs.declared.request.Request.TheVariants.{MoveFolder}
use Rattle.dir_model.specs.Calls.{Extends, AtOwnStep}
use Rattle.dir_model.specs.Replies.{is_look_at}
use Rattle.dir_trait.specs.DirCalls.{DirAt, HeldBetween}
use Rattle.phase_read.specs.declared.found.Found.TheVariants.{At}
use Rattle.phase_read.specs.declared.found.LookError.{LookError}
use Rattle.phase_read.specs.declared.found.LookError.TheVariants as look
use Rattle.dir_model.specs.Spots.{pod_spot}
use Rattle.phase_read.specs.Read.{is_pod_spot, IsPhaseReading}
use Rattle.pod_locks.specs.Work.{Grew}
use Rattle.pod_locks.specs.declared.setback.Setback.{Setback}
use Rattle.pod_locks.specs.declared.setback.Setback.TheVariants as stop
use Rattle.pod_locks.specs.Setbacks.{look_setback}
use Rattle.pod_locks.specs.Causes.{IsAbsentAt, Did, LockBusyElsewhere, PodHeldByAnother, FreeOfOthers, FreeIfObserved}
use Rattle.pod_locks.specs.Taking.{TookNothing, TakesNothing}
use Rattle.pod_gc.specs.declared.attempt.Round.TheVariants as round
use Rattle.pod_gc.specs.declared.remove_error.RemoveError.{RemoveError}
use Rattle.pod_gc.specs.RemovalRequests.{is_removable, aside, area_of_phase, puts_aside}
use Rattle.pod_gc.specs.RemovalSetbacks.{remove_error_of}
use Rattle.pod_gc.specs.RemovalHolding.{MayRemovePod}
use Rattle.pod_gc.specs.RemovalCauses.{BusyInPrepared}
use Rattle.pod_gc.specs.Removals.{removal_round_of}
use Rattle.pod_gc.specs.Found.{PutAway, TakenAway, WasMissed, RefusedAt, LockWasRefused, FoundAnd, RoundWent, RoundRefused, MissedFirst, RemovedFirst, RefusedFirst, PutAwayIfObserved, TakenAwayIfObserved, MissedAtItsArea, MissedThereOrAside, RefusedAtItsArea, RefusedThereOrAside}
use Rattle.pod_gc.proofs.Rounds.{may_looked}
use Rattle.dir_trait.specs.Knowledge.{OnlyLooks}
use Rattle.dir_trait.specs.Effects.{Given}

-- the pod was brought aside

module _ (pod : PodId) (me : ℕ) (old new : List Event) where
  pub put_aborted : Did (MoveFolder (pod_spot pod Prepare) (pod_spot pod Garbage)) Done me old new → Extends (puts_aside pod Prepare Garbage) me old new → PutAway pod kind.AbortedPrepare me old new
  put_aborted did only = record { moved = λ is. did; only = λ is. only; still = λ is. cc; claimed = λ is. cc }

  pub put_exited : Did (MoveFolder (pod_spot pod Run) (pod_spot pod ExitedGarbage)) Done me old new → Extends (puts_aside pod Run ExitedGarbage) me old new → PutAway pod kind.Exited me old new
  put_exited did only = record { moved = λ is. did; only = λ is. only; still = λ is. cc; claimed = λ is. cc }

  pub put_prepared : Did (MoveFolder (pod_spot pod Prepared) (pod_spot pod Garbage)) Done me old new → Extends (puts_aside pod Prepared Garbage) me old new → FreeOfOthers pod Prepared Claim Exclusive me old new → PutAway pod kind.Prepared me old new
  put_prepared did only free = record { moved = λ is. did; only = λ is. only; still = λ is. cc; claimed = λ is. free }

  pub put_still : (p : Phase) → (p ≡ kind.AbortedPrepare → ⊥) → (p ≡ kind.Prepared → ⊥) → (p ≡ kind.Exited → ⊥) → new ≡ old → PutAway pod p me old new
  put_still kind.AbortedPrepare a b c same = absurd (a refl)
  put_still kind.Prepared a b c same = absurd (b refl)
  put_still kind.Exited a b c same = absurd (c refl)
  put_still p a b c same = record { moved = λ is. cc; only = λ is. cc; still = λ is. same; claimed = λ is. absurd (b is) }

-- it was missing

pub missed_here : {observed : Bool} {pod : PodId} {e : Setback} (old new : DirAt) (p : Phase) (a : Area) → area_of_phase p ≡ a → (e ≡ stop.Missing → observed ≡ true → HeldBetween old new (IsAbsentAt pod a)) → TakesNothing observed old new → MissedAtItsArea observed pod p e old new
missed_here {observed} {pod} {e} old new p a place missing still is t = record { untaken = still t; absent = subst (λ (x : Area). HeldBetween old new (IsAbsentAt pod x)) (sym place) (missing is t) }

-- a lock was refused

pub refused_own : {pod : PodId} {e : Setback} (old new : DirAt) (p : Phase) (a : Area) → area_of_phase p ≡ a → (p ≡ kind.Prepared → ⊥) → ((which : Which) → e ≡ stop.Busy which → which ≡ Own) → LockBusyElsewhere pod a Shared e old new → RefusedAtItsArea pod p e old new
refused_own {pod} {e} old new p a place other named busy which is = by which (named which is) (busy which is)
  where
    by : (w : Which) → w ≡ Own → PodHeldByAnother pod a w Shared old.process old.trace new.trace → RefusedAt pod p w old.process old.trace new.trace
    by Own own held = record { waits = λ c. cc; claimed = λ o q. absurd (other q); held = subst (λ (x : Area). PodHeldByAnother pod x Own Shared old.process old.trace new.trace) (sym place) held }
    by Claim own held = cc

pub refused_waiting : {pod : PodId} {e : Setback} (old new : DirAt) → (e ≡ stop.Busy Own → FreeOfOthers pod Prepared Claim Exclusive old.process old.trace new.trace) → BusyInPrepared pod e old new → RefusedAtItsArea pod kind.Prepared e old new
refused_waiting {pod} {e} old new free busy which is = record { waits = λ c. refl; claimed = λ own q. free (is ∙ ap (λ (w : Which). stop.Busy w) own); held = busy which is }

-- and then deleted, or not

module _ {observed : Bool} {pod : PodId} (old mid new : DirAt) (p : Phase) (a : Area) (at : a ≡ aside p) (same : mid.process ≡ old.process) (put : PutAwayIfObserved observed pod p old mid) where
  pub taken_by : FreeIfObserved observed pod a Own Exclusive mid new → TakenAwayIfObserved observed pod p old new
  taken_by free t = record {
    between = mid.trace;
    put = put t;
    alone = subst (λ (q : ℕ). FreeOfOthers pod (aside p) Own Exclusive q mid.trace new.trace) same (subst (λ (x : Area). FreeOfOthers pod x Own Exclusive mid.process mid.trace new.trace) at (free t));
  }

  pub missed_aside : {e : Setback} → (e ≡ stop.Missing → observed ≡ true → HeldBetween mid new (IsAbsentAt pod a)) → (e ≡ stop.Missing → TakesNothing observed mid new) → MissedThereOrAside observed pod p e old new
  missed_aside missing still is t = inr (
    mid.trace,
    put t,
    record {
      untaken = subst (λ (q : ℕ). TookNothing q mid.trace new.trace) same (still is t);
      absent = subst (λ (q : ℕ). AtOwnStep q mid.trace new.trace (IsAbsentAt pod (aside p))) same (subst (λ (x : Area). HeldBetween mid new (IsAbsentAt pod x)) at (missing is t));
    },
  )

  pub refused_aside : {e : Setback} → observed ≡ true → ((which : Which) → e ≡ stop.Busy which → which ≡ Own) → LockBusyElsewhere pod a Exclusive e mid new → RefusedThereOrAside pod p e old new
  refused_aside {e} t named busy which is = inr (record {
    own = named which is;
    between = mid.trace;
    put = put t;
    held = subst (λ (q : ℕ). PodHeldByAnother pod (aside p) Own Exclusive q mid.trace new.trace) same
        (subst (λ (x : Area). PodHeldByAnother pod x Own Exclusive mid.process mid.trace new.trace) at (subst (λ (w : Which). PodHeldByAnother pod a w Exclusive mid.process mid.trace new.trace) (named which is) (busy which is)));
  })

-- one round

module _ {observed : Bool} (pod : PodId) (p : Phase) (area : Area) (old mid new : DirAt) (same : mid.process ≡ old.process) (removable : is_removable p ≡ true) (read : observed ≡ true → IsPhaseReading old.process old.trace mid.trace pod (At p area))
    (looks : observed ≡ true → Extends (is_look_at (is_pod_spot pod)) old.process old.trace mid.trace) where
  found : (P : Phase → ℕ → List Event → List Event → Type 0) → observed ≡ true → P p mid.process mid.trace new.trace → FoundAnd pod P old.process old.trace new.trace
  found P t so = record { between = mid.trace; phase = p; area = area; removable = removable; read = read t; looks = looks t; so = subst (λ (q : ℕ). P p q mid.trace new.trace) same so }

  pub round_went : (r : Result (Unit {0}) Setback) → IfOk r (λ done. TakenAwayIfObserved observed pod p mid new) → IfErr r (λ e. MissedThereOrAside observed pod p e mid new) → IfOk (removal_round_of pod r) (λ x. observed ≡ true → RoundWent pod x old new)
  round_went (Ok done) taken missed = λ t. found (TakenAway pod) t (taken t)
  round_went (Err stop.Missing) taken missed = λ t. found (WasMissed pod) t (missed refl t)
  round_went (Err _) taken missed = tt

  module _ (now : ℕ) (known : observed ≡ true → OnlyLooks old mid) where
    pub round_refused : (r : Result (Unit {0}) Setback) → IfErr r (λ e. observed ≡ true → Given (MayRemovePod pod now) mid (λ s. RefusedThereOrAside pod p e mid new))
        → IfErr (removal_round_of pod r) (λ e. observed ≡ true → Given (MayRemovePod pod now) old (λ s. RoundRefused pod e old new))
    round_refused (Ok done) busy = tt
    round_refused (Err stop.Missing) busy = tt
    round_refused (Err (stop.Busy w)) busy = λ t s k m which is.
        let x = known t s k in
        let named : stop.Busy w ≡ stop.Busy which = cc in
        found (LockWasRefused pod which) t (busy t x.known x.knows (may_looked x.looked m) which named)
    round_refused (Err stop.NoManifest) busy = λ t s k m which is. cc
    round_refused (Err stop.DirFault) busy = λ t s k m which is. cc
    round_refused (Err stop.Stray) busy = λ t s k m which is. cc
    round_refused (Err stop.NoMemory) busy = λ t s k m which is. cc

pub look_unrefused : (pod : PodId) (e : LookError) (old new : DirAt) → RoundRefused pod (remove_error_of pod (look_setback e)) old new
look_unrefused pod look.DirFault old new which is = cc
look_unrefused pod _ old new which is = cc

-- the rounds

module _ {pod : PodId} (a b c : DirAt) (bc : Grew b.trace c.trace) (missed : RoundWent pod round.Missed a b) where
  missed_first : MissedFirst pod a.process a.trace c.trace
  missed_first = record { upto = b.trace; missed = missed; rest = bc }

  pub removed_later : RemovedFirst pod a c
  removed_later = inr missed_first

  pub refused_then : (e : RemoveError) → RefusedFirst pod e a c
  refused_then e which is = inr missed_first

pub removed_once : {pod : PodId} (a b : DirAt) → RoundWent pod round.Removed a b → RemovedFirst pod a b
removed_once a b x = inl x

pub refused_once : {pod : PodId} (a b : DirAt) (e : RemoveError) → RoundRefused pod e a b → RefusedFirst pod e a b
refused_once a b e x which is = inl (x which is)
