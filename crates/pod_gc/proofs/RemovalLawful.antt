-- Where every process keeps the local rules a removal is refused as stray only by what a started app wrote.
use Rattle.std.proofs.Common.{◌≡◌, ◌⊎◌, inl, inr, ℕ, Bool, true, false, Result, Ok, Err, IfErr, IsErrOf, refl, sym, ap, subst, ◌∙◌}
use Rattle.dir_model.specs.declared.area.Area.{Area}
use Rattle.dir_model.specs.declared.area.Area.TheVariants.{ExitedGarbage, Garbage}
use Rattle.dir_model.specs.declared.item.Inner.{Inner}
use Rattle.dir_model.specs.declared.pod.PodId.{PodId}
use Rattle.dir_model.specs.declared.spot.Handle.{Handle}
use Rattle.dir_model.specs.declared.spot.Spot.{Spot}
use Rattle.dir_model.specs.declared.spot.Which.TheVariants.{Own}
use Rattle.dir_model.specs.declared.request.DirError.{DirError}
use Rattle.dir_model.specs.declared.request.DirError.TheVariants.{Missing, Exists, NotEmpty, Locked, Failed}
use Rattle.dir_model.specs.declared.request.DirError.TheVariants as dir
use Rattle.dir_model.specs.declared.request.Request.TheVariants.{MakeFileIn}
use Rattle.dir_model.specs.Local.{IsUnopened}
use Rattle.dir_model.specs.Replies.{may_refuse, is_look_at}
use Rattle.dir_model.specs.State.{stands}
use Rattle.dir_rules.specs.declared.seen.Seen.{Seen}
use Rattle.dir_trait.specs.DirCalls.{DirAt, ExtendsBy, HeldBetween}
use Rattle.dir_trait.specs.Knowledge.{Knows, OnlyLooks}
use Rattle.dir_trait.specs.Effects.{Given}
use Rattle.folder_removal.specs.declared.error.DeleteError.{DeleteError}
use Rattle.folder_removal.specs.declared.error.DeleteError.TheVariants as delete
use Rattle.folder_removal.specs.Known.{StrayKnowing, StrayDeleting}
use Rattle.folder_removal.specs.Removal as removal
use Rattle.folder_removal.specs.Removal.{KeptFolders, KeepsFolders}
use Rattle.impossible_replies.specs.Replies.{AppWroteOn}
use Rattle.impossible_replies.proofs.Removers.{is_removing}
use Rattle.impossible_replies.proofs.StrayDeletions.{app_wrote_on}
use Rattle.lifecycle.specs.Executions.{IsConforming}
use Rattle.phase_read.specs.declared.found.LookError.{LookError}
use Rattle.phase_read.specs.declared.found.LookError.TheVariants as look
use Rattle.dir_model.specs.Spots.{pod_spot}
use Rattle.pod_locks.proofs.Traces.{grown_none}
use Rattle.pod_locks.specs.declared.setback.Setback.{Setback}
use Rattle.pod_locks.specs.declared.setback.Setback.TheVariants as stop
use Rattle.pod_locks.specs.Setbacks.{step_setback_of, look_setback, delete_setback}
use Rattle.pod_locks.specs.Holding.{with_pod_lock, MayTakeLock, KeepsReady}
use Rattle.pod_locks.specs.Causes.{NeverStray, StrayByApp}
use Rattle.pod_locks.proofs.Calls.{Follows, follows_none}
use Rattle.pod_locks.proofs.Lawful.{wrote_part, by_app_part}
use Rattle.pod_gc.specs.declared.remove_error.RemoveError.{RemoveError}
use Rattle.pod_gc.specs.declared.remove_error.RemoveError.TheVariants as error
use Rattle.pod_gc.specs.RemovalSetbacks.{remove_error_of}
use Rattle.pod_gc.specs.RemovalRequests.{is_garbage_place}
use Rattle.pod_gc.specs.RemovalHolding.{MayRemove, MayRemovePod, HasOwn}
use Rattle.pod_gc.specs.RemovalCauses.{is_look_setback, StoppedDeleting, RemovalStopsAlone}
use Rattle.pod_gc.specs.Removals.{removal_round_of, FoundThenMissed, MissedTimes, RoundByApp, LaterByApp}
use Rattle.pod_gc.proofs.Deleting.{deletes_own, owns_looked, owns_there, takes_own}
use Rattle.pod_gc.proofs.Onward.{never_missed}
use Rattle.pod_gc.proofs.Rounds.{may_pod_kept, may_looked, missed_first}

-- single steps

pub mark_never : (inner : Inner) (e : DirError) → (e ≡ Exists → ⊥) → may_refuse (MakeFileIn inner) e ≡ true → step_setback_of e ≡ stop.Stray → ⊥
mark_never inner Exists other may is = other refl
mark_never inner Missing other may is = cc
mark_never inner Failed other may is = cc
mark_never inner dir.NoMemory other may is = cc
mark_never inner Locked other may is = cc
mark_never inner NotEmpty other may is = cc

pub alone_never : {observed : Bool} {pod : PodId} {e : Setback} {old new : DirAt} → RemovalStopsAlone observed pod e old new → NeverStray observed e new
alone_never x is t conforming = let clash : false ≡ true = sym (ap is_look_setback is) ∙ x.calm in cc

-- the deletion

delete_stray : (e : DeleteError) → delete_setback e ≡ stop.Stray → e ≡ delete.Stray
delete_stray delete.DirFault is = cc
delete_stray delete.Stray is = refl
delete_stray delete.NoMemory is = cc

pub knows_stray : {observed : Bool} {spot : Spot} {pod : PodId} {a : Area} (old new : DirAt) (e : DeleteError) → spot ≡ pod_spot pod a → is_garbage_place a ≡ true → (e ≡ delete.Stray → observed ≡ true → StrayDeleting spot old new)
    → delete_setback e ≡ stop.Stray → observed ≡ true → Given (HasOwn pod a) old (λ s. StrayKnowing (pod_spot pod a) old.process new.trace)
knows_stray {observed} {spot} {pod} {a} old new e spot_is place knew is t s k h = subst (λ (p : Spot). StrayDeleting p old new) spot_is (knew (delete_stray e is) t) s k (deletes_own place h)

place_removing : (a : Area) → is_garbage_place a ≡ true → is_removing a ≡ true
place_removing ExitedGarbage is = refl
place_removing Garbage is = refl
place_removing _ is = cc

-- of what stood there when it was looked for
pub deletion_by_app : {observed : Bool} {e : Setback} {old mid new : DirAt} (pod : PodId) (a : Area) (test : Spot → Bool) → is_garbage_place a ≡ true → Follows observed old mid → (observed ≡ true → HeldBetween old mid (λ s. stands s.namespace (pod_spot pod a) ≡ true))
    → (observed ≡ true → ExtendsBy (is_look_at test) old mid) → (observed ≡ true → OnlyLooks old mid) → StoppedDeleting observed (pod_spot pod a) e mid new → (observed ≡ true → KeepsFolders mid new)
    → (e ≡ stop.Stray → observed ≡ true → Given (HasOwn pod a) mid (λ s. StrayKnowing (pod_spot pod a) mid.process new.trace)) → StrayByApp observed e (HasOwn pod a) old new
deletion_by_app {observed} {e} {old} {mid} {new} pod a test place ab stood looks known x kept knew is t s k h conforming =
    let z = known t s k in
    let knowing = subst (λ (p : ℕ). StrayKnowing (pod_spot pod a) p new.trace) ab.same (knew is t z.known z.knows (owns_looked z.looked h)) in
    let stray = subst (λ (p : ℕ). removal.WasStrayDeletion (pod_spot pod a) p mid.trace new.trace) ab.same (x.stray is t) in
    let keeps = subst (λ (p : ℕ). KeptFolders p mid.trace new.trace) ab.same (kept t) in
    wrote_part (ab.grown t) refl grown_none (app_wrote_on (pod_spot pod a) (place_removing a place) test (stood t) (looks t) keeps stray knowing conforming)

-- the process owns the pod there once it has taken its lock
pub owns_taken : {observed : Bool} {now : ℕ} {a b : DirAt} {h : Handle} (pod : PodId) (area : Area) → is_garbage_place area ≡ true → IsUnopened a.local h → (observed ≡ true → Given (MayTakeLock pod area Own) a (λ s. Knows b (with_pod_lock pod area Own h s)))
    → observed ≡ true → Given (MayRemove now) a (λ s. (z : Seen) × Knows b z × HasOwn pod area z)
owns_taken {observed} {now} {a} {b} {h} pod area place unopened held t s k may = (with_pod_lock pod area Own h s, held t s k (takes_own pod area place may), owns_there pod area k unopened may)

-- a round

pub round_by_app : {observed : Bool} (old mid new : DirAt) (pod : PodId) (now : ℕ) → Follows observed old mid → (observed ≡ true → OnlyLooks old mid) → (r : Result (Unit {0}) Setback) → IfErr r (λ e. StrayByApp observed e (MayRemovePod pod now) mid new)
    → IfErr (removal_round_of pod r) (λ e. RoundByApp observed pod now e old new)
round_by_app old mid new pod now ab known (Ok done) x = tt
round_by_app old mid new pod now ab known (Err stop.Missing) x = tt
round_by_app old mid new pod now ab known (Err stop.Stray) x = λ is. by_app_part ab (follows_none {a = new}) (λ t s k m. let z = known t s k in (z.known, z.knows, may_looked z.looked m)) (x refl)
round_by_app old mid new pod now ab known (Err stop.NoManifest) x = λ is t s k m conforming. cc
round_by_app old mid new pod now ab known (Err (stop.Busy which)) x = λ is t s k m conforming. cc
round_by_app old mid new pod now ab known (Err stop.DirFault) x = λ is t s k m conforming. cc
round_by_app old mid new pod now ab known (Err stop.NoMemory) x = λ is t s k m conforming. cc

pub look_by_app : {observed : Bool} (old new : DirAt) (pod : PodId) (now : ℕ) (e : LookError) → RoundByApp observed pod now (remove_error_of pod (look_setback e)) old new
look_by_app old new pod now look.DirFault is t s k m conforming = cc
look_by_app old new pod now _ is t s k m conforming = cc

-- the rounds

pub later_by_app : {observed : Bool} {pod : PodId} {now : ℕ} {e : RemoveError} (a b c : DirAt) → Follows observed a b → (observed ≡ true → Given (MayRemovePod pod now) a (λ s. KeepsReady s b)) → RoundByApp observed pod now e b c → LaterByApp observed pod now e a c
later_by_app a b c ab ready x is t s k m conforming =
    let z = ready t s k m in
    inl (wrote_part (ab.grown t) ab.same grown_none (x is t z.known z.knows (may_pod_kept z.keeps m) conforming))

pub missed_by_app : {observed : Bool} {pod : PodId} {now : ℕ} (a b : DirAt) → (observed ≡ true → MissedTimes 5 pod a.process a.trace b.trace) → LaterByApp observed pod now error.Stray a b
missed_by_app a b missed is t s k m conforming = inr (missed t)

pub of_err : {A E : Type 0} (P : E → Type 0) (r : Result A E) (e : E) → IsErrOf r e → IfErr r P → P e
of_err P r e is x = subst (λ y. IfErr y P) is x

pub removed_by_app : {observed : Bool} {pod : PodId} {now : ℕ} (a b : DirAt) (r : Result (Unit {0}) RemoveError) → IfErr r (λ e. RoundByApp observed pod now e a b) → IsErrOf r error.Stray → observed ≡ true
    → Given (MayRemovePod pod now) a (λ s. IsConforming b.trace → AppWroteOn a.process a.trace b.trace)
removed_by_app {observed} {pod} {now} a b r x is t = of_err (λ e. RoundByApp observed pod now e a b) r error.Stray is x refl t

pub removed_later_by_app : {observed : Bool} {pod : PodId} {now : ℕ} (a b c : DirAt) → Follows observed a b → (observed ≡ true → Given (MayRemovePod pod now) a (λ s. KeepsReady s b)) → (observed ≡ true → FoundThenMissed pod a.process a.trace b.trace)
    → (r : Result (Unit {0}) RemoveError) → IfErr r (λ e. LaterByApp observed pod now e b c) → IsErrOf r error.Stray → observed ≡ true → Given (MayRemovePod pod now) a (λ s. IsConforming c.trace → AppWroteOn a.process a.trace c.trace)
removed_later_by_app {observed} {pod} {now} a b c ab ready found r x is t s k m conforming =
    let z = ready t s k m in
    by (of_err (λ e. LaterByApp observed pod now e b c) r error.Stray is x refl t z.known z.knows (may_pod_kept z.keeps m) conforming)
  where
    by : AppWroteOn b.process b.trace c.trace ⊎ MissedTimes 5 pod b.process b.trace c.trace → AppWroteOn a.process a.trace c.trace
    by (inl w) = wrote_part (ab.grown t) ab.same grown_none w
    by (inr missed) = absurd (never_missed pod a.process a.trace c.trace conforming (missed_first pod a.process a.trace b.trace c.trace 5 (found t) (subst (λ (p : ℕ). MissedTimes 5 pod p b.trace c.trace) ab.same missed)))
