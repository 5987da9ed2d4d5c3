-- Where nothing hinders a removal, only a failure refuses it: each other cause names a moment at which something did.
use Rattle.std.proofs.Common.{◌≡◌, ◌⊎◌, inl, inr, ℕ, Bool, true, false, not, ◌&&◌, ◌==◌, is_some, Option, Some, None, Result, Ok, Err, IfErr, List, [], ◌∷◌, ◌++◌, refl, sym, ap, ◌∙◌, append_assoc}
use Rattle.dir_model.specs.declared.area.Area.{Area}
use Rattle.dir_model.specs.declared.area.Phase.{Phase}
use Rattle.dir_model.specs.declared.area.Phase.TheVariants as kind
use Rattle.dir_model.specs.declared.event.Event.{Event}
use Rattle.dir_model.specs.declared.opening.Opening.{Opening}
use Rattle.dir_model.specs.declared.pod.PodId.{PodId}
use Rattle.dir_model.specs.declared.spot.Mode.{Mode}
use Rattle.dir_model.specs.declared.spot.Which.{Which}
use Rattle.dir_model.specs.Calls.{AtOwnStep}
use Rattle.dir_model.specs.Locks.{is_folder, opposes}
use Rattle.dir_model.specs.State.{folder_at}
use Rattle.dir_model.specs.Trace.{state_after}
use Rattle.dir_model.proofs.Lists.{and_left, and_right, and_both, any_fewer, same_self}
use Rattle.dir_model.proofs.Moments.{at_grown, at_weaker}
use Rattle.dir_trait.specs.DirCalls.{DirAt}
use Rattle.dir_trait.specs.Effects.{Given}
use Rattle.lifecycle.specs.Executions.{IsConforming}
use Rattle.dir_model.specs.Spots.{pod_spot}
use Rattle.phase_read.specs.Exact.{AtOwnEvent, IsNowhere}
use Rattle.pod_locks.specs.ClaimCauses.{IsPreparedWithoutManifest, is_lock, is_held_elsewhere}
use Rattle.pod_locks.specs.Elsewhere.{is_owned_phase, IsOwnedElsewhere}
use Rattle.pod_locks.specs.Work.{Grew}
use Rattle.pod_locks.proofs.Times.{at_part}
use Rattle.pod_locks.proofs.Traces.{grown_none}
use Rattle.pod_locks.specs.Causes.{is_held_against, WasStrayStep}
use Rattle.pod_gc.specs.declared.remove_error.RemoveError.{RemoveError}
use Rattle.pod_gc.specs.declared.remove_error.RemoveError.TheVariants as error
use Rattle.pod_gc.specs.RemovalRequests.{is_removable}
use Rattle.pod_gc.specs.RemovalHolding.{MayRemovePod}
use Rattle.pod_gc.specs.RemovalCauses.{IsBusyAt}
use Rattle.pod_gc.specs.Removals.{MissedTimes, WasWrongToRemove, PodRemovalCause, RemovalRefusedByAnother}
use Rattle.pod_gc.specs.Hindrances.{IsRemovable, IsDeletedBy, IsUnhindered, IsUnhinderedThroughout, IsRemovalFailure}
use Rattle.pod_gc.proofs.Onward.{never_missed}

-- a lock that opposes some mode is held
opposing : (mode : Mode) (lock : Option Mode) → opposes mode lock ≡ true → is_some lock ≡ true
opposing mode None is = cc
opposing mode (Some held) is = refl

against_held : (me : ℕ) (which : Which) (mode : Mode) (folder : ℕ) (o : Opening) → is_held_against me which mode folder o ≡ true → is_held_elsewhere me which folder o ≡ true
against_held me which mode folder o is =
    let a = not (o.process == me) in
    let b = is_folder folder o.folder in
    let c = is_lock which o.target in
    let d = opposes mode o.lock in
    let bcd : (b && (c && d)) ≡ true = and_right a (b && (c && d)) is in
    let cd : (c && d) ≡ true = and_right b (c && d) bcd in
    and_both a (b && (c && is_some o.lock)) (and_left a (b && (c && d)) is)
    (and_both b (c && is_some o.lock) (and_left b (c && d) bcd) (and_both c (is_some o.lock) (and_left c d cd) (opposing mode o.lock (and_right c d cd))))

module _ (pod : PodId) (me : ℕ) (a c : List Event) (free : IsUnhinderedThroughout pod me a c) where
  at_event : {P : List Event → Type 0} (at : AtOwnEvent me a c P) → IsUnhindered pod me a (at.before ++ at.step ∷ [])
  at_event at = free at.before at.later at.rest at.step at.begins at.ends at.own

  pub never_gone : AtOwnEvent me a c (IsNowhere pod) → ⊥
  never_gone at = by (at_event at).exists
    where
      by : IsRemovable pod (at.before ++ at.step ∷ []) ⊎ IsDeletedBy pod me (at.before ++ at.step ∷ []) → ⊥
      by (inl x) = let e : None ≡ Some x.phase = sym at.holds ∙ x.is in cc
      by (inr x) = let e : None ≡ Some kind.Deleting = sym at.holds ∙ x.is in cc

  never_other : (p : Phase) → is_removable p ≡ false → is_owned_phase p ≡ true → (x : Area) × AtOwnEvent me a c (IsOwnedElsewhere me pod p x) → ⊥
  never_other p wrong owned other = by (at_event other.1).exists
    where
      by : IsRemovable pod (other.1.before ++ other.1.step ∷ []) ⊎ IsDeletedBy pod me (other.1.before ++ other.1.step ∷ []) → ⊥
      by (inl x) =
          let e : Some p ≡ Some x.phase = sym other.1.holds.was.is ∙ x.is in
          let same : p ≡ x.phase = cc in
          let clash : true ≡ false = sym x.removable ∙ (ap is_removable (sym same) ∙ wrong) in cc
      by (inr x) =
          let e : Some other.1.holds.owner ≡ Some me = sym other.1.holds.is ∙ x.owner in
          let same : other.1.holds.owner ≡ me = cc in
          let clash : true ≡ false = sym (same_self me) ∙ (ap (λ (q : ℕ). q == me) (sym same) ∙ other.1.holds.other) in cc

  pub never_wrong : (p : Phase) → WasWrongToRemove pod p me a c → (is_owned_phase p ≡ true → (x : Area) × AtOwnEvent me a c (IsOwnedElsewhere me pod p x)) → ⊥
  never_wrong p w other = by (at_event w.was).exists
    where
      by : IsRemovable pod (w.was.before ++ w.was.step ∷ []) ⊎ IsDeletedBy pod me (w.was.before ++ w.was.step ∷ []) → ⊥
      by (inl x) =
          let e : Some p ≡ Some x.phase = sym w.was.holds.is ∙ x.is in
          let same : p ≡ x.phase = cc in
          let clash : true ≡ false = sym x.removable ∙ (ap is_removable (sym same) ∙ w.wrong) in cc
      by (inr x) =
          let e : Some p ≡ Some kind.Deleting = sym w.was.holds.is ∙ x.is in
          let same : p ≡ kind.Deleting = cc in
          let owned : is_owned_phase p ≡ true = ap is_owned_phase same in
          never_other p w.wrong owned (other owned)

  pub never_lacking : AtOwnStep me a c (IsPreparedWithoutManifest pod) → ⊥
  never_lacking at =
      let here = free at.before at.later at.rest at.step at.begins at.ends at.own in
      let e : true ≡ false = sym (here.manifest at.holds.folder at.holds.there) ∙ at.holds.without in cc

  pub never_held : (which : Which) → IsBusyAt pod which me a c → ⊥
  never_held which b =
      let h = b.held in
      let x = h.found in
      let y = h.held in
      let now = y.before ++ y.step ∷ [] in
      let grown = at_grown x in
      let here = free y.before (grown.0 ++ y.later) y.rest y.step (y.begins ∙ (ap (λ (t : List Event). t ++ y.later) grown.1 ∙ append_assoc a grown.0 y.later)) y.ends y.own in
      let on : Grew h.between now = record { more = y.later ++ y.step ∷ []; grown = ap (λ (t : List Event). t ++ y.step ∷ []) y.begins ∙ append_assoc h.between y.later (y.step ∷ []) } in
      let stood : AtOwnStep me a now (λ s. folder_at s.namespace (pod_spot pod b.area) ≡ Some h.folder) = at_part grown_none refl on (at_weaker (λ s. folder_at s.namespace (pod_spot pod b.area) ≡ Some h.folder) (λ s o. o.0) x) in
      let none = any_fewer (is_held_against me which b.mode h.folder) (is_held_elsewhere me which h.folder) (against_held me which b.mode h.folder) (state_after now).namespace.openings (here.unheld h.folder which (b.area, stood)) in
      let e : false ≡ true = sym none ∙ y.holds in cc

-- then only a failure refuses it
pub only_failures : {observed : Bool} {pod : PodId} {a c : DirAt} (e : RemoveError) → observed ≡ true → PodRemovalCause observed pod e a c → RemovalRefusedByAnother pod e a c → IsConforming c.trace → IsUnhinderedThroughout pod a.process a.trace c.trace
    → IsRemovalFailure e a.process a.trace c.trace
only_failures {observed} {pod} {a} {c} error.NoPod t x another conforming free = absurd (never_gone pod a.process a.trace c.trace free ((x.nowhere refl t).nowhere conforming))
only_failures {observed} {pod} {a} {c} (error.WrongPhase p) t x another conforming free = absurd (never_wrong pod a.process a.trace c.trace free p (x.phase p refl t conforming) (λ owned. another.owner conforming p refl owned))
only_failures {observed} {pod} {a} {c} error.NoManifest t x another conforming free = absurd (never_lacking pod a.process a.trace c.trace free (x.manifest refl t conforming))
only_failures {observed} {pod} {a} {c} (error.Busy other which) t x another conforming free =
    absurd (never_held pod a.process a.trace c.trace free which (another.busy which (ap (λ (p : PodId). error.Busy p which) (x.named other which refl))))
only_failures error.DirFault t x another conforming free = inl refl
only_failures {observed} {pod} {a} {c} error.Stray t x another conforming free = by (x.stray refl t)
  where
    by : WasStrayStep a.process a.trace c.trace ⊎ MissedTimes 6 pod a.process a.trace c.trace → IsRemovalFailure error.Stray a.process a.trace c.trace
    by (inl stray) = inr (inr (refl, stray))
    by (inr missed) = absurd (never_missed pod a.process a.trace c.trace conforming missed)
only_failures error.NoMemory t x another conforming free = inr (inl refl)

pub refused_so : (observed : Bool) (pod : PodId) (now : ℕ) (a c : DirAt) (r : Result (Unit {0}) RemoveError) → IfErr r (λ e. PodRemovalCause observed pod e a c)
    → IfErr r (λ e. observed ≡ true → Given (MayRemovePod pod now) a (λ s. RemovalRefusedByAnother pod e a c))
    → IfErr r (λ e. observed ≡ true → Given (MayRemovePod pod now) a (λ s. IsConforming c.trace → IsUnhinderedThroughout pod a.process a.trace c.trace → IsRemovalFailure e a.process a.trace c.trace))
refused_so observed pod now a c (Ok done) cause another = tt
refused_so observed pod now a c (Err e) cause another = λ t s k m conforming free. only_failures e t cause (another t s k m) conforming free
