-- An execution that conforms: a pod is made and moved to prepare, and its maker is killed.
use Rattle.std.proofs.Common.{◌≡◌, ℕ, Bool, true, false, ◌==◌, bytes_eq, Some, None, List, [], ◌∷◌, refl, sym, subst, ◌∙◌}
use Rattle.dir_model.specs.declared.area.Area.{Area}
use Rattle.dir_model.specs.declared.area.Area.TheVariants as area
use Rattle.dir_model.specs.declared.area.Phase.TheVariants as phase
use Rattle.dir_model.specs.declared.pod.PodId.{PodId}
use Rattle.dir_model.specs.declared.intent.Intent.{Intent}
use Rattle.dir_model.specs.declared.intent.Kind.TheVariants as kind
use Rattle.dir_model.specs.declared.spot.Spot.{Spot}
use Rattle.dir_model.specs.declared.spot.Handle.{Handle}
use Rattle.dir_model.specs.declared.spot.Mode.TheVariants.{Shared, Exclusive}
use Rattle.dir_model.specs.declared.spot.Which.TheVariants.{Own}
use Rattle.dir_model.specs.declared.event.Event.{Event}
use Rattle.dir_model.specs.declared.request.Request.TheVariants.{Begin, MakeFolder, MoveFolder, Open, OpenArea, TryLock, Kill}
use Rattle.dir_model.specs.declared.request.Reply.TheVariants.{Done, Opened}
use Rattle.dir_model.specs.Pods.{pod_text}
use Rattle.dir_model.specs.Calls.{IsRun, event}
use Rattle.dir_model.proofs.Lists.{same_number}
use Rattle.dir_rules.specs.Standing.{standing_of}
use Rattle.dir_rules.specs.Conforms.{Conforms}
use Rattle.lifecycle.specs.PodMachine.{pod_phase}
use Rattle.lifecycle.specs.Executions.{IsConforming}
use Rattle.lifecycle.proofs.Places.{same_name}
use Rattle.lifecycle.proofs.Draws.{drawn_by_one}

module _ (draw : PodId) (name : List ℕ) (drawn : bytes_eq (pod_text draw.bytes) name ≡ true)
    (same : bytes_eq name name ≡ true) where
  abbrev said : Intent
  said = record { kind = kind.Prepare; word = []; now = 0; grace = 0; expire = 0; draw = draw; token = [] }

  abbrev place : Area → Spot
  place area = record { area = area; name = name }

  abbrev handle : ℕ → Handle
  handle number = record { number = number }

  abbrev trace : List Event
  trace =
      event 1 (Begin said) Done ∷ event 1 (OpenArea area.Embryo) (Opened (handle 0)) ∷ event 1
      (TryLock (handle 0) Shared) Done ∷
      event 1 (MakeFolder (place area.Embryo)) Done ∷ event 1 (Open (place area.Embryo) Own) (Opened (handle 1)) ∷
      event 1 (TryLock (handle 1) Exclusive) Done ∷ event 1 (MoveFolder (place area.Embryo) (place area.Prepare)) Done ∷
      event 1 Kill Done ∷ []

  run : IsRun trace
  run = rw same refl

  mine : Conforms 1 trace
  mine = rw (same, drawn) refl

  -- no other process has a part in it
  others : (p : ℕ) → (1 == p) ≡ false → Conforms p trace
  others p off = rw off refl

  rules : (p : ℕ) → Conforms p trace
  rules p = by (1 == p) refl
    where
      by : (b : Bool) → (1 == p) ≡ b → Conforms p trace
      by true on = subst (λ (q : ℕ). Conforms q trace) (same_number 1 p on) mine
      by false off = others p off

  unborn : (p : ℕ) → (1 == p) ≡ false → (standing_of p trace).intent ≡ None
  unborn p off = rw off refl

  maker : (p : ℕ) (a : Intent) → (standing_of p trace).intent ≡ Some a → p ≡ 1
  maker p a is = by (1 == p) refl
    where
      by : (b : Bool) → (1 == p) ≡ b → p ≡ 1
      by true on = sym (same_number 1 p on)
      by false off = let x : None ≡ Some a = sym (unborn p off) ∙ is in absurd (cc)

  pub conforms : IsConforming trace
  conforms = record { run = run; rules = rules; identities = drawn_by_one trace 1 maker (λ i. pod_text i.draw.bytes); tokens = drawn_by_one trace 1 maker (λ i. i.token) }

  pub phase_is : pod_phase name trace ≡ Some phase.AbortedPrepare
  phase_is = rw same refl

-- of each pod there is one
pub aborted : (pod : PodId) → (trace : List Event) × IsConforming trace ×
    (pod_phase (pod_text pod.bytes) trace ≡ Some phase.AbortedPrepare)
aborted pod =
    let same = same_name (pod_text pod.bytes) (pod_text pod.bytes) refl in (
      trace pod (pod_text pod.bytes) same same,
      conforms pod (pod_text pod.bytes) same same,
      phase_is pod
          (pod_text pod.bytes) same same,
    )
