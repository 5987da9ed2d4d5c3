-- What the machine of a whole trace tells of one pod.
use Rattle.std.proofs.Common.{◌≡◌, ℕ, Bool, true, false, not, ◌&&◌, cond, bytes_eq, Option, Some, None, List, [], ◌∷◌, ◌++◌, find, refl, sym, ap, subst, ◌∙◌}
use Rattle.std.proofs.lemmas.Bool.{and_parts}
use Rattle.plain_laws.proofs.Booleans.{clash}
use Rattle.plain_laws.proofs.Texts.{same_text}
use Rattle.dir_model.specs.declared.event.Event.{Event}
use Rattle.dir_model.specs.declared.spot.Mode.TheVariants.{Shared, Exclusive}
use Rattle.dir_model.specs.declared.area.Area.{Area}
use Rattle.dir_model.specs.declared.area.Area.TheVariants as area
use Rattle.dir_model.specs.declared.request.Request.{Request}
use Rattle.dir_model.specs.declared.request.Request.TheVariants.{MakeFolder, MoveFolder, TryLock, Close, RemoveFolder, Finish, Kill}
use Rattle.dir_model.specs.declared.request.Reply.{Reply}
use Rattle.dir_model.specs.declared.request.Reply.TheVariants.{Done, Begun, Opened, Names, Items, Read, Refused}
use Rattle.dir_model.specs.Calls.{IsRun}
use Rattle.dir_rules.specs.Standing.{is_spot_of_pod}
use Rattle.dir_model.specs.Areas.{is_stage}
use Rattle.lifecycle.specs.declared.grip.Grip.{Grip}
use Rattle.lifecycle.specs.declared.pods.PodEntry.{PodEntry}
use Rattle.lifecycle.specs.declared.machine.PodState.{PodState}
use Rattle.lifecycle.specs.declared.machine.PodState.TheVariants.{Absent}
use Rattle.lifecycle.specs.declared.machine.Transition.{Transition}
use Rattle.lifecycle.specs.declared.machine.Transition.TheVariants as turn
use Rattle.lifecycle.specs.PodMachine.{after_transition, is_owner, is_gone, transition_if, arrival, pod_state}
use Rattle.lifecycle.specs.Watch.{watch, watch_from, watch_next, watched, is_this, on_grip, pod_made_by, pod_entry_of, entry_for, made_pod_entries, is_pod_entry, state_of_entry, state_in, TellsStates, ShowsPods}
use Rattle.lifecycle.specs.Executions.{IsConforming}
use Rattle.lifecycle.specs.Ownership.{ShowsPod}
use Rattle.lifecycle.proofs.EveryPod.{shows_pod}
use Rattle.lifecycle.proofs.ByEvents.{watch_is}

turned_absent : (o : Option Transition) (p : ℕ) → (o ≡ Some turn.Make → ⊥) → after_transition o p Absent ≡ Absent
turned_absent None p no_make = refl
turned_absent (Some turn.Make) p no_make = absurd (no_make refl)
turned_absent (Some x) p no_make = refl

-- the folder of that name was made
abbrev Makes : List ℕ → Option (List ℕ) → Bool
Makes u None = false
Makes u (Some name) = bytes_eq name u

not_make : (b : Bool) (x : Transition) → (x ≡ turn.Make → ⊥) → transition_if b x ≡ Some turn.Make → ⊥
not_make true x no_make e = no_make (out e)
  where
    out : Some x ≡ Some turn.Make → x ≡ turn.Make
    out e = cc
not_make false x no_make e = cc

makes_only : (u : List ℕ) (gs : List Grip) (p : ℕ) (request : Request) (reply : Reply) →
    Makes u (pod_made_by request reply) ≡ false → watched u Absent gs p request reply ≡ Some turn.Make → ⊥
makes_only u gs p (MakeFolder spot) Done off e = by (is_spot_of_pod u spot) refl e
  where
    by : (b : Bool) → is_spot_of_pod u spot ≡ b → transition_if b turn.Make ≡ Some turn.Make → ⊥
    by true f e =
        let x = and_parts (is_stage spot.area) (bytes_eq spot.name u) f in
        clash (bytes_eq spot.name u) x.1 (sym (ap (λ b. Makes u (cond b (Some spot.name) None)) x.0) ∙ off)
    by false f e = cc
makes_only u gs p (MoveFolder from to) Done off e = by (is_spot_of_pod u to) to.area e
  where
    by : (b : Bool) (a : Area) → cond b (arrival a) None ≡ Some turn.Make → ⊥
    by true area.Prepare e = cc
    by true area.Prepared e = cc
    by true area.Run e = cc
    by true area.ExitedGarbage e = cc
    by true area.Garbage e = cc
    by true a e = cc
    by false a e = cc
makes_only u gs p (TryLock h Exclusive) Done off e =
    not_make (not (is_gone Absent) && on_grip (λ g. g.in_garbage) (find (is_this p h) gs)) turn.BeginDelete
    (λ f. no_make_delete f) e
  where
    no_make_delete : turn.BeginDelete ≡ turn.Make → ⊥
    no_make_delete f = cc
makes_only u gs p (TryLock h Shared) Done off e = cc
makes_only u gs p (Close h) Done off e =
    not_make (is_owner p Absent && on_grip (λ g. g.exclusive) (find (is_this p h) gs)) turn.End (λ f. no_make_end f) e
  where
    no_make_end : turn.End ≡ turn.Make → ⊥
    no_make_end f = cc
makes_only u gs p (RemoveFolder spot) Done off e = not_make (is_spot_of_pod u spot) turn.Remove (λ f. no_make_remove f) e
  where
    no_make_remove : turn.Remove ≡ turn.Make → ⊥
    no_make_remove f = cc
makes_only u gs p Finish Done off e = cc
makes_only u gs p Kill Done off e = cc
makes_only u gs p request Done off e = cc
makes_only u gs p request (Opened h) off e = cc
makes_only u gs p request (Refused x left) off e = cc
makes_only u gs p request Begun off e = cc
makes_only u gs p request (Names x) off e = cc
makes_only u gs p request (Items x) off e = cc
makes_only u gs p request (Read x) off e = cc

-- a pod that was never made is absent
unmade : (u : List ℕ) (whole es : List Event) (gs : List Grip) → find (is_pod_entry u) (made_pod_entries whole es) ≡ None →
    (watch_from u (record { state = Absent; grips = gs }) es).state ≡ Absent
unmade u whole [] gs none = refl
unmade u whole (e ∷ es) gs none =
    by none (λ n. unmade u whole es (watch_next u (record { state = Absent; grips = gs }) e).grips n)
  where
    rest : (o : Option (List ℕ)) → find (is_pod_entry u) (entry_for whole o ++ made_pod_entries whole es) ≡ None →
        (Makes u o ≡ false) × (find (is_pod_entry u) (made_pod_entries whole es) ≡ None)
    rest None n = (refl, n)
    rest (Some name) n = one (bytes_eq name u) n
      where
        one : (b : Bool) → cond b (Some (pod_entry_of whole name)) (find (is_pod_entry u) (made_pod_entries whole es)) ≡ None →
            (b ≡ false) × (find (is_pod_entry u) (made_pod_entries whole es) ≡ None)
        one true n = cc
        one false n = (refl, n)

    by : find (is_pod_entry u) (made_pod_entries whole (e ∷ es)) ≡ None →
        (find (is_pod_entry u) (made_pod_entries whole es) ≡ None →
        (watch_from u (record {
          state = Absent;
          grips = (watch_next u (record { state = Absent; grips = gs }) e).grips;
        }) es).state ≡ Absent) → (watch_from u (record { state = Absent; grips = gs }) (e ∷ es)).state ≡ Absent
    by n go =
        let r = rest (pod_made_by e.request e.reply) n in
        let still : after_transition (watched u Absent gs e.process e.request e.reply) e.process Absent ≡ Absent =
        turned_absent (watched u Absent gs e.process e.request e.reply) e.process
        (makes_only u gs e.process e.request e.reply r.0) in
        ap (λ (s : PodState). (watch_from u
        (record { state = s; grips = (watch_next u (record { state = Absent; grips = gs }) e).grips }) es).state)
        still ∙ go r.1

-- what is found is that pod's state
found : (u : List ℕ) (whole es : List Event) (x : PodEntry) → find (is_pod_entry u) (made_pod_entries whole es) ≡ Some x →
    x.state ≡ (watch u whole).state
found u whole [] x f = cc
found u whole (e ∷ es) x f = by (pod_made_by e.request e.reply) f (λ k. found u whole es x k)
  where
    by : (o : Option (List ℕ)) → find (is_pod_entry u) (entry_for whole o ++ made_pod_entries whole es) ≡ Some x →
        (find (is_pod_entry u) (made_pod_entries whole es) ≡ Some x → x.state ≡ (watch u whole).state) →
        x.state ≡ (watch u whole).state
    by None f go = go f
    by (Some name) f go = one (bytes_eq name u) refl f
      where
        one : (b : Bool) → bytes_eq name u ≡ b → cond b (Some (pod_entry_of whole name))
            (find (is_pod_entry u) (made_pod_entries whole es)) ≡ Some x → x.state ≡ (watch u whole).state
        one true is f = ap (λ (y : PodEntry). y.state) (sym (out f))
            ∙ ap (λ (v : List ℕ). (watch v whole).state) (same_text name u is)
          where
            out : Some (pod_entry_of whole name) ≡ Some x → pod_entry_of whole name ≡ x
            out f = cc
        one false is f = go f

pub told_of : (u : List ℕ) (h : List Event) → state_in u (made_pod_entries h h) ≡ (watch u h).state
told_of u h = by (find (is_pod_entry u) (made_pod_entries h h)) refl
  where
    by : (o : Option PodEntry) → find (is_pod_entry u) (made_pod_entries h h) ≡ o → state_of_entry o ≡ (watch u h).state
    by (Some x) f = found u h h x f
    by None f = sym (unmade u h h [] f)

-- in every run it is the machine
pub replayed : (u : List ℕ) (h : List Event) → IsRun h → state_in u (made_pod_entries h h) ≡ pod_state u h
replayed u h run = told_of u h ∙ watch_is u h run

pub tells : (entries : List PodEntry) (trace : List Event) → entries ≡ made_pod_entries trace trace → IsRun trace →
    TellsStates entries trace
tells entries trace is run name = ap (λ (x : List PodEntry). state_in name x) is ∙ replayed name trace run

pub shows : (entries : List PodEntry) (trace : List Event) → entries ≡ made_pod_entries trace trace → IsConforming trace →
    ShowsPods entries trace
shows entries trace is conforming name =
    subst (λ (s : PodState). ShowsPod name trace s) (sym (tells entries trace is conforming.run name))
    (shows_pod name trace conforming)
