-- Where nobody else steps, a pod that is removed had a phase before that its removal takes.
use Rattle.std.proofs.Common.{◌≡◌, inl, inr, ℕ, Bool, true, false, not, ◌&&◌, ◌||◌, ◌==◌, cond, bytes_eq, Option, Some, None, is_some, List, [], ◌∷◌, refl, sym, ap, subst, ◌∙◌}
use Rattle.std.specs.List.{AllByRecursion}
use Rattle.std.proofs.lemmas.Bool.{eqb-true}
use Rattle.plain_laws.proofs.Texts.{same_bytes}
use Rattle.plain_laws.proofs.Booleans.{or_nothing}
use Rattle.dir_model.specs.declared.area.Area.{Area}
use Rattle.dir_model.specs.declared.area.Area.TheVariants as area
use Rattle.dir_model.specs.declared.area.Phase.{Phase}
use Rattle.dir_model.specs.declared.area.Phase.TheVariants as kind
use Rattle.dir_model.specs.declared.event.Event.{Event}
use Rattle.dir_model.specs.declared.opening.Opening.{Opening}
use Rattle.dir_model.specs.declared.pod.PodId.{PodId}
use Rattle.dir_model.specs.declared.spot.Spot.{Spot}
use Rattle.dir_model.specs.declared.request.Request.{Request}
use Rattle.dir_model.specs.declared.request.Request.TheVariants.{MakeFolder, MoveFolder, RemoveFolder}
use Rattle.dir_model.specs.declared.request.Reply.{Reply}
use Rattle.dir_model.specs.declared.request.Reply.TheVariants.{Done}
use Rattle.dir_model.specs.Calls.{is_kill, Extends}
use Rattle.dir_model.specs.Local.{is_own_of}
use Rattle.dir_model.specs.Locks.{is_exclusive}
use Rattle.dir_model.specs.Pods.{pod_text}
use Rattle.dir_model.specs.Quiet.{Quiet, OwnsNothing}
use Rattle.dir_model.specs.State.{DirState, spot_eq, stands}
use Rattle.dir_model.specs.Trace.{state_after, namespace_replied}
use Rattle.dir_model.proofs.Lists.{and_right, same_self}
use Rattle.dir_rules.specs.Standing.{is_spot_of_pod}
use Rattle.lifecycle.specs.declared.machine.PodState.{PodState}
use Rattle.lifecycle.specs.declared.machine.PodState.TheVariants as state
use Rattle.lifecycle.specs.declared.machine.Transition.{Transition}
use Rattle.lifecycle.specs.declared.machine.Transition.TheVariants as turn
use Rattle.lifecycle.specs.PodMachine.{pod_state, phase_of_state, exists, is_owner, is_area_of_state, enabled, leads, after_transition, transition}
use Rattle.lifecycle.specs.Executions.{IsConforming}
use Rattle.lifecycle.proofs.Draws.{conforming_left}
use Rattle.lifecycle.proofs.Lists.{In}
use Rattle.lifecycle.proofs.Phases.{exists_stands, stands_exists}
use Rattle.lifecycle.proofs.Places.{moved_elsewhere, removed_elsewhere}
use Rattle.lifecycle.proofs.Run.{good}
use Rattle.dir_model.specs.Spots.{pod_spot}
use Rattle.pod_locks.proofs.Traces.{grown_none}
use Rattle.pod_gc.specs.RemovalRequests.{is_removable, removes}
use Rattle.commands.specs.Opening.{OnceFound}
use Rattle.commands.specs.Rm.{RemovesPod}
use Rattle.commands.specs.RemovalQuiet.{IsRemovableNow}
use Rattle.commands.proofs.OwnSteps.{in_process, forward, history_fixed, same_folders}
use Rattle.commands.proofs.LateTurns.{is_late, late_turn, removes_late, rm_not_embryo, in_garbage, embryo_apart}
use Rattle.commands.proofs.RmQuiet.{rm_gone, was_there}
use Rattle.commands.proofs.RmBefore.{has_phase_now}

-- a pod that isn't there, or that another process makes, runs or deletes, is turned by no own step

abbrev is_fixed : ℕ → PodState → Bool
is_fixed me state.Absent = true
is_fixed me state.Gone = true
is_fixed me (state.Preparing owner) = not (owner == me)
is_fixed me (state.Running owner) = not (owner == me)
is_fixed me (state.Deleting owner from) = not (owner == me)
is_fixed me _ = false

other_way : (a b : ℕ) → not (a == b) ≡ true → (b == a) ≡ false
other_way a b apart = by (b == a) refl
  where
    by : (c : Bool) → (b == a) ≡ c → c ≡ false
    by false is = refl
    by true is =
        let same : b ≡ a = eqb-true b a is in
        let clash : false ≡ true = ap not (sym (same_self a)) ∙ (ap (λ (x : ℕ). not (a == x)) (sym same) ∙ apart) in cc

unturned : (t : Transition) (me : ℕ) (x : PodState) → is_late (Some t) ≡ true → is_fixed me x ≡ true → enabled t me x ≡ false
unturned turn.End me (state.Preparing owner) late fixed = other_way owner me fixed
unturned turn.End me (state.Running owner) late fixed = other_way owner me fixed
unturned turn.End me (state.Deleting owner from) late fixed = other_way owner me fixed
unturned turn.Remove me (state.Deleting owner from) late fixed = other_way owner me fixed
unturned turn.Sweep me (state.Embryo maker) late fixed = cc
unturned turn.Sweep me state.AbortedPrepare late fixed = cc
unturned turn.Sweep me state.Prepared late fixed = cc
unturned turn.Mark me state.Exited late fixed = cc
unturned turn.BeginDelete me state.ExitedGarbage late fixed = cc
unturned turn.BeginDelete me state.Garbage late fixed = cc
unturned turn.Make me x late fixed = cc
unturned turn.BeginPrepare me x late fixed = cc
unturned turn.Finish me x late fixed = cc
unturned turn.Start me x late fixed = cc
unturned t me x late fixed = refl

stays_fixed : (me : ℕ) (o : Option Transition) (x : PodState) → is_late o ≡ true → is_fixed me x ≡ true → after_transition o me x ≡ x
stays_fixed me None x late fixed = refl
stays_fixed me (Some t) x late fixed = ap (λ b. cond b (leads t me x) x) (unturned t me x late fixed)

all_in : {X : Type 0} (P : X → Type 0) (x : X) (xs : List X) → AllByRecursion P xs → In x xs → P x
all_in P x [] all i = absurd i
all_in P x (y ∷ ys) all (inl e) = subst P (sym e) all.0
all_in P x (y ∷ ys) all (inr i) = all_in P x ys all.1 i

-- a process that holds nothing exclusively owns no pod
pub owns_nothing : (u : List ℕ) (me : ℕ) (h : List Event) → IsConforming h → OwnsNothing me (state_after h).namespace → is_owner me (pod_state u h) ≡ true → ⊥
owns_nothing u me h conforming idle own =
    let o = (good u h conforming).inv.pod.held me own in
    let shut = all_in (λ (x : Opening). (x.process == me) ≡ true → is_exclusive x.lock ≡ false) o.0 (state_after h).namespace.openings idle o.1.0 (ap (λ (p : ℕ). p == me) o.1.1.1 ∙ same_self me) in
    let clash : true ≡ false = sym (and_right (is_own_of u o.0.target) (is_exclusive o.0.lock) o.1.1.0) ∙ shut in cc

module _ (pod : PodId) (now : ℕ) {me : ℕ} {old new : List Event} (ext : Extends (in_process (removes pod now)) me old new) (quiet : Quiet me old new) (idle : OwnsNothing me (state_after old).namespace) (m : OnceFound (RemovesPod pod) me old new) (conforming : IsConforming new) where
  abbrev u : List ℕ
  u = pod_text pod.bytes

  before : IsConforming old
  before = conforming_left old quiet.more (subst IsConforming quiet.grown conforming)

  mine_turned : (owner : ℕ) → (owner == me) ≡ true → (me == owner) ≡ true
  mine_turned owner mine = ap (λ (q : ℕ). me == q) (eqb-true owner me mine) ∙ same_self me

  owns_none : is_owner me (pod_state u old) ≡ true → ⊥
  owns_none own = owns_nothing u me old before idle own

  fixed_gone : (x : PodState) → pod_state u old ≡ x → is_fixed me x ≡ true → x ≡ state.Gone
  fixed_gone x is fixed =
      sym (history_fixed u x (in_process (removes pod now)) me (λ n request reply h. stays_fixed me (transition u n x me request reply) x (late_turn (removes pod now) (removes_late pod now) u n x me request reply h) fixed) is ext quiet)
      ∙ (rm_gone pod m conforming).is

  -- it wasn't gone
  never_gone : pod_state u old ≡ state.Gone → ⊥
  never_gone is = was_there pod m conforming is

  -- nor an embryo
  abbrev spot : Spot
  spot = pod_spot pod area.Embryo

  embryo_kept : (s : DirState) (request : Request) (reply : Reply) → (is_kill request || in_process (removes pod now) request) ≡ true → stands s.namespace spot ≡ true → stands (namespace_replied s.namespace me request reply) spot ≡ true
  embryo_kept s (MakeFolder here) reply h there = cc
  embryo_kept s (MoveFolder from to) Done h there =
      let asked = or_nothing (removes pod now (MoveFolder from to)) h in
      let f : spot_eq from spot ≡ false = ap (λ b. b && bytes_eq from.name u) (rm_not_embryo pod now from to asked) in
      let t : spot_eq to spot ≡ false = ap (λ b. b && bytes_eq to.name u) (embryo_apart to.area ((removes_late pod now).moves from to asked)) in
      ap (λ (o : Option ℕ). is_some o) (moved_elsewhere s.namespace spot from to t f) ∙ there
  embryo_kept s (MoveFolder from to) reply h there = there
  embryo_kept s (RemoveFolder gone) Done h there =
      let g : spot_eq gone spot ≡ false = ap (λ b. b && bytes_eq gone.name u) (embryo_apart gone.area (in_garbage pod now gone (or_nothing _ h))) in
      ap (λ (o : Option ℕ). is_some o) (removed_elsewhere s.namespace spot gone g) ∙ there
  embryo_kept s (RemoveFolder gone) reply h there = there
  embryo_kept s request reply h there = ap (λ (fs : List (Option Spot)). stands (record s.namespace { folders = fs }) spot) (same_folders me s.namespace request reply refl (λ handle. refl)) ∙ there

  place_embryo : (maker : ℕ) (a : Area) → is_area_of_state a (state.Embryo maker) ≡ true → a ≡ area.Embryo
  place_embryo maker area.Embryo is = refl
  place_embryo maker a is = cc

  never_embryo : (maker : ℕ) → pod_state u old ≡ state.Embryo maker → ⊥
  never_embryo maker is =
      let x = exists_stands u old before (subst (λ (s : PodState). exists s ≡ true) (sym is) refl) in
      let its : is_spot_of_pod u (pod_spot pod x.0) ≡ true = ap (λ b. b && bytes_eq u u) x.1.0 ∙ same_bytes u in
      let at = (stands_exists u old (pod_spot pod x.0) before its x.1.1).1 in
      let here = place_embryo maker x.0 (sym (ap (is_area_of_state x.0) is) ∙ at) in
      let there = subst (λ (a : Area). stands (state_after old).namespace (pod_spot pod a) ≡ true) here x.1.1 in
      let last = forward (λ s. stands s.namespace spot ≡ true) (in_process (removes pod now)) me (λ s request reply h q. embryo_kept s request reply h q) old grown_none (record { more = quiet.more; grown = quiet.grown }) ext quiet there in
      let clash : true ≡ false = sym last ∙ (rm_gone pod m conforming).nowhere area.Embryo refl in cc

  removable : (x : PodState) → pod_state u old ≡ x → (p : Phase) × (phase_of_state x ≡ Some p) × (is_removable p ≡ true)
  removable state.Absent is = let e : state.Absent ≡ state.Gone = fixed_gone state.Absent is refl in cc
  removable (state.Embryo maker) is = absurd (never_embryo maker is)
  removable (state.Preparing owner) is = by (owner == me) refl
    where
      by : (b : Bool) → (owner == me) ≡ b → (p : Phase) × (phase_of_state (state.Preparing owner) ≡ Some p) × (is_removable p ≡ true)
      by true mine = absurd (owns_none (ap (is_owner me) is ∙ mine_turned owner mine))
      by false other = let e : state.Preparing owner ≡ state.Gone = fixed_gone (state.Preparing owner) is (ap not other) in cc
  removable (state.Running owner) is = by (owner == me) refl
    where
      by : (b : Bool) → (owner == me) ≡ b → (p : Phase) × (phase_of_state (state.Running owner) ≡ Some p) × (is_removable p ≡ true)
      by true mine = absurd (owns_none (ap (is_owner me) is ∙ mine_turned owner mine))
      by false other = let e : state.Running owner ≡ state.Gone = fixed_gone (state.Running owner) is (ap not other) in cc
  removable (state.Deleting owner from) is = by (owner == me) refl
    where
      by : (b : Bool) → (owner == me) ≡ b → (p : Phase) × (phase_of_state (state.Deleting owner from) ≡ Some p) × (is_removable p ≡ true)
      by true mine = absurd (owns_none (ap (is_owner me) is ∙ mine_turned owner mine))
      by false other = let e : state.Deleting owner from ≡ state.Gone = fixed_gone (state.Deleting owner from) is (ap not other) in cc
  removable state.AbortedPrepare is = (kind.AbortedPrepare, refl, refl)
  removable state.Prepared is = (kind.Prepared, refl, refl)
  removable state.Exited is = (kind.Exited, refl, refl)
  removable state.ExitedGarbage is = (kind.ExitedGarbage, refl, refl)
  removable state.Garbage is = (kind.Garbage, refl, refl)
  removable state.Gone is = absurd (never_gone is)

  pub rm_removable_before : IsRemovableNow pod old
  rm_removable_before =
      let x = removable (pod_state u old) refl in
      record { phase = x.0; removable = x.2; has = has_phase_now pod old before x.0 x.1 }
