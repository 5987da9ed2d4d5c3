-- A process that removes or sweeps pods doesn't bring a pod to a phase in which somebody makes it, runs it or has made it.
use Rattle.std.proofs.Common.{◌≡◌, ◌⊎◌, inl, inr, ℕ, Bool, true, false, not, ◌&&◌, ◌||◌, ◌==◌, cond, bytes_eq, Option, Some, None, List, refl, sym, ap, subst, ◌∙◌}
use Rattle.plain_laws.proofs.Texts.{same_bytes}
use Rattle.plain_laws.proofs.Booleans.{or_nothing}
use Rattle.dir_model.specs.declared.area.Area.{Area}
use Rattle.dir_model.specs.declared.area.Area.TheVariants as area
use Rattle.dir_model.specs.declared.event.Event.{Event}
use Rattle.dir_model.specs.declared.pod.PodId.{PodId}
use Rattle.dir_model.specs.declared.spot.Mode.TheVariants.{Shared, Exclusive}
use Rattle.dir_model.specs.declared.spot.Spot.{Spot}
use Rattle.dir_model.specs.declared.request.Request.{Request}
use Rattle.dir_model.specs.declared.request.Request.TheVariants.{MakeFolder, MoveFolder, RemoveFolder, TryLock, Close, Finish, Kill}
use Rattle.dir_model.specs.declared.request.Reply.{Reply}
use Rattle.dir_model.specs.declared.request.Reply.TheVariants.{Done}
use Rattle.dir_model.specs.Areas.{rank, is_stage}
use Rattle.dir_model.specs.Calls.{is_kill, Extends}
use Rattle.dir_model.specs.Pods.{pod_text}
use Rattle.dir_model.specs.Quiet.{Quiet}
use Rattle.dir_model.specs.State.{Namespace, spot_eq}
use Rattle.dir_model.proofs.Lists.{and_left, and_right, same_self}
use Rattle.dir_rules.specs.Standing.{is_spot_of_pod, is_in, is_garbage}
use Rattle.lifecycle.specs.declared.machine.PodState.{PodState}
use Rattle.lifecycle.specs.declared.machine.PodState.TheVariants as state
use Rattle.lifecycle.specs.declared.machine.Transition.{Transition}
use Rattle.lifecycle.specs.declared.machine.Transition.TheVariants as turn
use Rattle.lifecycle.specs.PodMachine.{pod_state, after_transition, enabled, leads, transition_if, arrival, transition, undeleted}
use Rattle.lifecycle.proofs.Makes.{of_same}
use Rattle.phase_read.specs.Exact.{AtOwnEvent}
use Rattle.dir_model.specs.Spots.{pod_spot}
use Rattle.phase_read.specs.Read.{is_pod_spot}
use Rattle.pod_gc.specs.RemovalRequests.{removes, goes_aside}
use Rattle.pod_gc.specs.Requests.{sweeps}
use Rattle.commands.specs.RemovalQuiet.{is_pods_place}
use Rattle.commands.proofs.OwnSteps.{in_process, history_back}

pub or_either : (b c : Bool) → (b || c) ≡ true → (b ≡ true) ⊎ (c ≡ true)
or_either true c h = inl refl
or_either false c h = inr h

-- the transitions that its own steps may be
abbrev pub is_late : Option Transition → Bool
is_late None = true
is_late (Some turn.Sweep) = true
is_late (Some turn.Mark) = true
is_late (Some turn.BeginDelete) = true
is_late (Some turn.End) = true
is_late (Some turn.Remove) = true
is_late _ = false

-- the states to which they don't lead
abbrev pub is_lasting : ℕ → PodState → Bool
is_lasting me state.Absent = true
is_lasting me (state.Embryo maker) = true
is_lasting me (state.Preparing owner) = true
is_lasting me state.Prepared = true
is_lasting me (state.Running owner) = true
is_lasting me (state.Deleting owner from) = not (owner == me)
is_lasting me _ = false

-- no folder is made, and none moved but to a garbage place
pub record Late (asks : Request → Bool) : Type 0 where
  pub makes : (spot : Spot) → asks (MakeFolder spot) ≡ true → ⊥
  pub moves : (from to : Spot) → asks (MoveFolder from to) ≡ true → is_garbage to.area ≡ true

ended_passes : (me : ℕ) (from : Area) → is_lasting me (undeleted from) ≡ false
ended_passes me area.ExitedGarbage = refl
ended_passes me from = refl

late_passes : (t : Transition) (me : ℕ) (x : PodState) → is_late (Some t) ≡ true → enabled t me x ≡ true → is_lasting me (leads t me x) ≡ false
late_passes turn.Sweep me x late is = refl
late_passes turn.Mark me x late is = refl
late_passes turn.BeginDelete me x late is = ap not (same_self me)
late_passes turn.Remove me x late is = refl
late_passes turn.End me (state.Preparing owner) late is = refl
late_passes turn.End me (state.Running owner) late is = refl
late_passes turn.End me (state.Deleting owner from) late is = ended_passes me from
late_passes turn.End me x late is = cc
late_passes t me x late is = cc

stays_late : (me : ℕ) (o : Option Transition) (x : PodState) → is_late o ≡ true → is_lasting me (after_transition o me x) ≡ true → x ≡ after_transition o me x
stays_late me None x late lasting = refl
stays_late me (Some t) x late lasting = by (enabled t me x) refl lasting
  where
    by : (b : Bool) → enabled t me x ≡ b → is_lasting me (cond b (leads t me x) x) ≡ true → x ≡ cond b (leads t me x) x
    by true is h = let clash : true ≡ false = sym h ∙ late_passes t me x late is in cc
    by false is h = refl

late_if : (b : Bool) (t : Transition) → is_late (Some t) ≡ true → is_late (transition_if b t) ≡ true
late_if true t is = is
late_if false t is = refl

late_arrival : (b : Bool) (a : Area) → is_garbage a ≡ true → is_late (cond b (arrival a) None) ≡ true
late_arrival false a is = refl
late_arrival true area.ExitedGarbage is = refl
late_arrival true area.Garbage is = refl
late_arrival true a is = cc

module _ (asks : Request → Bool) (l : Late asks) where
  pub late_turn : (u : List ℕ) (n : Namespace) (x : PodState) (me : ℕ) (request : Request) (reply : Reply) → (is_kill request || in_process asks request) ≡ true → is_late (transition u n x me request reply) ≡ true
  late_turn u n x me (MakeFolder spot) Done h = absurd (l.makes spot (or_nothing (asks (MakeFolder spot)) h))
  late_turn u n x me (MoveFolder from to) Done h = late_arrival (is_spot_of_pod u to) to.area (l.moves from to (or_nothing (asks (MoveFolder from to)) h))
  late_turn u n x me (TryLock handle Exclusive) Done h = late_if _ turn.BeginDelete refl
  late_turn u n x me (TryLock handle Shared) Done h = refl
  late_turn u n x me (Close handle) Done h = late_if _ turn.End refl
  late_turn u n x me (RemoveFolder spot) Done h = late_if _ turn.Remove refl
  late_turn u n x me Finish Done h = late_if _ turn.End refl
  late_turn u n x me Kill Done h = late_if _ turn.End refl
  late_turn u n x me request reply h = refl

  -- what the pod was in such a state it was before
  pub lasting_back : {me : ℕ} {old new : List Event} (u : List ℕ) (Q : PodState → Type 0) → AtOwnEvent me old new (λ h. Q (pod_state u h) × (is_lasting me (pod_state u h) ≡ true)) → Extends (in_process asks) me old new → Quiet me old new → Q (pod_state u old)
  lasting_back {me} {old} {new} u Q at ext quiet =
      (history_back u (λ x. Q x × (is_lasting me x ≡ true)) (in_process asks) me
      (λ n x request reply h q. subst (λ (y : PodState). Q y × (is_lasting me y ≡ true)) (sym (stays_late me (transition u n x me request reply) x (late_turn u n x me request reply h) q.1)) q)
      at ext quiet).0

-- a removal of one pod, and a sweep

pub rank_garbage : (x : Area) → (rank area.Garbage == rank x) ≡ true → is_garbage x ≡ true
rank_garbage area.Garbage is = refl
rank_garbage x is = cc

pub rank_exited : (x : Area) → (rank area.ExitedGarbage == rank x) ≡ true → is_garbage x ≡ true
rank_exited area.ExitedGarbage is = refl
rank_exited x is = cc

pub garbage_rank : (x : Area) → (rank x == rank area.Garbage) ≡ true → is_garbage x ≡ true
garbage_rank area.Garbage is = refl
garbage_rank x is = cc

pub exited_rank : (x : Area) → (rank x == rank area.ExitedGarbage) ≡ true → is_garbage x ≡ true
exited_rank area.ExitedGarbage is = refl
exited_rank x is = cc

pub embryo_apart : (a : Area) → is_garbage a ≡ true → (rank a == rank area.Embryo) ≡ false
embryo_apart area.ExitedGarbage is = refl
embryo_apart area.Garbage is = refl
embryo_apart a is = cc

prepare_apart : (x : Area) → (rank area.Prepare == rank x) ≡ true → (rank x == rank area.Embryo) ≡ false
prepare_apart area.Prepare is = refl
prepare_apart x is = cc

prepared_apart : (x : Area) → (rank area.Prepared == rank x) ≡ true → (rank x == rank area.Embryo) ≡ false
prepared_apart area.Prepared is = refl
prepared_apart x is = cc

run_apart : (x : Area) → (rank area.Run == rank x) ≡ true → (rank x == rank area.Embryo) ≡ false
run_apart area.Run is = refl
run_apart x is = cc

module _ (pod : PodId) (now : ℕ) where
  abbrev u : List ℕ
  u = pod_text pod.bytes

  abbrev Moves : Area → Area → Spot → Spot → Bool
  Moves a b from to = spot_eq (pod_spot pod a) from && spot_eq (pod_spot pod b) to

  aside_cases : (from to : Spot) → goes_aside pod (MoveFolder from to) ≡ true →
      (Moves area.Prepare area.Garbage from to ≡ true) ⊎ ((Moves area.Prepared area.Garbage from to ≡ true) ⊎ (Moves area.Run area.ExitedGarbage from to ≡ true))
  aside_cases from to is = elim (or_either (Moves area.Prepare area.Garbage from to) _ is) [ inl a ↦ inl a | inr rest ↦ inr (or_either (Moves area.Prepared area.Garbage from to) _ rest) ]

  from_rank : (a b : Area) (from to : Spot) → Moves a b from to ≡ true → (rank a == rank from.area) ≡ true
  from_rank a b from to is = and_left (rank a == rank from.area) (bytes_eq u from.name) (and_left (spot_eq (pod_spot pod a) from) (spot_eq (pod_spot pod b) to) is)

  to_place : (a b : Area) (from to : Spot) → Moves a b from to ≡ true → (rank b == rank to.area) ≡ true
  to_place a b from to is = and_left (rank b == rank to.area) (bytes_eq u to.name) (and_right (spot_eq (pod_spot pod a) from) (spot_eq (pod_spot pod b) to) is)

  from_place : (a b : Area) (from to : Spot) → is_stage a ≡ true → Moves a b from to ≡ true → is_pod_spot pod from ≡ true
  from_place a b from to stage is =
      sym (of_same u (pod_spot pod a) from (and_left (spot_eq (pod_spot pod a) from) (spot_eq (pod_spot pod b) to) is)) ∙ (ap (λ b. b && bytes_eq u u) stage ∙ same_bytes u)

  pub removes_late : Late (removes pod now)
  removes_late = record {
    makes = λ spot is. cc;
    moves = λ from to is. elim (aside_cases from to is) [
      | inl x ↦ rank_garbage to.area (to_place area.Prepare area.Garbage from to x)
      | inr (inl x) ↦ rank_garbage to.area (to_place area.Prepared area.Garbage from to x)
      | inr (inr x) ↦ rank_exited to.area (to_place area.Run area.ExitedGarbage from to x)
    ];
  }

  -- it moves and removes folders at the pod's places alone
  pub rm_moves : (from to : Spot) → removes pod now (MoveFolder from to) ≡ true → is_pod_spot pod from ≡ true
  rm_moves from to is = elim (aside_cases from to is) [
    | inl x ↦ from_place area.Prepare area.Garbage from to refl x
    | inr (inl x) ↦ from_place area.Prepared area.Garbage from to refl x
    | inr (inr x) ↦ from_place area.Run area.ExitedGarbage from to refl x
  ]

  pub rm_not_embryo : (from to : Spot) → removes pod now (MoveFolder from to) ≡ true → (rank from.area == rank area.Embryo) ≡ false
  rm_not_embryo from to is = elim (aside_cases from to is) [
    | inl x ↦ prepare_apart from.area (from_rank area.Prepare area.Garbage from to x)
    | inr (inl x) ↦ prepared_apart from.area (from_rank area.Prepared area.Garbage from to x)
    | inr (inr x) ↦ run_apart from.area (from_rank area.Run area.ExitedGarbage from to x)
  ]

  its_spot : (a : Area) (spot : Spot) → is_stage a ≡ true → spot_eq spot (pod_spot pod a) ≡ true → is_pod_spot pod spot ≡ true
  its_spot a spot stage is = of_same u spot (pod_spot pod a) is ∙ (ap (λ b. b && bytes_eq u u) stage ∙ same_bytes u)

  pub rm_removes : (spot : Spot) → removes pod now (RemoveFolder spot) ≡ true → is_pod_spot pod spot ≡ true
  rm_removes spot is = elim (or_either (spot_eq spot (pod_spot pod area.ExitedGarbage)) _ is) [ inl x ↦ its_spot area.ExitedGarbage spot refl x | inr x ↦ its_spot area.Garbage spot refl x ]

  pub in_garbage : (spot : Spot) → (spot_eq spot (pod_spot pod area.ExitedGarbage) || spot_eq spot (pod_spot pod area.Garbage)) ≡ true → is_garbage spot.area ≡ true
  in_garbage spot is = elim (or_either (spot_eq spot (pod_spot pod area.ExitedGarbage)) _ is) [
    | inl x ↦ exited_rank spot.area (and_left (rank spot.area == rank area.ExitedGarbage) (bytes_eq spot.name u) x)
    | inr x ↦ garbage_rank spot.area (and_left (rank spot.area == rank area.Garbage) (bytes_eq spot.name u) x)
  ]

abbrev Sweeps : Spot → Spot → Bool
Sweeps from to = (is_in area.Run from.area && is_in area.ExitedGarbage to.area) || is_in area.Garbage to.area

pub sweeps_late : (now : ℕ) → Late (sweeps now)
sweeps_late now = record {
  makes = λ spot is. cc;
  moves = λ from to is. elim (or_either (is_in area.Run from.area && is_in area.ExitedGarbage to.area) _ (and_right (is_stage from.area) (Sweeps from to) is)) [
    | inl x ↦ rank_exited to.area (and_right (is_in area.Run from.area) (is_in area.ExitedGarbage to.area) x)
    | inr x ↦ rank_garbage to.area x
  ];
}

-- it moves and removes folders in the areas of pods alone
pub gc_moves : (now : ℕ) (from to : Spot) → sweeps now (MoveFolder from to) ≡ true → is_pods_place from ≡ true
gc_moves now from to is = and_left (is_stage from.area) (Sweeps from to) is

garbage_stage : (x : Area) → is_garbage x ≡ true → is_stage x ≡ true
garbage_stage area.ExitedGarbage is = refl
garbage_stage area.Garbage is = refl
garbage_stage x is = cc

pub gc_removes : (now : ℕ) (spot : Spot) → sweeps now (RemoveFolder spot) ≡ true → is_pods_place spot ≡ true
gc_removes now spot is = elim (or_either (is_in spot.area area.ExitedGarbage) _ is) [ inl x ↦ garbage_stage spot.area (exited_rank spot.area x) | inr x ↦ garbage_stage spot.area (garbage_rank spot.area x) ]
