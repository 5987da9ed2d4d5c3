-- Where nobody else steps, a pod that its process brought to run stands there in the end, without an owner.
use Rattle.std.proofs.Common.{◌≡◌, ◌⊎◌, inl, inr, ℕ, Bool, true, false, not, ◌&&◌, ◌||◌, ◌==◌, cond, bytes_eq, Option, Some, None, is_some, List, [], ◌∷◌, ◌++◌, refl, sym, ap, subst, ◌∙◌, append_assoc}
use Rattle.std.specs.List.{AllByRecursion}
use Rattle.plain_laws.proofs.Texts.{same_bytes}
use Rattle.plain_laws.proofs.Booleans.{or_nothing}
use Rattle.plain_laws.proofs.Numbers.{no_number}
use Rattle.dir_model.specs.declared.area.Area.{Area}
use Rattle.dir_model.specs.declared.area.Area.TheVariants as area
use Rattle.dir_model.specs.declared.area.Phase.{Phase}
use Rattle.dir_model.specs.declared.area.Phase.TheVariants as phase
use Rattle.dir_model.specs.declared.event.Event.{Event}
use Rattle.dir_model.specs.declared.pod.PodId.{PodId}
use Rattle.dir_model.specs.declared.spot.Mode.TheVariants.{Shared, Exclusive}
use Rattle.dir_model.specs.declared.spot.Spot.{Spot}
use Rattle.dir_model.specs.declared.request.Request.{Request}
use Rattle.dir_model.specs.declared.request.Request.TheVariants.{Begin, MakeFolder, MoveFolder, Open, OpenArea, RemoveFolder, TryLock, Close, Finish, Kill}
use Rattle.dir_model.specs.declared.request.Reply.{Reply}
use Rattle.dir_model.specs.declared.request.Reply.TheVariants.{Done, Opened}
use Rattle.dir_model.specs.Areas.{is_stage, phase_in}
use Rattle.dir_model.specs.Calls.{event, is_allowed, is_foreign, is_kill, is_run_from, Extends, IsRun, CallStep, TookPlace, LeftNothing}
use Rattle.dir_model.specs.Pods.{pod_text}
use Rattle.dir_model.specs.Quiet.{Quiet}
use Rattle.dir_model.specs.State.{Namespace, DirState, empty_state, spot_eq, folder_at, stands, has_begun, has_ended, lives, is_owned, is_owned_at}
use Rattle.dir_model.specs.Trace.{state_after, state_next, states_next, namespace_replied}
use Rattle.dir_model.proofs.Allowed.{make_says, move_says}
use Rattle.dir_model.proofs.Chains.{states_next-append, state_after-push, run_from-right}
use Rattle.dir_model.proofs.Lists.{and_left, and_right, and_both, and_false, any_push, any_last, all_right, same_rest, same_self}
use Rattle.dir_rules.specs.Standing.{is_spot_of_pod}
use Rattle.folder_contents.proofs.Spots.{one_location}
use Rattle.lifecycle.specs.declared.machine.PodState.{PodState}
use Rattle.lifecycle.specs.declared.machine.PodState.TheVariants as state
use Rattle.lifecycle.specs.declared.machine.Transition.{Transition}
use Rattle.lifecycle.specs.declared.machine.Transition.TheVariants as turn
use Rattle.lifecycle.specs.PodMachine.{pod_state, pod_state_from, pod_state_next, after_transition, enabled, leads, transition_if, arrival, transition, is_area_of_state, phase_of_state}
use Rattle.lifecycle.specs.Executions.{IsConforming}
use Rattle.lifecycle.proofs.Phases.{enabled_each, stands_exists, phase_of_place}
use Rattle.lifecycle.proofs.Places.{made_elsewhere, moved_there, moved_elsewhere}
use Rattle.lifecycle.proofs.Stays.{machine_append}
use Rattle.pod_locks.specs.ClaimRequests.{in_run}
use Rattle.phase_read.specs.declared.found.Found.{Found}
use Rattle.phase_read.specs.declared.found.Found.TheVariants.{At, Gone}
use Rattle.dir_model.specs.Spots.{pod_spot}
use Rattle.phase_read.specs.Sequential.{sequential_read, found_in, or_in}
use Rattle.commands.proofs.OwnSteps.{in_process, own_asked, same_folders}
use Rattle.commands.proofs.RmBefore.{has_phase_now}
use Rattle.commands.specs.RunQuiet.{IsPhaseAt, IsLeftInRun}

-- a move to there marks no exited pod
abbrev pub is_unmarked : Option Transition → Bool
is_unmarked (Some turn.Mark) = false
is_unmarked _ = true

-- it moves nothing from this place and marks no pod, and it removes no folder
pub record Leaves (spot : Spot) (asks : Request → Bool) : Type 0 where
  pub moves : (from to : Spot) → asks (MoveFolder from to) ≡ true → spot_eq from spot ≡ false
  pub marks : (from to : Spot) → asks (MoveFolder from to) ≡ true → is_unmarked (arrival to.area) ≡ true
  pub removes : (spot : Spot) → asks (RemoveFolder spot) ≡ true → ⊥

never_stands : {X : Type 0} (o : Option ℕ) (k : ℕ) → o ≡ Some k → is_some o ≡ false → X
never_stands {X} o k is none = let clash : true ≡ false = sym (ap (λ (x : Option ℕ). is_some x) is) ∙ none in cc

unmarked_if : (b : Bool) (t : Transition) → is_unmarked (Some t) ≡ true → is_unmarked (transition_if b t) ≡ true
unmarked_if true t is = is
unmarked_if false t is = refl

unmarked_when : (b : Bool) (o : Option Transition) → is_unmarked o ≡ true → is_unmarked (cond b o None) ≡ true
unmarked_when true o is = is
unmarked_when false o is = refl

unmarked_shut : (t : Transition) (me : ℕ) → is_unmarked (Some t) ≡ true → enabled t me state.Exited ≡ false
unmarked_shut turn.Mark me is = cc
unmarked_shut t me is = refl

exited_stays : (o : Option Transition) (me : ℕ) → is_unmarked o ≡ true → after_transition o me state.Exited ≡ state.Exited
exited_stays None me is = refl
exited_stays (Some t) me is = ap (λ b. cond b (leads t me state.Exited) state.Exited) (unmarked_shut t me is)

running_turns : (o : Option Transition) (me : ℕ) → (after_transition o me (state.Running me) ≡ state.Running me) ⊎ (after_transition o me (state.Running me) ≡ state.Exited)
running_turns None me = inl refl
running_turns (Some turn.End) me = inr (ap (λ b. cond b state.Exited (state.Running me)) (same_self me))
running_turns (Some t) me = inl refl

-- the process is over with it
abbrev is_over : Request → Reply → Bool
is_over Finish Done = true
is_over Kill Done = true
is_over request reply = false

living : (me : ℕ) (w : Namespace) (request : Request) (reply : Reply) → is_over request reply ≡ false → lives w me ≡ true → lives (namespace_replied w me request reply) me ≡ true
living me w (Begin intent) Done off h =
    and_both (has_begun (namespace_replied w me (Begin intent) Done) me) (not (has_ended w me)) (any_push (λ start. start.process == me) w.begun (record { process = me; intent = intent }) (and_left (has_begun w me) (not (has_ended w me)) h))
    (and_right (has_begun w me) (not (has_ended w me)) h)
living me w (Open spot which) (Opened handle) off h = h
living me w (OpenArea place) (Opened handle) off h = h
living me w request (Opened handle) off h = h
living me w Finish Done off h = cc
living me w Kill Done off h = cc
living me w request Done off h = h
living me w request reply off h = h

ended_turn : (me : ℕ) → after_transition (transition_if (me == me) turn.End) me (state.Running me) ≡ state.Exited
ended_turn me = ap (λ b. after_transition (transition_if b turn.End) me (state.Running me)) (same_self me) ∙ ap (λ b. cond b state.Exited (state.Running me)) (same_self me)

-- the process owns the pod and lives, or the pod is exited
abbrev Ran : ℕ → DirState → PodState → Type 0
Ran me s x = ((x ≡ state.Running me) × (lives s.namespace me ≡ true)) ⊎ (x ≡ state.Exited)

module _ (pod : PodId) (asks : Request → Bool) (l : Leaves (in_run pod) asks) (me : ℕ) where
  abbrev u : List ℕ
  u = pod_text pod.bytes

  abbrev spot : Spot
  spot = in_run pod

  -- its folder
  stays_there : (k : ℕ) (s : DirState) (request : Request) (reply : Reply) → is_allowed s (event me request reply) ≡ true → (is_kill request || in_process asks request) ≡ true → folder_at s.namespace spot ≡ Some k →
      folder_at (namespace_replied s.namespace me request reply) spot ≡ Some k
  stays_there k s (MakeFolder here) Done may h at = by (spot_eq here spot) refl
    where
      by : (b : Bool) → spot_eq here spot ≡ b → folder_at (namespace_replied s.namespace me (MakeFolder here) Done) spot ≡ Some k
      by true is = never_stands (folder_at s.namespace here) k (ap (folder_at s.namespace) (one_location here spot is) ∙ at) (make_says s me here may).free
      by false off = made_elsewhere s.namespace spot here off ∙ at
  stays_there k s (MakeFolder here) reply may h at = at
  stays_there k s (MoveFolder from to) Done may h at = by (spot_eq to spot) refl
    where
      by : (b : Bool) → spot_eq to spot ≡ b → folder_at (namespace_replied s.namespace me (MoveFolder from to) Done) spot ≡ Some k
      by true is = never_stands (folder_at s.namespace to) k (ap (folder_at s.namespace) (one_location to spot is) ∙ at) (move_says s me from to may).free
      by false off = moved_elsewhere s.namespace spot from to off (l.moves from to (or_nothing (asks (MoveFolder from to)) h)) ∙ at
  stays_there k s (MoveFolder from to) reply may h at = at
  stays_there k s (RemoveFolder gone) Done may h at = absurd (l.removes gone (or_nothing (asks (RemoveFolder gone)) h))
  stays_there k s (RemoveFolder gone) reply may h at = at
  stays_there k s request reply may h at = ap (λ (fs : List (Option Spot)). folder_at (record s.namespace { folders = fs }) spot) (same_folders me s.namespace request reply refl (λ handle. refl)) ∙ at

  pub there_all : (k : ℕ) (s : DirState) (es : List Event) → is_run_from s es ≡ true → AllByRecursion (λ e. e.process ≡ me) es → AllByRecursion (λ e. (is_foreign me e || in_process asks e.request) ≡ true) es →
      folder_at s.namespace spot ≡ Some k → folder_at (states_next s es).namespace spot ≡ Some k
  there_all k s [] run own asked at = at
  there_all k s (e ∷ es) run own asked at =
      let may : is_allowed s (event me e.request e.reply) ≡ true = subst (λ (p : ℕ). is_allowed s (event p e.request e.reply) ≡ true) own.0 (and_left (is_allowed s e) (is_run_from (state_next s e) es) run) in
      let next = stays_there k s e.request e.reply may (own_asked (in_process asks) me e own.0 asked.0) at in
      there_all k (state_next s e) es (and_right (is_allowed s e) (is_run_from (state_next s e) es) run) own.1 asked.1
      (subst (λ (p : ℕ). folder_at (namespace_replied s.namespace p e.request e.reply) spot ≡ Some k) (sym own.0) next)

  -- its state
  unmarked : (n : Namespace) (x : PodState) (request : Request) (reply : Reply) → (is_kill request || in_process asks request) ≡ true → is_unmarked (transition u n x me request reply) ≡ true
  unmarked n x (MakeFolder here) Done h = unmarked_if _ turn.Make refl
  unmarked n x (MoveFolder from to) Done h = unmarked_when (is_spot_of_pod u to) (arrival to.area) (l.marks from to (or_nothing (asks (MoveFolder from to)) h))
  unmarked n x (TryLock handle Exclusive) Done h = unmarked_if _ turn.BeginDelete refl
  unmarked n x (TryLock handle Shared) Done h = refl
  unmarked n x (Close handle) Done h = unmarked_if _ turn.End refl
  unmarked n x (RemoveFolder here) Done h = unmarked_if _ turn.Remove refl
  unmarked n x Finish Done h = unmarked_if _ turn.End refl
  unmarked n x Kill Done h = unmarked_if _ turn.End refl
  unmarked n x request reply h = refl

  abbrev After : DirState → PodState → Request → Reply → Type 0
  After s x request reply = Ran me (state_next s (event me request reply)) (after_transition (transition u s.namespace x me request reply) me x)

  on_running : (s : DirState) (request : Request) (reply : Reply) → is_over request reply ≡ false → lives s.namespace me ≡ true → After s (state.Running me) request reply
  on_running s request reply off live = by (running_turns (transition u s.namespace (state.Running me) me request reply) me)
    where
      by : (after_transition (transition u s.namespace (state.Running me) me request reply) me (state.Running me) ≡ state.Running me) ⊎ (after_transition (transition u s.namespace (state.Running me) me request reply) me (state.Running me) ≡ state.Exited) →
          After s (state.Running me) request reply
      by (inl same) = inl (same, living me s.namespace request reply off live)
      by (inr over) = inr over

  runs_on : (s : DirState) (request : Request) (reply : Reply) → lives s.namespace me ≡ true → After s (state.Running me) request reply
  runs_on s Finish Done live = inr (ended_turn me)
  runs_on s Kill Done live = inr (ended_turn me)
  runs_on s request reply live = on_running s request reply refl live

  ran_on : (s : DirState) (x : PodState) (request : Request) (reply : Reply) → (is_kill request || in_process asks request) ≡ true → Ran me s x → After s x request reply
  ran_on s x request reply h (inl r) = subst (λ (y : PodState). After s y request reply) (sym r.0) (runs_on s request reply r.1)
  ran_on s x request reply h (inr e) = subst (λ (y : PodState). After s y request reply) (sym e) (inr (exited_stays (transition u s.namespace state.Exited me request reply) me (unmarked s.namespace state.Exited request reply h)))

  ran_all : (s : DirState) (x : PodState) (es : List Event) → AllByRecursion (λ e. e.process ≡ me) es → AllByRecursion (λ e. (is_foreign me e || in_process asks e.request) ≡ true) es → Ran me s x → Ran me (states_next s es) (pod_state_from u s x es)
  ran_all s x [] own asked r = r
  ran_all s x (e ∷ es) own asked r =
      let next = ran_on s x e.request e.reply (own_asked (in_process asks) me e own.0 asked.0) r in
      ran_all (state_next s e) (pod_state_next u s.namespace x e) es own.1 asked.1
      (subst (λ (p : ℕ). Ran me (state_next s (event p e.request e.reply)) (after_transition (transition u s.namespace x p e.request e.reply) p x)) (sym own.0) next)

-- a process that has finished doesn't live
pub is_past : {me : ℕ} {ended new : List Event} → CallStep me ended Finish Done new → lives (state_after new).namespace me ≡ false
is_past {me} {ended} {new} c = by c.own
  where
    by : TookPlace c.before me Finish Done new ⊎ LeftNothing c.before me Finish Done new → lives (state_after new).namespace me ≡ false
    by (inl took) =
        let w = (state_after c.before).namespace in
        subst (λ (s : DirState). lives s.namespace me ≡ false) (sym (ap state_after took.grown ∙ state_after-push c.before (event me Finish Done)))
        (ap (λ b. has_begun w me && not b) (any_last (λ p. p == me) w.ended me (same_self me)) ∙ and_false (has_begun w me))
    by (inr late) = subst (λ (h : List Event). lives (state_after h).namespace me ≡ false) (sym late.same) (elim late.why [ inl dead ↦ dead | inr is ↦ cc ])

-- a read finds a pod at one of its six places
found_stage : (b : Bool) (a : Area) (o : Option Phase) (later : Found) (p : Phase) (q : Area) → is_stage a ≡ true → (later ≡ At p q → is_stage q ≡ true) → cond b (found_in a o) later ≡ At p q → is_stage q ≡ true
found_stage false a o later p q stage next is = next is
found_stage true a None later p q stage next is = cc
found_stage true a (Some x) later p q stage next is = let same : a ≡ q = cc in subst (λ (y : Area). is_stage y ≡ true) same stage

module _ (s : DirState) (pod : PodId) (p : Phase) (q : Area) where
  abbrev IsStaged : Found → Type 0
  IsStaged found = found ≡ At p q → is_stage q ≡ true

  or_staged : (a : Area) (later : Found) → is_stage a ≡ true → IsStaged later → IsStaged (or_in s pod a later)
  or_staged a later stage next is = found_stage (stands s.namespace (pod_spot pod a)) a (phase_in a (is_owned_at s.namespace (pod_spot pod a))) later p q stage next is

  gone_staged : IsStaged Gone
  gone_staged is = cc

  pub read_stage : sequential_read s pod ≡ At p q → is_stage q ≡ true
  read_stage is =
      or_staged area.Embryo _ refl (or_staged area.Prepare _ refl (or_staged area.Prepared _ refl (or_staged area.Run _ refl (or_staged area.ExitedGarbage _ refl (or_staged area.Garbage _ refl gone_staged))))) is

pub phase_at : (pod : PodId) (h : List Event) → IsConforming h → (x : PodState) (p : Phase) (a : Area) → phase_of_state x ≡ Some p → ((b : Area) → is_area_of_state b x ≡ true → b ≡ a) → pod_state (pod_text pod.bytes) h ≡ x → IsPhaseAt pod p a h
phase_at pod h conforming x p a has lone is =
    let u : List ℕ = pod_text pod.bytes in
    let y = has_phase_now pod h conforming p (ap phase_of_state is ∙ has) in
    let its : is_spot_of_pod u (pod_spot pod y.area) ≡ true = and_both (is_stage y.area) (bytes_eq u u) (read_stage (state_after h) pod p y.area y.reads) (same_bytes u) in
    let place = (stands_exists u h (pod_spot pod y.area) conforming its y.is.there).1 in
    subst (λ (b : Area). IsPhaseAt pod p b h) (lone y.area (sym (ap (is_area_of_state y.area) is) ∙ place)) (record { is = y.is; reads = y.reads })

place_exited : (a : Area) → is_area_of_state a state.Exited ≡ true → a ≡ area.Run
place_exited area.Run is = refl
place_exited a is = cc

unowned_there : (b : Bool) → phase_in area.Run b ≡ Some phase.Exited → b ≡ false
unowned_there false is = refl
unowned_there true is = cc

-- the pod's move to run, from where it stood
module _ (pod : PodId) (asks : Request → Bool) (l : Leaves (in_run pod) asks) (me : ℕ) (old new before later : List Event) (from : Spot) (ext : Extends (in_process asks) me old new) (quiet : Quiet me old new)
    (meanwhile : List Event) (begins : before ≡ old ++ meanwhile) (moved : new ≡ before ++ event me (MoveFolder from (in_run pod)) Done ∷ later) (run : IsRun new) where
  abbrev its : List ℕ
  its = pod_text pod.bytes

  abbrev step : Event
  step = event me (MoveFolder from (in_run pod)) Done

  parted : (xs : List Event) → new ≡ old ++ xs → xs ≡ (meanwhile ++ step ∷ []) ++ later
  parted xs grown = same_rest old xs ((meanwhile ++ step ∷ []) ++ later) (sym grown ∙ (moved ∙ (ap (λ (h : List Event). h ++ step ∷ later) begins ∙ simp append_assoc)))

  mine : AllByRecursion (λ e. e.process ≡ me) later
  mine = all_right _ (meanwhile ++ step ∷ []) later (subst (λ (es : List Event). AllByRecursion (λ e. e.process ≡ me) es) (parted quiet.more quiet.grown) quiet.own)

  asked : AllByRecursion (λ e. (is_foreign me e || in_process asks e.request) ≡ true) later
  asked = all_right _ (meanwhile ++ step ∷ []) later (subst (λ (es : List Event). AllByRecursion (λ e. (is_foreign me e || in_process asks e.request) ≡ true) es) (parted ext.more ext.grown) ext.asked)

  runs : is_run_from empty_state (before ++ step ∷ later) ≡ true
  runs = subst IsRun moved run

  runs_then : is_run_from (state_after before) (step ∷ later) ≡ true
  runs_then = run_from-right empty_state before (step ∷ later) runs

  may : is_allowed (state_after before) step ≡ true
  may = and_left (is_allowed (state_after before) step) (is_run_from (state_next (state_after before) step) later) runs_then

  here : state_after new ≡ states_next (state_next (state_after before) step) later
  here = ap state_after moved ∙ states_next-append empty_state before (step ∷ later)

  pub stood_before : stands (state_after before).namespace from ≡ true
  stood_before = (move_says (state_after before) me from (in_run pod) may).there

  pub moved_here : folder_at (state_after (before ++ step ∷ [])).namespace (in_run pod) ≡ folder_at (state_after before).namespace from
  moved_here =
      let none = no_number (folder_at (state_after before).namespace (in_run pod)) (move_says (state_after before) me from (in_run pod) may).free in
      ap (λ (s : DirState). folder_at s.namespace (in_run pod)) (state_after-push before step) ∙ moved_there (state_after before).namespace (in_run pod) from (in_run pod) none (same_bytes its)

  pub stands_after : (k : ℕ) → folder_at (state_after before).namespace from ≡ Some k → folder_at (state_after new).namespace (in_run pod) ≡ Some k
  stands_after k at =
      let none = no_number (folder_at (state_after before).namespace (in_run pod)) (move_says (state_after before) me from (in_run pod) may).free in
      let first : folder_at (state_next (state_after before) step).namespace (in_run pod) ≡ Some k = moved_there (state_after before).namespace (in_run pod) from (in_run pod) none (same_bytes its) ∙ at in
      ap (λ (s : DirState). folder_at s.namespace (in_run pod)) here
      ∙ there_all pod asks l me k (state_next (state_after before) step) later (and_right (is_allowed (state_after before) step) (is_run_from (state_next (state_after before) step) later) runs_then) mine asked first

  module _ (conforming : IsConforming new) (past : lives (state_after new).namespace me ≡ false) where
    starts : transition its (state_after before).namespace (pod_state its before) me (MoveFolder from (in_run pod)) Done ≡ Some turn.Start
    starts = ap (λ b. cond b (Some turn.Start) None) (same_bytes its)

    started : pod_state_next its (state_after before).namespace (pod_state its before) step ≡ state.Running me
    started = ap (λ (o : Option Transition). after_transition o me (pod_state its before)) starts
        ∙ ap (λ b. cond b (state.Running me) (pod_state its before)) (enabled_each its before step later (subst IsConforming moved conforming) turn.Start starts)

    ran : Ran me (state_after new) (pod_state its new)
    ran =
        let live = living me (state_after before).namespace (MoveFolder from (in_run pod)) Done refl (move_says (state_after before) me from (in_run pod) may).living in
        let all = ran_all pod asks l me (state_next (state_after before) step) (pod_state_next its (state_after before).namespace (pod_state its before) step) later mine asked (inl (started, live)) in
        subst (λ (s : DirState). Ran me s (pod_state its new)) (sym here)
        (subst (λ (x : PodState). Ran me (states_next (state_next (state_after before) step) later) x) (sym (ap (pod_state its) moved ∙ machine_append its before (step ∷ later) empty_state state.Absent)) all)

    exited : pod_state its new ≡ state.Exited
    exited = elim ran [ inl r ↦ let clash : true ≡ false = sym r.1 ∙ past in cc | inr e ↦ e ]

    now_exited : IsPhaseAt pod phase.Exited area.Run new
    now_exited = phase_at pod new conforming state.Exited phase.Exited area.Run refl place_exited exited

    now_unowned : (k : ℕ) → folder_at (state_after new).namespace (in_run pod) ≡ Some k → is_owned (state_after new).namespace k ≡ false
    now_unowned k at = unowned_there (is_owned (state_after new).namespace k) (phase_of_place its new (in_run pod) k conforming (same_bytes its) at ∙ ap phase_of_state exited)

  pub left_in_run : (k : ℕ) → lives (state_after new).namespace me ≡ false → folder_at (state_after before).namespace from ≡ Some k → IsLeftInRun pod k new
  left_in_run k past at = record {
    there = stands_after k at;
    exited = λ conforming. now_exited conforming past;
    unowned = λ conforming. now_unowned conforming past k (stands_after k at);
  }
