-- Where nobody else steps, what refused a claim was so before.
use Rattle.std.proofs.Common.{◌≡◌, ◌⊎◌, inl, inr, ℕ, Bool, true, false, not, ◌&&◌, ◌||◌, ◌==◌, cond, bytes_eq, codes, Option, Some, None, is_some, List, [], ◌∷◌, ◌++◌, option_to_list, refl, sym, ap, subst, ◌∙◌, append_assoc}
use Rattle.std.specs.List.{list_any, AllByRecursion}
use Rattle.plain_laws.proofs.Texts.{same_bytes}
use Rattle.dir_model.specs.declared.area.Area.{Area}
use Rattle.dir_model.specs.declared.area.Area.TheVariants as area
use Rattle.dir_model.specs.declared.area.Phase.{Phase}
use Rattle.dir_model.specs.declared.area.Phase.TheVariants as phase
use Rattle.dir_model.specs.declared.event.Event.{Event}
use Rattle.dir_model.specs.declared.pod.PodId.{PodId}
use Rattle.dir_model.specs.declared.spot.Mode.TheVariants.{Shared, Exclusive}
use Rattle.dir_model.specs.declared.spot.Which.{Which}
use Rattle.dir_model.specs.declared.tree.TreeEntry.{TreeEntry}
use Rattle.dir_model.specs.declared.request.Request.{Request}
use Rattle.dir_model.specs.declared.request.Request.TheVariants.{MakeFolder, MoveFolder, RemoveFolder, RemoveFileIn, RemoveDirIn, TryLock, Close, Finish, Kill}
use Rattle.dir_model.specs.declared.request.Reply.{Reply}
use Rattle.dir_model.specs.declared.request.Reply.TheVariants.{Done}
use Rattle.dir_model.specs.Calls.{event, is_finish, is_foreign, is_kill, Extends, AtOwnStep}
use Rattle.dir_model.specs.Locks.{is_folder}
use Rattle.dir_model.specs.Pods.{pod_text}
use Rattle.dir_model.specs.Quiet.{Quiet, OwnsNothing}
use Rattle.dir_model.specs.State.{Namespace, DirState, empty_state, folder_at, stands}
use Rattle.dir_model.specs.Trace.{state_after, state_next, entries_kept, entry_made}
use Rattle.dir_model.specs.Trees.{is_file_entry, has_file}
use Rattle.dir_model.proofs.Lists.{all_left, or_map, same_rest, same_self}
use Rattle.dir_model.proofs.Moments.{at_grown, at_weaker}
use Rattle.dir_rules.specs.Standing.{is_spot_of_pod}
use Rattle.lifecycle.specs.declared.machine.PodState.{PodState}
use Rattle.lifecycle.specs.declared.machine.PodState.TheVariants as state
use Rattle.lifecycle.specs.declared.machine.Transition.{Transition}
use Rattle.lifecycle.specs.declared.machine.Transition.TheVariants as turn
use Rattle.lifecycle.specs.PodMachine.{pod_state, pod_state_from, pod_state_next, pod_phase, phase_of_state, exists, is_owner, owner_of, after_transition, enabled, leads, transition_if, arrival, transition, undeleted, deleted_from}
use Rattle.lifecycle.specs.Executions.{IsConforming}
use Rattle.lifecycle.proofs.Phases.{stands_exists}
use Rattle.lifecycle.proofs.Stays.{machine_append}
use Rattle.phase_read.specs.Exact.{AtOwnEvent, IsNowhere}
use Rattle.dir_model.specs.Spots.{pod_spot}
use Rattle.pod_locks.specs.ClaimCauses.{IsPreparedWithoutManifest, PreparedHeldByAnother, WasWrongToClaim, is_lock}
use Rattle.pod_locks.specs.Elsewhere.{is_owned_phase, IsOwnedElsewhere}
use Rattle.pod_locks.specs.ClaimRequests.{in_prepared}
use Rattle.pod_locks.specs.Work.{Grew, MovedNothing, is_ok_move}
use Rattle.pod_locks.proofs.Times.{at_part}
use Rattle.pod_locks.proofs.Traces.{grown_more, grown_by}
use Rattle.commands.specs.RemovalQuiet.{StandsNowhere, HasPhaseNow}
use Rattle.commands.specs.Opening.{opens}
use Rattle.commands.proofs.OwnSteps.{in_process, own_asked, at_process, event_process, back_at, history_back, held_before}
use Rattle.commands.proofs.RmBefore.{has_phase_now}
use Rattle.commands.proofs.RmFrom.{owns_nothing}
use Rattle.commands.specs.RunPrepared.{runs_prepared}
use Rattle.commands.specs.RunQuiet.{IsClaimHeld}
use Rattle.commands.proofs.ClaimQuiet.{folder_back}

-- no removal
abbrev is_no_removal : Option Transition → Bool
is_no_removal (Some turn.Remove) = false
is_no_removal _ = true

none_back : (t : Transition) (me : ℕ) (x : PodState) → is_no_removal (Some t) ≡ true → enabled t me x ≡ true → phase_of_state (leads t me x) ≡ None → phase_of_state x ≡ None
none_back turn.End me (state.Preparing owner) keeps may is = cc
none_back turn.End me (state.Running owner) keeps may is = cc
none_back turn.End me (state.Deleting owner area.ExitedGarbage) keeps may is = cc
none_back turn.End me (state.Deleting owner from) keeps may is = cc
none_back turn.End me x keeps may is = cc
none_back turn.Remove me x keeps may is = cc
none_back t me x keeps may is = cc

none_stays : (o : Option Transition) (me : ℕ) (x : PodState) → is_no_removal o ≡ true → phase_of_state (after_transition o me x) ≡ None → phase_of_state x ≡ None
none_stays None me x keeps is = is
none_stays (Some t) me x keeps is = by (enabled t me x) refl is
  where
    by : (b : Bool) → enabled t me x ≡ b → phase_of_state (cond b (leads t me x) x) ≡ None → phase_of_state x ≡ None
    by true may is = none_back t me x keeps may is
    by false may is = is

kept_if : (b : Bool) (t : Transition) → is_no_removal (Some t) ≡ true → is_no_removal (transition_if b t) ≡ true
kept_if true t is = is
kept_if false t is = refl

kept_arrival : (b : Bool) (a : Area) → is_no_removal (cond b (arrival a) None) ≡ true
kept_arrival false a = refl
kept_arrival true area.Prepare = refl
kept_arrival true area.Prepared = refl
kept_arrival true area.Run = refl
kept_arrival true area.ExitedGarbage = refl
kept_arrival true area.Garbage = refl
kept_arrival true a = refl

none_absent : (x : PodState) → phase_of_state x ≡ None → exists x ≡ false
none_absent state.Absent is = refl
none_absent state.Gone is = refl
none_absent x is = cc

-- what turns a pod that its process doesn't own and doesn't move
abbrev is_calm : Option Transition → Bool
is_calm None = true
is_calm (Some turn.BeginDelete) = true
is_calm (Some turn.End) = true
is_calm _ = false

-- the pod is as it was, or this process has begun to delete it
abbrev Still : ℕ → PodState → PodState → Type 0
Still me before x = (x ≡ before) ⊎ ((x ≡ state.Deleting me (deleted_from before)) × (undeleted (deleted_from before) ≡ before))

calm_turn : (o : Option Transition) (me : ℕ) (x : PodState) → is_calm o ≡ true → is_owner me x ≡ false → Still me x (after_transition o me x)
calm_turn None me x calm free = inl refl
calm_turn (Some turn.BeginDelete) me state.ExitedGarbage calm free = inr (refl, refl)
calm_turn (Some turn.BeginDelete) me state.Garbage calm free = inr (refl, refl)
calm_turn (Some turn.BeginDelete) me x calm free = inl refl
calm_turn (Some turn.End) me (state.Preparing owner) calm free = inl (ap (λ b. cond b state.AbortedPrepare (state.Preparing owner)) free)
calm_turn (Some turn.End) me (state.Running owner) calm free = inl (ap (λ b. cond b state.Exited (state.Running owner)) free)
calm_turn (Some turn.End) me (state.Deleting owner from) calm free = inl (ap (λ b. cond b (undeleted from) (state.Deleting owner from)) free)
calm_turn (Some turn.End) me x calm free = inl refl
calm_turn (Some t) me x calm free = cc

calm_deleting : (o : Option Transition) (me : ℕ) (from : Area) → is_calm o ≡ true → (after_transition o me (state.Deleting me from) ≡ state.Deleting me from) ⊎ (after_transition o me (state.Deleting me from) ≡ undeleted from)
calm_deleting None me from calm = inl refl
calm_deleting (Some turn.BeginDelete) me from calm = inl refl
calm_deleting (Some turn.End) me from calm = inr (ap (λ b. cond b (undeleted from) (state.Deleting me from)) (same_self me))
calm_deleting (Some t) me from calm = cc

calm_still : (o : Option Transition) (me : ℕ) (before x : PodState) → is_calm o ≡ true → is_owner me before ≡ false → Still me before x → Still me before (after_transition o me x)
calm_still o me before x calm free (inl same) = subst (λ (y : PodState). Still me before (after_transition o me y)) (sym same) (calm_turn o me before calm free)
calm_still o me before x calm free (inr d) =
    subst (λ (y : PodState). Still me before (after_transition o me y)) (sym d.0)
    (elim (calm_deleting o me (deleted_from before) calm) [ inl same ↦ inr (same, d.1) | inr back ↦ inl (back ∙ d.1) ])

-- a step that makes, moves and removes no folder
abbrev is_calm_step : Request → Reply → Bool
is_calm_step (MakeFolder spot) Done = false
is_calm_step (MoveFolder from to) Done = false
is_calm_step (RemoveFolder spot) Done = false
is_calm_step request reply = true

calm_if : (b : Bool) (t : Transition) → is_calm (Some t) ≡ true → is_calm (transition_if b t) ≡ true
calm_if true t is = is
calm_if false t is = refl

calm_transition : (u : List ℕ) (n : Namespace) (x : PodState) (me : ℕ) (request : Request) (reply : Reply) → is_calm_step request reply ≡ true → is_calm (transition u n x me request reply) ≡ true
calm_transition u n x me (MakeFolder spot) Done h = cc
calm_transition u n x me (MoveFolder from to) Done h = cc
calm_transition u n x me (RemoveFolder spot) Done h = cc
calm_transition u n x me (TryLock handle Exclusive) Done h = calm_if _ turn.BeginDelete refl
calm_transition u n x me (TryLock handle Shared) Done h = refl
calm_transition u n x me (Close handle) Done h = calm_if _ turn.End refl
calm_transition u n x me Finish Done h = calm_if _ turn.End refl
calm_transition u n x me Kill Done h = calm_if _ turn.End refl
calm_transition u n x me request reply h = refl

begin_calm : (request : Request) (reply : Reply) → (is_kill request || opens request) ≡ true → is_calm_step request reply ≡ true
begin_calm (MakeFolder spot) reply h = cc
begin_calm (MoveFolder from to) reply h = cc
begin_calm (RemoveFolder spot) reply h = cc
begin_calm request reply h = refl

claim_calm : (pod : PodId) (request : Request) (reply : Reply) → (is_kill request || runs_prepared pod request) ≡ true → (is_kill request || not (is_ok_move request reply)) ≡ true → is_calm_step request reply ≡ true
claim_calm pod (MakeFolder spot) reply h still = cc
claim_calm pod (MoveFolder from to) Done h still = cc
claim_calm pod (MoveFolder from to) reply h still = refl
claim_calm pod (RemoveFolder spot) reply h still = cc
claim_calm pod request reply h still = refl

own_still : (me : ℕ) (e : Event) → e.process ≡ me → (is_foreign me e || not (is_ok_move e.request e.reply)) ≡ true → (is_kill e.request || not (is_ok_move e.request e.reply)) ≡ true
own_still me e mine still =
    ap (λ b. (not b || is_kill e.request) || not (is_ok_move e.request e.reply)) (sym (same_self me))
    ∙ (ap (λ (q : ℕ). (not (q == me) || is_kill e.request) || not (is_ok_move e.request e.reply)) (sym mine) ∙ still)

module _ (pod : PodId) (me : ℕ) where
  abbrev u : List ℕ
  u = pod_text pod.bytes

  abbrev Mine : List Event → Type 0
  Mine es = AllByRecursion (λ e. e.process ≡ me) es

  abbrev AreCalm : List Event → Type 0
  AreCalm es = AllByRecursion (λ e. is_calm_step e.request e.reply ≡ true) es

  still_all : (before : PodState) (s : DirState) (x : PodState) (es : List Event) → is_owner me before ≡ false → Mine es → AreCalm es → Still me before x → Still me before (pod_state_from u s x es)
  still_all before s x [] free own calm y = y
  still_all before s x (e ∷ es) free own calm y =
      let next = calm_still (transition u s.namespace x me e.request e.reply) me before x (calm_transition u s.namespace x me e.request e.reply calm.0) free y in
      still_all before (state_next s e) (pod_state_next u s.namespace x e) es free own.1 calm.1
      (subst (λ (p : ℕ). Still me before (after_transition (transition u s.namespace x p e.request e.reply) p x)) (sym own.0) next)

  begin_all : (es : List Event) → Mine es → AllByRecursion (λ e. (is_foreign me e || opens e.request) ≡ true) es → AreCalm es
  begin_all [] own asked = tt
  begin_all (e ∷ es) own asked = (begin_calm e.request e.reply (own_asked opens me e own.0 asked.0), begin_all es own.1 asked.1)

  claim_all : (es : List Event) → Mine es → AllByRecursion (λ e. (is_foreign me e || runs_prepared pod e.request) ≡ true) es → AllByRecursion (λ e. (is_foreign me e || not (is_ok_move e.request e.reply)) ≡ true) es → AreCalm es
  claim_all [] own asked still = tt
  claim_all (e ∷ es) own asked still = (claim_calm pod e.request e.reply (own_asked (runs_prepared pod) me e own.0 asked.0) (own_still me e own.0 still.0), claim_all es own.1 asked.1 still.1)

  no_removal : (n : Namespace) (x : PodState) (request : Request) (reply : Reply) → (is_kill request || in_process (runs_prepared pod) request) ≡ true → is_no_removal (transition u n x me request reply) ≡ true
  no_removal n x (MakeFolder spot) Done h = cc
  no_removal n x (MoveFolder from to) Done h = kept_arrival (is_spot_of_pod u to) to.area
  no_removal n x (RemoveFolder spot) Done h = cc
  no_removal n x (TryLock handle Exclusive) Done h = kept_if _ turn.BeginDelete refl
  no_removal n x (TryLock handle Shared) Done h = refl
  no_removal n x (Close handle) Done h = kept_if _ turn.End refl
  no_removal n x Finish Done h = kept_if _ turn.End refl
  no_removal n x Kill Done h = kept_if _ turn.End refl
  no_removal n x request reply h = refl

-- the whole process: it began, then it was refused without a move, and it finished
pub record RefusedClaim (pod : PodId) (me : ℕ) (old begun ended new : List Event) : Type 0 where
  pub begins : Extends opens me old begun
  pub works : Extends (runs_prepared pod) me begun ended
  pub finishes : Extends is_finish me ended new
  pub whole : Extends (in_process (runs_prepared pod)) me old new
  pub quiet : Quiet me old new

module _ (pod : PodId) {me : ℕ} {old begun ended new : List Event} (r : RefusedClaim pod me old begun ended new) where
  abbrev its : List ℕ
  its = pod_text pod.bytes

  -- no pod
  pub none_before : IsConforming old → AtOwnEvent me begun ended (IsNowhere pod) → StandsNowhere pod (state_after old)
  none_before conforming at a stage = by (stands (state_after old).namespace (pod_spot pod a)) refl
    where
      none : phase_of_state (pod_state its old) ≡ None
      none = history_back its (λ x. phase_of_state x ≡ None) (in_process (runs_prepared pod)) me
          (λ n x request reply h is. none_stays (transition its n x me request reply) me x (no_removal pod me n x request reply h) is) (event_process r.begins r.finishes at) r.whole r.quiet

      by : (b : Bool) → stands (state_after old).namespace (pod_spot pod a) ≡ b → b ≡ false
      by false is = refl
      by true is =
          let there = (stands_exists its old (pod_spot pod a) conforming (ap (λ b. b && bytes_eq its its) stage ∙ same_bytes its) is).0 in
          let clash : true ≡ false = sym there ∙ none_absent (pod_state its old) none in cc

  -- its phase
  still_at : is_owner me (pod_state its old) ≡ false → MovedNothing me begun ended → (at : List Event) (later rest : List Event) → at ≡ begun ++ later → ended ≡ at ++ rest → Still me (pod_state its old) (pod_state its at)
  still_at free moved at later rest begins ends =
      let whole : ended ≡ begun ++ (later ++ rest) = ends ∙ (ap (λ (h : List Event). h ++ rest) begins ∙ append_assoc begun later rest) in
      let all : new ≡ old ++ (r.begins.more ++ (later ++ (rest ++ r.finishes.more))) = r.finishes.grown ∙ (ap (λ (h : List Event). h ++ r.finishes.more) (whole ∙ ap (λ (h : List Event). h ++ (later ++ rest)) r.begins.grown) ∙ simp append_assoc) in
      let own = subst (λ (l : List Event). AllByRecursion (λ e. e.process ≡ me) l) (same_rest old r.quiet.more (r.begins.more ++ (later ++ (rest ++ r.finishes.more))) (sym r.quiet.grown ∙ all)) r.quiet.own in
      let first = all_left _ r.begins.more (later ++ (rest ++ r.finishes.more)) own in
      let second = all_left _ later (rest ++ r.finishes.more) (all_later r.begins.more (later ++ (rest ++ r.finishes.more)) own) in
      let asked = all_left _ later rest (subst (λ (l : List Event). AllByRecursion (λ e. (is_foreign me e || runs_prepared pod e.request) ≡ true) l) (same_rest begun r.works.more (later ++ rest) (sym r.works.grown ∙ whole)) r.works.asked) in
      let still = all_left _ later rest (subst (λ (l : List Event). AllByRecursion (λ e. (is_foreign me e || not (is_ok_move e.request e.reply)) ≡ true) l) (same_rest begun moved.more (later ++ rest) (sym moved.grown ∙ whole)) moved.still) in
      let x = pod_state its old in
      let a = still_all pod me x (state_after old) x r.begins.more free first (begin_all pod me r.begins.more first r.begins.asked) (inl refl) in
      let b : Still me x (pod_state its begun) = subst (λ (y : PodState). Still me x y) (sym (ap (pod_state its) r.begins.grown ∙ machine_append its old r.begins.more empty_state state.Absent)) a in
      let c = still_all pod me x (state_after begun) (pod_state its begun) later free second (claim_all pod me later second asked still) b in
      subst (λ (y : PodState). Still me x y) (sym (ap (pod_state its) begins ∙ machine_append its begun later empty_state state.Absent)) c
    where
      all_later : (xs ys : List Event) → AllByRecursion (λ e. e.process ≡ me) (xs ++ ys) → AllByRecursion (λ e. e.process ≡ me) ys
      all_later [] ys a = a
      all_later (x ∷ xs) ys a = all_later xs ys a.1

  still_event : {P : List Event → Type 0} → is_owner me (pod_state its old) ≡ false → MovedNothing me begun ended → (at : AtOwnEvent me begun ended P) → Still me (pod_state its old) (pod_state its (at.before ++ at.step ∷ []))
  still_event {P} free moved at = still_at free moved (at.before ++ at.step ∷ []) (at.later ++ at.step ∷ []) at.rest (ap (λ (h : List Event). h ++ at.step ∷ []) at.begins ∙ append_assoc begun at.later (at.step ∷ [])) at.ends

  pub wrong_before : (p : Phase) → IsConforming old → OwnsNothing me (state_after old).namespace → MovedNothing me begun ended → WasWrongToClaim pod p me begun ended → (is_owned_phase p ≡ true → (a : Area) × AtOwnEvent me begun ended (IsOwnedElsewhere me pod p a)) → HasPhaseNow pod p old
  wrong_before p conforming idle moved was met = has_phase_now pod old conforming p (by (is_owned_phase p) refl)
    where
      free : is_owner me (pod_state its old) ≡ false
      free = unowned (is_owner me (pod_state its old)) (owns_nothing its me old conforming idle)
        where
          unowned : (b : Bool) → (b ≡ true → ⊥) → b ≡ false
          unowned false never = refl
          unowned true never = absurd (never refl)

      deleting : phase.Deleting ≡ p → is_owned_phase p ≡ true
      deleting is = subst (λ (q : Phase). is_owned_phase q ≡ true) is refl

      by : (b : Bool) → is_owned_phase p ≡ b → pod_phase its old ≡ Some p
      by true is = elim (still_event free moved (met is).1) [
        | inl same ↦ sym (ap phase_of_state same) ∙ (met is).1.holds.was.is
        | inr d ↦
            let e : Some me ≡ Some (met is).1.holds.owner = sym (ap owner_of d.0) ∙ (met is).1.holds.is in
            let one : me ≡ (met is).1.holds.owner = cc in
            let clash : true ≡ false = sym (same_self me) ∙ (ap (λ (q : ℕ). q == me) one ∙ (met is).1.holds.other) in cc
      ]
      by false is = elim (still_event free moved was.was) [
        | inl same ↦ sym (ap phase_of_state same) ∙ was.was.holds.is
        | inr d ↦
            let e : Some phase.Deleting ≡ Some p = sym (ap phase_of_state d.0) ∙ was.was.holds.is in
            let one : phase.Deleting ≡ p = cc in
            let clash : true ≡ false = sym (deleting one) ∙ is in cc
      ]

  -- its manifest
  any_first : {X : Type 0} (t : X → Bool) (xs ys : List X) → list_any t xs ≡ true → list_any t (xs ++ ys) ≡ true
  any_first t [] ys h = cc
  any_first t (x ∷ xs) ys h = or_map (t x) (list_any t xs) (list_any t (xs ++ ys)) (any_first t xs ys) h

  unlike : (a b : Bool) → (a ≡ true → b ≡ true) → b ≡ false → a ≡ false
  unlike true b f off = let clash : true ≡ false = sym (f refl) ∙ off in cc
  unlike false b f off = refl

  none_taken : (s : DirState) (request : Request) (reply : Reply) → (is_kill request || in_process (runs_prepared pod) request) ≡ true → entries_kept s.namespace s.entries request reply ≡ s.entries
  none_taken s (RemoveFileIn inner) reply h = cc
  none_taken s (RemoveDirIn inner) reply h = cc
  none_taken s request reply h = refl

  abbrev Lacks : ℕ → DirState → Type 0
  Lacks k s = (folder_at s.namespace (in_prepared pod) ≡ Some k) × (has_file s.entries k (codes "pod") ≡ false)

  lacks_back : (k : ℕ) (s : DirState) (request : Request) (reply : Reply) → (is_kill request || in_process (runs_prepared pod) request) ≡ true → Lacks k (state_next s (event me request reply)) → Lacks k s
  lacks_back k s request reply h x = (
    folder_back pod me k s request reply h x.0,
    unlike (has_file s.entries k (codes "pod")) _
        (λ is. any_first (is_file_entry k (codes "pod")) (entries_kept s.namespace s.entries request reply) (option_to_list (entry_made s.namespace request reply))
        (subst (λ (es : List TreeEntry). has_file es k (codes "pod") ≡ true) (sym (none_taken s request reply h)) is)) x.1,
  )

  pub lacked_before : AtOwnStep me begun ended (IsPreparedWithoutManifest pod) → IsPreparedWithoutManifest pod (state_after old)
  lacked_before at =
      let k = at.holds.folder in
      let there : AtOwnStep me begun ended (Lacks k) = record { before = at.before; step = at.step; later = at.later; rest = at.rest; begins = at.begins; ends = at.ends; own = at.own; holds = (at.holds.there, at.holds.without) } in
      let x = back_at (Lacks k) (in_process (runs_prepared pod)) me (λ s request reply h x. lacks_back k s request reply h x) (at_process r.begins r.finishes there) r.whole r.quiet in
      record { folder = k; there = x.0; without = x.1 }

  -- its lock
  pub lock_before : (which : Which) → PreparedHeldByAnother pod which me begun ended → IsClaimHeld pod which me (state_after old)
  lock_before which b =
      let last = at_grown b.held in
      let front = at_grown b.found in
      let k = b.folder in
      let first : Grew old begun = grown_by r.begins in
      let after : Grew ended new = grown_by r.finishes in
      let found = at_part first refl (grown_more (record { more = last.0; grown = last.1 }) after) (at_weaker (λ s. folder_at s.namespace (in_prepared pod) ≡ Some k) (λ s y. y.0) b.found) in
      let held = at_part (grown_more first (record { more = front.0; grown = front.1 })) refl after b.held in
      record {
        folder = k;
        there = back_at (λ s. folder_at s.namespace (in_prepared pod) ≡ Some k) (in_process (runs_prepared pod)) me (λ s request reply h at. folder_back pod me k s request reply h at) found r.whole r.quiet;
        held = held_before (λ o. is_folder k o.folder && (is_lock which o.target && is_some o.lock)) held r.whole r.quiet;
      }
