-- Where nobody else steps, a pod that a sweep found in a garbage place stood there before, or a line says that it was moved there.
use Rattle.std.proofs.Common.{◌≡◌, ◌⊎◌, inl, inr, ◌&&◌, ◌||◌, ◌==◌, ℕ, Bool, true, false, cond, bytes_eq, Option, Some, None, List, [], ◌∷◌, ◌++◌, refl, sym, ap, subst, ◌∙◌}
use Rattle.std.specs.List.{AllByRecursion}
use Rattle.plain_laws.proofs.Texts.{same_bytes}
use Rattle.dir_model.specs.declared.area.Area.{Area}
use Rattle.dir_model.specs.declared.area.Area.TheVariants as area
use Rattle.dir_model.specs.declared.event.Event.{Event}
use Rattle.dir_model.specs.declared.pod.PodId.{PodId}
use Rattle.dir_model.specs.declared.request.Request.{Request}
use Rattle.dir_model.specs.declared.request.Reply.{Reply}
use Rattle.dir_model.specs.Areas.{rank, is_stage}
use Rattle.dir_model.specs.Calls.{is_kill, Extends}
use Rattle.dir_model.specs.Pods.{pod_text, pod_of_text}
use Rattle.dir_model.specs.Quiet.{Quiet}
use Rattle.dir_model.specs.State.{DirState, stands}
use Rattle.dir_model.specs.Trace.{state_after, namespace_replied}
use Rattle.dir_model.proofs.Lists.{and_left, all_right}
use Rattle.dir_rules.specs.Standing.{is_spot_of_pod}
use Rattle.lifecycle.specs.declared.machine.PodState.{PodState}
use Rattle.lifecycle.specs.declared.machine.PodState.TheVariants as state
use Rattle.lifecycle.specs.declared.machine.Transition.{Transition}
use Rattle.lifecycle.specs.declared.machine.Transition.TheVariants as turn
use Rattle.lifecycle.specs.PodMachine.{pod_state, is_area_of_state, enabled, leads, undeleted, after_transition, transition, exists}
use Rattle.lifecycle.specs.Executions.{IsConforming}
use Rattle.lifecycle.proofs.Draws.{conforming_left}
use Rattle.lifecycle.proofs.Phases.{exists_stands, stands_exists}
use Rattle.lifecycle.proofs.Stays.{one_folder}
use Rattle.dir_model.specs.Spots.{pod_spot}
use Rattle.pod_locks.specs.Work.{Grew}
use Rattle.pod_locks.proofs.Traces.{grown_more, grown_by}
use Rattle.pod_gc.specs.RemovalRequests.{is_garbage_place}
use Rattle.pod_gc.specs.declared.ages.Times.{Times}
use Rattle.pod_gc.specs.declared.line.Deed.{Deed}
use Rattle.pod_gc.specs.declared.line.Deed.TheVariants.{Moved, Deleted, Kept, Busy, BusyGate, Left}
use Rattle.pod_gc.specs.declared.line.GcLine.{GcLine}
use Rattle.pod_gc.specs.Requests.{goes_to, moves_pods, sweeps}
use Rattle.pod_gc.specs.Sweeping.{MaySweepAll}
use Rattle.pod_gc.specs.Told.{Knew, IsLineOfTurn, TellsShown, PassedOverPods, ArePassed, places}
use Rattle.pod_gc.proofs.Deleting.{place_garbage}
use Rattle.command_outcomes.specs.Meanwhile.{Meanwhile}
use Rattle.commands.specs.Gc.{SweepsByPasses}
use Rattle.commands.specs.GcLines.{HasLine}
use Rattle.commands.specs.RemovalQuiet.{leaves_there, StandsAfter, SaysMoved, StoodOrWasMoved}
use Rattle.commands.proofs.OwnSteps.{in_process, history_from, forward}
use Rattle.commands.proofs.LateTurns.{is_late, late_turn, sweeps_late}
use Rattle.commands.proofs.GcQuiet.{shown_grown, passes_grown, each_line, each_shown, moved_apart, stood_back}
use Rattle.pod_lookup.proofs.Names.{text_back}
use Rattle.commands.proofs.GcTells.{and_after, taken, told_in, begun_stands, gc_tells}
use Rattle.commands.proofs.GcTurn.{stood_listed}
use Rattle.commands.proofs.GcEnds.{later_leaves, finished, gc_stays}

-- the garbage place to which the pod goes, or in which it is
abbrev aim : PodState → Option Area
aim (state.Embryo maker) = Some area.Garbage
aim (state.Preparing owner) = Some area.Garbage
aim state.AbortedPrepare = Some area.Garbage
aim state.Prepared = Some area.Garbage
aim state.Garbage = Some area.Garbage
aim (state.Running owner) = Some area.ExitedGarbage
aim state.Exited = Some area.ExitedGarbage
aim state.ExitedGarbage = Some area.ExitedGarbage
aim (state.Deleting owner area.ExitedGarbage) = Some area.ExitedGarbage
aim (state.Deleting owner from) = Some area.Garbage
aim _ = None

aim_ended : (owner : ℕ) (from : Area) → aim (undeleted from) ≡ aim (state.Deleting owner from)
aim_ended owner area.ExitedGarbage = refl
aim_ended owner from = refl

module _ (to : Area) (me : ℕ) where
  aim_led : (t : Transition) (x : PodState) → is_late (Some t) ≡ true → enabled t me x ≡ true → aim (leads t me x) ≡ Some to → aim x ≡ Some to
  aim_led turn.Sweep (state.Embryo maker) late may is = is
  aim_led turn.Sweep state.AbortedPrepare late may is = is
  aim_led turn.Sweep state.Prepared late may is = is
  aim_led turn.Sweep x late may is = cc
  aim_led turn.Mark state.Exited late may is = is
  aim_led turn.Mark x late may is = cc
  aim_led turn.BeginDelete state.ExitedGarbage late may is = is
  aim_led turn.BeginDelete state.Garbage late may is = is
  aim_led turn.BeginDelete x late may is = cc
  aim_led turn.Remove x late may is = cc
  aim_led turn.End (state.Preparing owner) late may is = is
  aim_led turn.End (state.Running owner) late may is = is
  aim_led turn.End (state.Deleting owner from) late may is = sym (aim_ended owner from) ∙ is
  aim_led turn.End x late may is = cc
  aim_led t x late may is = cc

  aim_back : (o : Option Transition) (x : PodState) → is_late o ≡ true → aim (after_transition o me x) ≡ Some to → aim x ≡ Some to
  aim_back None x late is = is
  aim_back (Some t) x late is = by (enabled t me x) refl is
    where
      by : (b : Bool) → enabled t me x ≡ b → aim (cond b (leads t me x) x) ≡ Some to → aim x ≡ Some to
      by true may w = aim_led t x late may w
      by false may w = w

aims_there : (here : Area) (x : PodState) → is_garbage_place here ≡ true → is_area_of_state here x ≡ true → aim x ≡ Some here
aims_there area.ExitedGarbage state.ExitedGarbage garbage at = refl
aims_there area.ExitedGarbage (state.Deleting owner area.ExitedGarbage) garbage at = refl
aims_there area.Garbage state.Garbage garbage at = refl
aims_there area.Garbage (state.Deleting owner area.ExitedGarbage) garbage at = cc
aims_there area.Garbage (state.Deleting owner from) garbage at = refl
aims_there here x garbage at = cc

aims_exist : (x : PodState) (to : Area) → aim x ≡ Some to → exists x ≡ true
aims_exist state.Absent to is = cc
aims_exist state.Gone to is = cc
aims_exist x to is = refl

-- from where it comes
comes_from : (place : Area) (x : PodState) (to : Area) → is_area_of_state place x ≡ true → aim x ≡ Some to → (place ≡ to) ⊎ ((moves_pods place ≡ true) × (goes_to place ≡ to))
comes_from area.Embryo (state.Embryo maker) to at is = let e : area.Garbage ≡ to = cc in inr (refl, e)
comes_from area.Prepare (state.Preparing owner) to at is = let e : area.Garbage ≡ to = cc in inr (refl, e)
comes_from area.Prepare state.AbortedPrepare to at is = let e : area.Garbage ≡ to = cc in inr (refl, e)
comes_from area.Prepared state.Prepared to at is = let e : area.Garbage ≡ to = cc in inr (refl, e)
comes_from area.Run (state.Running owner) to at is = let e : area.ExitedGarbage ≡ to = cc in inr (refl, e)
comes_from area.Run state.Exited to at is = let e : area.ExitedGarbage ≡ to = cc in inr (refl, e)
comes_from area.ExitedGarbage state.ExitedGarbage to at is = let e : area.ExitedGarbage ≡ to = cc in inl e
comes_from area.ExitedGarbage (state.Deleting owner area.ExitedGarbage) to at is = let e : area.ExitedGarbage ≡ to = cc in inl e
comes_from area.Garbage state.Garbage to at is = let e : area.Garbage ≡ to = cc in inl e
comes_from area.Garbage (state.Deleting owner area.ExitedGarbage) to at is = cc
comes_from area.Garbage (state.Deleting owner from) to at is = let e : area.Garbage ≡ to = cc in inl e
comes_from place x to at is = cc

moved_not : (a : Area) {X : Type 0} → moves_pods a ≡ true → is_garbage_place a ≡ true → X
moved_not area.ExitedGarbage moves garbage = cc
moved_not area.Garbage moves garbage = cc
moved_not a moves garbage = cc

-- what a pass over such a place doesn't let be, it moves on
abbrev MovesOn : GcLine → Type 0
MovesOn line = (pod : PodId) → line.pod ≡ Some pod → moves_pods line.place ≡ true → leaves_there line.deed ≡ false → line.deed ≡ Moved (goes_to line.place)

pub line_at : (P : GcLine → Type 0) (lines before : List GcLine) (line : GcLine) (after : List GcLine) → lines ≡ before ++ line ∷ after → AllByRecursion P lines → P line
line_at P lines before line after are all = (all_right P before (line ∷ after) (subst (λ (l : List GcLine). AllByRecursion P l) are all)).0

module _ (times : Times) (lines : List GcLine) {me : ℕ} {old new : List Event} (ext : Extends (in_process (sweeps times.now)) me old new) (quiet : Quiet me old new) (m : Meanwhile (SweepsByPasses times lines) me old new) (conforming : IsConforming new) where
  abbrev asks : Request → Bool
  asks = in_process (sweeps times.now)

  conforms : (h : List Event) → Grew h new → IsConforming h
  conforms h more = conforming_left h more.more (subst IsConforming more.grown conforming)

  told_on : {Can : Type 0} {here : Area} {names : List (List ℕ)} (a b : List Event) (line : GcLine) → IsLineOfTurn Can times here names line me a b → MovesOn line
  told_on {Can} {here} {names} a b line x pod is moves goes = by line.deed refl
    where
      moved_here : moves_pods here ≡ true
      moved_here = sym (ap moves_pods x.place_is) ∙ moves

      by : (d : Deed) → line.deed ≡ d → line.deed ≡ Moved (goes_to line.place)
      by (Moved to) deed = deed ∙ ap (λ (p : Area). Moved p) ((x.dealt.cause.moved to deed).1 ∙ ap goes_to (sym x.place_is))
      by Deleted deed = moved_not here moved_here (x.dealt.cause.deleted deed).0
      by BusyGate deed = absurd (x.dealt.cause.gate deed)
      by (Kept p) deed = let clash : true ≡ false = sym (ap leaves_there deed) ∙ goes in cc
      by (Busy which) deed = let clash : true ≡ false = sym (ap leaves_there deed) ∙ goes in cc
      by Left deed = let clash : true ≡ false = sym (ap leaves_there deed) ∙ goes in cc

  all_on : AllByRecursion MovesOn lines
  all_on = each_line times lines ext quiet m MovesOn (λ Can can here names a b to_a from_b line x. told_on a b line x) (λ pod is moves goes. cc)

  -- once it stands in a garbage place it doesn't stand where it came from
  module _ (pod : PodId) (here place : Area) (garbage : is_garbage_place here ≡ true) (moves : moves_pods place ≡ true) (stage : is_stage here ≡ true) (place_stage : is_stage place ≡ true) (h : List Event) (to_h : Grew old h) (from_h : Grew h new) where
    abbrev Off : DirState → Type 0
    Off s = stands s.namespace (pod_spot pod place) ≡ false

    off_kept : (s : DirState) (request : Request) (reply : Reply) → (is_kill request || asks request) ≡ true → Off s → stands (namespace_replied s.namespace me request reply) (pod_spot pod place) ≡ false
    off_kept s request reply asked off = by (stands (namespace_replied s.namespace me request reply) (pod_spot pod place)) refl
      where
        by : (b : Bool) → stands (namespace_replied s.namespace me request reply) (pod_spot pod place) ≡ b → b ≡ false
        by false is = refl
        by true is = let clash : true ≡ false = sym (stood_back times.now pod place moves me s request reply asked is) ∙ off in cc

    off_then : stands (state_after h).namespace (pod_spot pod here) ≡ true → Off (state_after h)
    off_then there = by (stands (state_after h).namespace (pod_spot pod place)) refl
      where
        by : (b : Bool) → stands (state_after h).namespace (pod_spot pod place) ≡ b → b ≡ false
        by false is = refl
        by true is =
            let one = one_folder h (pod_spot pod here) (pod_spot pod place) (conforms h from_h) stage place_stage refl there is in
            let clash : true ≡ false = sym (and_left (rank here == rank place) _ one) ∙ moved_apart place here moves (place_garbage here garbage) in cc

    not_back : stands (state_after h).namespace (pod_spot pod here) ≡ true → stands (state_after new).namespace (pod_spot pod place) ≡ true → ⊥
    not_back there ends =
        let off = forward Off asks me (λ s request reply asked q. off_kept s request reply asked q) h to_h from_h ext quiet (off_then there) in
        let clash : true ≡ false = sym ends ∙ off in cc

    says : stands (state_after h).namespace (pod_spot pod here) ≡ true → goes_to place ≡ here → HasLine place pod lines → SaysMoved pod here lines
    says there goes x = (place, record { has = x; moved = by (leaves_there x.line.deed) refl })
      where
        by : (b : Bool) → leaves_there x.line.deed ≡ b → x.line.deed ≡ Moved here
        by false is =
            let on = line_at MovesOn lines x.before x.line x.after x.are all_on pod x.pod_is (ap moves_pods x.place_is ∙ moves) is in
            on ∙ ap (λ (p : Area). Moved p) (ap goes_to x.place_is ∙ goes)
        by true is =
            let ends = line_at (StandsAfter new) lines x.before x.line x.after x.are (gc_stays times lines ext quiet m conforming) pod x.pod_is is in
            absurd (not_back there (subst (λ (p : Area). stands (state_after new).namespace (pod_spot pod p) ≡ true) x.place_is ends))

  abbrev May : Type 0
  May = Knew (MaySweepAll times.now times.expire) m.so.from

  abbrev others : List Area
  others = area.Prepare ∷ area.Prepared ∷ area.Run ∷ area.ExitedGarbage ∷ area.Garbage ∷ []

  abbrev first : ArePassed May times places lines me m.begun m.ended
  first = m.so.swept

  to_begun : Grew old m.begun
  to_begun = record { more = m.begins.more; grown = m.begins.grown }

  finish : Grew m.ended new
  finish = record { more = m.finishes.more; grown = m.finishes.grown }

  rest : Grew first.between new
  rest = grown_more (passes_grown May times others first.others me first.between m.ended first.rest) finish

  -- a pod in embryo has a line there, or stays
  embryo_line : (name : List ℕ) (pod : PodId) → pod_of_text name ≡ Some pod → stands (state_after old).namespace (record { area = area.Embryo; name = name }) ≡ true
      → HasLine area.Embryo pod lines ⊎ (stands (state_after new).namespace (record { area = area.Embryo; name = name }) ≡ true)
  embryo_line name pod its there = by first.first (begun_stands times lines ext quiet m conforming (record { area = area.Embryo; name = name }) there)
    where
      by : PassedOverPods May times area.Embryo first.own me m.begun first.between → stands (state_after m.begun).namespace (record { area = area.Embryo; name = name }) ≡ true
          → HasLine area.Embryo pod lines ⊎ (stands (state_after new).namespace (record { area = area.Embryo; name = name }) ≡ true)
      by (inl g) begun =
          let last = grown_more (grown_by g.gives_back) rest in
          let locked = taken May times me old new quiet conforming name pod its area.Embryo refl m.begun g.locked g.takes_gate to_begun (grown_more (shown_grown g.tells) last) begun in
          let line = told_in May times me old new quiet conforming name pod its area.Embryo refl g.locked g.done g.tells (grown_more to_begun (grown_by g.takes_gate)) last locked in
          inl (subst (λ (l : List GcLine). HasLine area.Embryo pod l) (sym first.lines_are) (and_after area.Embryo pod first.own first.others line))
      by (inr w) begun =
          let between = taken May times me old new quiet conforming name pod its area.Embryo refl m.begun first.between w.only to_begun rest begun in
          let r : (true ≡ true) × (false ≡ false) = (refl, refl) in
          let ended = later_leaves times ext quiet May conforming name pod its area.Embryo refl others (r, (r, (r, (r, (r, tt))))) first.others first.between m.ended (grown_more to_begun (grown_by w.only)) finish first.rest between in
          inr (finished times lines ext quiet m conforming area.Embryo name pod its ended)

  told_came : {Can : Type 0} (here : Area) → is_stage here ≡ true → (ls : List GcLine) (a b : List Event) → Grew old a → Grew b new → (t : TellsShown Can times here ls me a b) → (line : GcLine) → IsLineOfTurn Can times here t.names line me t.listed b → StoodOrWasMoved lines old line
  told_came {Can} here stage ls a b to_a from_b t line x pod is garbage =
      let same : x.shown ≡ pod = let e : Some x.shown ≡ Some pod = sym x.pod_is ∙ is in cc in
      let u = pod_text x.shown.bytes in
      let its : (p : Area) → is_stage p ≡ true → is_spot_of_pod u (pod_spot x.shown p) ≡ true = λ p at. ap (λ c. c && bytes_eq u u) at ∙ same_bytes u in
      let aside : is_garbage_place here ≡ true = sym (ap is_garbage_place x.place_is) ∙ garbage in
      let to_h : Grew old t.listed = grown_more to_a (grown_by t.only_lists) in
      let from_h : Grew t.listed new = grown_more (grown_by t.tells.only) from_b in
      let there = stood_listed stage quiet to_a from_b t x in
      let at = (stands_exists u t.listed (pod_spot x.shown here) (conforms t.listed from_h) (its here stage) there).1 in
      let before : IsConforming old = conforming_left old quiet.more (subst IsConforming quiet.grown conforming) in
      let aims = history_from u (λ y. aim y ≡ Some here) asks me
      (λ n y request reply asked q. aim_back here me (transition u n y me request reply) y (late_turn (sweeps times.now) (sweeps_late times.now) u n y me request reply asked) q) t.listed to_h from_h ext quiet (aims_there here (pod_state u t.listed) aside at) in
      let found = exists_stands u old before (aims_exist (pod_state u old) here aims) in
      let placed = (stands_exists u old (pod_spot x.shown found.0) before (its found.0 found.1.0) found.1.1).1 in
      subst (λ (p : Area). Came pod p) (sym x.place_is) (subst (λ (q : PodId). Came q here) same (by found.0 found.1.0 found.1.1 aside to_h from_h there (comes_from found.0 (pod_state u old) here placed aims)))
    where
      Came : PodId → Area → Type 0
      Came q p = (stands (state_after old).namespace (pod_spot q p) ≡ true) ⊎ SaysMoved q p lines

      by : (place : Area) → is_stage place ≡ true → stands (state_after old).namespace (pod_spot x.shown place) ≡ true → is_garbage_place here ≡ true → Grew old t.listed → Grew t.listed new → stands (state_after t.listed).namespace (pod_spot x.shown here) ≡ true
          → (place ≡ here) ⊎ ((moves_pods place ≡ true) × (goes_to place ≡ here)) → Came x.shown here
      by place place_stage stood aside to_h from_h there (inl e) = inl (subst (λ (p : Area). stands (state_after old).namespace (pod_spot x.shown p) ≡ true) e stood)
      by place place_stage stood aside to_h from_h there (inr y) = elim (gc_tells times lines ext quiet m conforming x.name x.shown place x.name_is place_stage stood) [
        | inl has ↦ inr (says x.shown here place aside y.0 stage place_stage t.listed to_h from_h there y.1 has)
        | inr gate ↦ elim (embryo_line x.name x.shown x.name_is (subst (λ (n : List ℕ). stands (state_after old).namespace (record { area = area.Embryo; name = n }) ≡ true) (text_back x.name x.shown x.name_is) (subst (λ (p : Area). stands (state_after old).namespace (pod_spot x.shown p) ≡ true) gate.0 stood))) [
          | inl has ↦ inr (says x.shown here place aside y.0 stage place_stage t.listed to_h from_h there y.1 (subst (λ (p : Area). HasLine p x.shown lines) (sym gate.0) has))
          | inr ends ↦ absurd (not_back x.shown here place aside y.0 stage place_stage t.listed to_h from_h there
              (subst (λ (p : Area). stands (state_after new).namespace (pod_spot x.shown p) ≡ true) (sym gate.0) (subst (λ (n : List ℕ). stands (state_after new).namespace (record { area = area.Embryo; name = n }) ≡ true) (sym (text_back x.name x.shown x.name_is)) ends)))
        ]
      ]

  pub gc_came : AllByRecursion (StoodOrWasMoved lines old) lines
  gc_came = each_shown times lines ext quiet m (StoodOrWasMoved lines old) (λ Can can here stage ls a b to_a from_b t line x. told_came here stage ls a b to_a from_b t line x) (λ pod is garbage. cc)
