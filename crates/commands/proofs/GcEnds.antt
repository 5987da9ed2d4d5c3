-- Where nobody else steps, a pod that a sweep neither moved nor deleted stands where it was.
use Rattle.std.proofs.Common.{◌≡◌, inl, inr, ℕ, true, false, ◌||◌, ◌==◌, Option, Some, List, [], ◌∷◌, refl, sym, ap, subst, ◌∙◌}
use Rattle.std.specs.List.{AllByRecursion}
use Rattle.dir_model.specs.declared.area.Area.{Area}
use Rattle.dir_model.specs.declared.area.Area.TheVariants as area
use Rattle.dir_model.specs.declared.event.Event.{Event}
use Rattle.dir_model.specs.declared.pod.PodId.{PodId}
use Rattle.dir_model.specs.declared.spot.Spot.{Spot}
use Rattle.dir_model.specs.declared.request.Request.{Request}
use Rattle.dir_model.specs.declared.request.Request.TheVariants.{MakeFolder, MoveFolder, RemoveFolder}
use Rattle.dir_model.specs.declared.request.Reply.{Reply}
use Rattle.dir_model.specs.Areas.{rank, is_stage}
use Rattle.dir_model.specs.Calls.{is_kill, is_finish, Extends}
use Rattle.dir_model.specs.Pods.{pod_of_text}
use Rattle.dir_model.specs.Quiet.{Quiet}
use Rattle.dir_model.specs.State.{DirState, stands}
use Rattle.dir_model.specs.Trace.{state_after, namespace_replied}
use Rattle.dir_model.proofs.Lists.{all_both, all_weaker}
use Rattle.lifecycle.specs.Executions.{IsConforming}
use Rattle.dir_model.specs.Spots.{pod_spot}
use Rattle.pod_locks.specs.Work.{Grew}
use Rattle.pod_locks.proofs.Traces.{grown_none, grown_more, grown_by}
use Rattle.pod_locks.specs.Taking.{TookNothing}
use Rattle.pod_gc.specs.declared.ages.Times.{Times}
use Rattle.pod_gc.specs.declared.line.Deed.{Deed}
use Rattle.pod_gc.specs.declared.line.Deed.TheVariants.{Kept, Busy, Left}
use Rattle.pod_gc.specs.declared.line.GcLine.{GcLine}
use Rattle.pod_gc.specs.Requests.{looks_over, sweeps}
use Rattle.pod_gc.specs.Deeds.{is_let_be}
use Rattle.pod_gc.specs.Sweeping.{MaySweepAll}
use Rattle.pod_gc.specs.Told.{Knew, IsLineOfTurn, TellsShown, PassedOverPods, ArePassed, places}
use Rattle.command_outcomes.specs.Meanwhile.{Meanwhile}
use Rattle.commands.specs.Gc.{SweepsByPasses}
use Rattle.commands.specs.RemovalQuiet.{leaves_there, StandsAfter}
use Rattle.commands.proofs.OwnSteps.{in_process, quiet_part, forward, same_folders}
use Rattle.commands.proofs.LateTurns.{sweeps_late}
use Rattle.commands.proofs.GcQuiet.{shown_grown, passed_grown, passes_grown}
use Rattle.pod_lookup.proofs.Names.{text_back}
use Rattle.commands.proofs.GcTells.{passes_over, closed}
use Rattle.commands.proofs.GcTurn.{quiet_between, turn_after, turn_before, stood_until, stood_since, untaken_through}

-- requests that leave each folder where it is
looks_leave : (pod : PodId) (here : Area) (spot : Spot) (me : ℕ) (s : DirState) (request : Request) (reply : Reply) → (is_kill request || looks_over pod here request) ≡ true → stands s.namespace spot ≡ true → stands (namespace_replied s.namespace me request reply) spot ≡ true
looks_leave pod here spot me s (MakeFolder new) reply h there = cc
looks_leave pod here spot me s (MoveFolder from to) reply h there = cc
looks_leave pod here spot me s (RemoveFolder gone) reply h there = cc
looks_leave pod here spot me s request reply h there = ap (λ (fs : List (Option Spot)). stands (record s.namespace { folders = fs }) spot) (same_folders me s.namespace request reply refl (λ handle. refl)) ∙ there

finish_leaves : (spot : Spot) (me : ℕ) (s : DirState) (request : Request) (reply : Reply) → (is_kill request || is_finish request) ≡ true → stands s.namespace spot ≡ true → stands (namespace_replied s.namespace me request reply) spot ≡ true
finish_leaves spot me s (MakeFolder new) reply h there = cc
finish_leaves spot me s (MoveFolder from to) reply h there = cc
finish_leaves spot me s (RemoveFolder gone) reply h there = cc
finish_leaves spot me s request reply h there = ap (λ (fs : List (Option Spot)). stands (record s.namespace { folders = fs }) spot) (same_folders me s.namespace request reply refl (λ handle. refl)) ∙ there

-- the places are different ones
abbrev Differ : List Area → Type 0
Differ [] = Unit {0}
Differ (here ∷ ps) = (is_stage here ≡ true) × AllByRecursion (λ (y : Area). (is_stage y ≡ true) × ((rank here == rank y) ≡ false)) ps × Differ ps

-- what stands at this place at one moment stands there at another
abbrev pub Keeps : Area → List Event → List Event → Type 0
Keeps here b c = (name : List ℕ) (pod : PodId) → pod_of_text name ≡ Some pod → stands (state_after b).namespace (record { area = here; name = name }) ≡ true → stands (state_after c).namespace (record { area = here; name = name }) ≡ true

module _ (times : Times) {me : ℕ} {old new : List Event} (ext : Extends (in_process (sweeps times.now)) me old new) (quiet : Quiet me old new) where
  -- to the end of its pass
  module _ {Can : Type 0} (here : Area) (stage : is_stage here ≡ true) (ls : List GcLine) (a b : List Event) (to_a : Grew old a) (from_b : Grew b new) (t : TellsShown Can times here ls me a b) (line : GcLine) (x : IsLineOfTurn Can times here t.names line me t.listed b) where
    abbrev spot : Spot
    spot = pod_spot x.shown here

    first : Grew old x.from
    first = turn_after stage quiet to_a from_b t x

    last : Grew x.upto new
    last = turn_before stage quiet to_a from_b t x

    over_turn : (turn : Grew x.from x.upto) → (stands (state_after x.from).namespace spot ≡ true → stands (state_after x.upto).namespace spot ≡ true) → stands (state_after b).namespace spot ≡ true
    over_turn turn keeps = stood_since stage quiet to_a from_b t x turn (keeps (stood_until stage quiet to_a from_b t x (grown_more turn last)))

    by_looks : Extends (looks_over x.shown here) me x.from x.upto → stands (state_after b).namespace spot ≡ true
    by_looks e =
        over_turn (grown_by e) (λ there. forward (λ s. stands s.namespace spot ≡ true) (looks_over x.shown here) me (λ s request reply h q. looks_leave x.shown here spot me s request reply h q) x.from
        grown_none (grown_by e) e (quiet_between quiet first (grown_by e) last) there)

    by_took : TookNothing me x.from x.upto → stands (state_after b).namespace spot ≡ true
    by_took took = over_turn (record { more = took.more; grown = took.grown }) (λ there. untaken_through (sweeps times.now) (sweeps_late times.now) spot me ext quiet first last took there)

    pub pass_leaves : leaves_there line.deed ≡ true → stands (state_after b).namespace spot ≡ true
    pass_leaves there = by line.deed refl there
      where
        by : (d : Deed) → line.deed ≡ d → leaves_there d ≡ true → stands (state_after b).namespace spot ≡ true
        by (Kept p) is there = by_looks (x.dealt.let_be.still (ap is_let_be is))
        by (Busy which) is there = by_looks (x.dealt.let_be.still (ap is_let_be is))
        by Left is there = by_took (x.dealt.let_be.left is)
        by d is there = cc

  -- and over the passes that follow
  module _ (Can : Type 0) (conforming : IsConforming new) where
    pub later_leaves : (name : List ℕ) (pod : PodId) (its : pod_of_text name ≡ Some pod) (place : Area) (stage : is_stage place ≡ true) (ps : List Area) → AllByRecursion (λ (y : Area). (is_stage y ≡ true) × ((rank place == rank y) ≡ false)) ps → (ls : List GcLine) (a b : List Event) → Grew old a → Grew b new
        → ArePassed Can times ps ls me a b → stands (state_after a).namespace (record { area = place; name = name }) ≡ true → stands (state_after b).namespace (record { area = place; name = name }) ≡ true
    later_leaves name pod its place stage [] apart ls a b to_a from_b x there = subst (λ (h : List Event). stands (state_after h).namespace (record { area = place; name = name }) ≡ true) (sym x.1) there
    later_leaves name pod its place stage (here ∷ ps) apart ls a b to_a from_b x there =
        let rest = passes_grown Can times ps x.others me x.between b x.rest in
        let own = passed_grown Can times here x.own me a x.between x.first in
        later_leaves name pod its place stage ps apart.1 x.others x.between b (grown_more to_a own) from_b x.rest
        (passes_over Can times me old new quiet conforming name pod its place stage here x.own a x.between apart.0.0 apart.0.1 x.first to_a (grown_more rest from_b) there)

    shown_leaves : (here : Area) → is_stage here ≡ true → (ls : List GcLine) (a b : List Event) → Grew old a → Grew b new → TellsShown Can times here ls me a b → Keeps here b new → AllByRecursion (StandsAfter new) ls
    shown_leaves here stage ls a b to_a from_b t keeps = all_weaker (λ l. IsLineOfTurn Can times here t.names l me t.listed b) (StandsAfter new) told ls t.tells.each
      where
        told : (line : GcLine) → IsLineOfTurn Can times here t.names line me t.listed b → StandsAfter new line
        told line x pod is leaves =
            let same : x.shown ≡ pod = let e : Some x.shown ≡ Some pod = sym x.pod_is ∙ is in cc in
            let back = text_back x.name x.shown x.name_is in
            let there = subst (λ (n : List ℕ). stands (state_after b).namespace (record { area = here; name = n }) ≡ true) back (pass_leaves here stage ls a b to_a from_b t line x leaves) in
            let ends = subst (λ (n : List ℕ). stands (state_after new).namespace (record { area = here; name = n }) ≡ true) (sym back) (keeps x.name x.shown x.name_is there) in
            subst (λ (p : Area). stands (state_after new).namespace (pod_spot pod p) ≡ true) (sym x.place_is) (subst (λ (q : PodId). stands (state_after new).namespace (pod_spot q here) ≡ true) same ends)

    passed_leaves : (here : Area) → is_stage here ≡ true → (ls : List GcLine) (a b : List Event) → Grew old a → Grew b new → PassedOverPods Can times here ls me a b → Keeps here b new → AllByRecursion (StandsAfter new) ls
    passed_leaves area.Embryo stage ls a b to_a from_b (inl g) keeps =
        let to_locked = grown_more to_a (grown_by g.takes_gate) in
        shown_leaves area.Embryo stage ls g.locked g.done to_locked (grown_more (grown_by g.gives_back) from_b) g.tells
        (λ name pod its there. keeps name pod its (closed Can times me old new quiet conforming name pod its area.Embryo refl g.gate g.done b g.gives_back (grown_more to_locked (shown_grown g.tells)) from_b there))
    passed_leaves area.Embryo stage ls a b to_a from_b (inr w) keeps = subst (λ (l : List GcLine). AllByRecursion (StandsAfter new) l) (sym w.line_is) (λ pod is leaves. cc, tt)
    passed_leaves here stage ls a b to_a from_b t keeps = shown_leaves here stage ls a b to_a from_b t keeps

    pub passes_leave : (ps : List Area) → Differ ps → (ls : List GcLine) (a b : List Event) → Grew old a → Grew b new → ArePassed Can times ps ls me a b → ((here : Area) → Keeps here b new) → AllByRecursion (StandsAfter new) ls
    passes_leave [] differ ls a b to_a from_b x keeps = subst (λ (l : List GcLine). AllByRecursion (StandsAfter new) l) (sym x.0) tt
    passes_leave (here ∷ ps) differ ls a b to_a from_b x keeps =
        let rest = passes_grown Can times ps x.others me x.between b x.rest in
        let to_between = grown_more to_a (passed_grown Can times here x.own me a x.between x.first) in
        let own = passed_leaves here differ.0 x.own a x.between to_a (grown_more rest from_b) x.first (λ name pod its there. keeps here name pod its (later_leaves name pod its here differ.0 ps differ.1 x.others x.between b to_between from_b x.rest there)) in
        subst (λ (l : List GcLine). AllByRecursion (StandsAfter new) l) (sym x.lines_are) (all_both (StandsAfter new) x.own x.others own (passes_leave ps differ.2 x.others x.between b to_between from_b x.rest keeps))

module _ (times : Times) (lines : List GcLine) {me : ℕ} {old new : List Event} (ext : Extends (in_process (sweeps times.now)) me old new) (quiet : Quiet me old new) (m : Meanwhile (SweepsByPasses times lines) me old new) (conforming : IsConforming new) where
  before : Grew old m.begun
  before = record { more = m.begins.more; grown = m.begins.grown }

  after : Grew m.ended new
  after = record { more = m.finishes.more; grown = m.finishes.grown }

  swept : Grew m.begun m.ended
  swept = passes_grown (Knew (MaySweepAll times.now times.expire) m.so.from) times places lines me m.begun m.ended m.so.swept

  pub finished : (here : Area) → Keeps here m.ended new
  finished here name pod its there =
      let last : Grew m.ended new = record { more = m.finishes.more; grown = m.finishes.grown } in
      forward (λ s. stands s.namespace (record { area = here; name = name }) ≡ true) is_finish me (λ s request reply h q. finish_leaves (record { area = here; name = name }) me s request reply h q) m.ended grown_none last m.finishes
      (quiet_part quiet (grown_more before swept) last) there

  pub gc_stays : AllByRecursion (StandsAfter new) lines
  gc_stays =
      let r : (true ≡ true) × (false ≡ false) = (refl, refl) in
      passes_leave times ext quiet (Knew (MaySweepAll times.now times.expire) m.so.from) conforming places
      (refl, (r, (r, (r, (r, (r, tt))))), (refl, (r, (r, (r, (r, tt)))), (refl, (r, (r, (r, tt))), (refl, (r, (r, tt)), (refl, (r, tt), (refl, tt, tt)))))) lines m.begun m.ended before after m.so.swept finished
