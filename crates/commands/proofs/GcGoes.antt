-- Where nobody else steps, a pod that a sweep moved has a line of the place to which it was moved.
use Rattle.std.proofs.Common.{◌≡◌, inl, inr, ◌||◌, ◌==◌, ℕ, Bool, true, false, cond, map, Option, Some, is_some, List, [], ◌∷◌, ◌++◌, refl, sym, ap, subst, ◌∙◌}
use Rattle.std.specs.List.{list_any, AllByRecursion}
use Rattle.std.specs.List.Sorted.{IsStrictlySortedBy}
use Rattle.std.specs.Ordering.{nat_cmp}
use Rattle.std.specs.Cmp.Lexicographic.{slice_cmp}
use Rattle.std.proofs.lemmas.Iterator.Adapters.{position_from-zero}
use Rattle.dir_model.specs.declared.area.Area.{Area}
use Rattle.dir_model.specs.declared.area.Area.TheVariants as area
use Rattle.dir_model.specs.declared.event.Event.{Event}
use Rattle.dir_model.specs.declared.pod.PodId.{PodId}
use Rattle.dir_model.specs.declared.spot.Spot.{Spot}
use Rattle.dir_model.specs.declared.request.Request.{Request}
use Rattle.dir_model.specs.declared.request.Request.TheVariants.{MakeFolder, MoveFolder, RemoveFolder}
use Rattle.dir_model.specs.declared.request.Reply.{Reply}
use Rattle.dir_model.specs.declared.request.Reply.TheVariants.{Done}
use Rattle.dir_model.specs.Areas.{rank, is_stage}
use Rattle.dir_model.specs.Calls.{is_kill, Extends}
use Rattle.dir_model.specs.Listings.{has_name}
use Rattle.dir_model.specs.Pods.{pod_of_text}
use Rattle.dir_model.specs.Quiet.{Quiet}
use Rattle.dir_model.specs.State.{DirState, is_at, spot_eq, stands}
use Rattle.dir_model.specs.Trace.{moved, state_after, namespace_replied}
use Rattle.dir_model.proofs.Lists.{and_right, all_both, all_weaker}
use Rattle.lifecycle.specs.Executions.{IsConforming}
use Rattle.lifecycle.proofs.Places.{spot_turn}
use Rattle.dir_model.specs.Spots.{pod_spot}
use Rattle.pod_locks.specs.Work.{Grew}
use Rattle.pod_locks.proofs.Traces.{grown_none, grown_more, grown_by, grown_call}
use Rattle.pod_locks.specs.Causes.{Did}
use Rattle.pod_gc.specs.declared.ages.Times.{Times}
use Rattle.pod_gc.specs.declared.line.Deed.TheVariants.{Moved}
use Rattle.pod_gc.specs.declared.line.GcLine.{GcLine}
use Rattle.pod_gc.specs.Requests.{goes_to, moves_pods, puts_aside_only, sweeps}
use Rattle.pod_gc.specs.Sweeping.{MaySweepAll}
use Rattle.pod_gc.specs.Told.{Knew, deals_with_pods, IsLineOfTurn, TellsShown, PassedOverPods, ArePassed, places}
use Rattle.command_outcomes.specs.Meanwhile.{Meanwhile}
use Rattle.commands.specs.Gc.{SweepsByPasses}
use Rattle.commands.specs.GcLines.{HasLine}
use Rattle.commands.specs.RemovalQuiet.{HasLineWhereMoved}
use Rattle.commands.proofs.OwnSteps.{in_process, forward, same_folders}
use Rattle.commands.proofs.GcQuiet.{shown_grown, passed_grown, passes_grown}
use Rattle.pod_lookup.proofs.Names.{text_back}
use Rattle.commands.proofs.GcTells.{found_from, any_from, stays, and_before, closed, tells_after}
use Rattle.commands.proofs.GcTurn.{quiet_between, later_apart, turn_after, turn_before}
use Rattle.pod_gc.proofs.Onward.{moved_stands}

-- a move brings no folder away from where it goes

any_moved : (spot from to : Spot) (fs : List (Option Spot)) → spot_eq to spot ≡ true → list_any (is_at spot) fs ≡ true → list_any (is_at spot) (map (moved from to) fs) ≡ true
any_moved spot from to [] at any = cc
any_moved spot from to (x ∷ xs) at any = by (is_at from x) (is_at spot x) refl any (λ h. any_moved spot from to xs at h)
  where
    Rest : Bool
    Rest = list_any (is_at spot) (map (moved from to) xs)

    by : (b c : Bool) → is_at spot x ≡ c → (c || list_any (is_at spot) xs) ≡ true → (list_any (is_at spot) xs ≡ true → Rest ≡ true) → (is_at spot (cond b (Some to) x) || Rest) ≡ true
    by true c here h go = ap (λ d. d || Rest) at
    by false true here h go = ap (λ d. d || Rest) here
    by false false here h go = ap (λ d. d || Rest) here ∙ go h

moved_stays : (s : DirState) (spot from to : Spot) (me : ℕ) → spot_eq to spot ≡ true → stands s.namespace spot ≡ true → stands (namespace_replied s.namespace me (MoveFolder from to) Done) spot ≡ true
moved_stays s spot from to me at there =
    let fs = s.namespace.folders in
    let any = any_from (is_at spot) 0 fs (sym (ap (λ (o : Option ℕ). is_some o) (position_from-zero (is_at spot) fs)) ∙ there) in
    let gs = map (moved from to) fs in
    ap (λ (o : Option ℕ). is_some o) (position_from-zero (is_at spot) gs) ∙ found_from (is_at spot) 0 gs (any_moved spot from to fs at any)

-- nor does what else moves the pod
pub on_leaves : (pod : PodId) (here to : Area) (me : ℕ) (s : DirState) (request : Request) (reply : Reply) → (is_kill request || puts_aside_only pod here to request) ≡ true → stands s.namespace (pod_spot pod to) ≡ true → stands (namespace_replied s.namespace me request reply) (pod_spot pod to) ≡ true
on_leaves pod here to me s (MakeFolder new) reply h there = cc
on_leaves pod here to me s (MoveFolder a b) Done h there = moved_stays s (pod_spot pod to) a b me (spot_turn (pod_spot pod to) b (and_right (spot_eq (pod_spot pod here) a) (spot_eq (pod_spot pod to) b) h)) there
on_leaves pod here to me s (MoveFolder a b) reply h there = there
on_leaves pod here to me s (RemoveFolder gone) reply h there = cc
on_leaves pod here to me s request reply h there = ap (λ (fs : List (Option Spot)). stands (record s.namespace { folders = fs }) (pod_spot pod to)) (same_folders me s.namespace request reply refl (λ handle. refl)) ∙ there

-- and so until the end of the pass
module _ {Can : Type 0} {times : Times} {here : Area} {ls : List GcLine} {me : ℕ} {old a b new : List Event} (stage : is_stage here ≡ true) (quiet : Quiet me old new) (to_a : Grew old a) (from_b : Grew b new) (t : TellsShown Can times here ls me a b) {line : GcLine} (x : IsLineOfTurn Can times here t.names line me t.listed b) (to : Area) (deed : line.deed ≡ Moved to) where
  abbrev there_spot : Spot
  there_spot = pod_spot x.shown to

  turn : Extends (puts_aside_only x.shown here to) me x.from x.upto
  turn = x.dealt.let_be.moved to deed

  did : Did (MoveFolder (pod_spot x.shown here) there_spot) Done me x.from x.upto
  did = (x.dealt.cause.moved to deed).2

  first : Grew old x.from
  first = turn_after stage quiet to_a from_b t x

  pub stands_upto : Grew x.upto new → stands (state_after x.upto).namespace there_spot ≡ true
  stands_upto rest =
      forward (λ s. stands s.namespace there_spot ≡ true) (puts_aside_only x.shown here to) me (λ s request reply h q. on_leaves x.shown here to me s request reply h q) did.each.1
      (grown_more did.each.2 (grown_call did.each.3)) did.each.4 turn (quiet_between quiet first (grown_by turn) rest) (moved_stands me (pod_spot x.shown here) there_spot did.each.0 did.each.1 did.each.3)

  pub stands_on : stands (state_after b).namespace there_spot ≡ true
  stands_on =
      let sorted = subst (λ (ns : List (List ℕ)). IsStrictlySortedBy (slice_cmp nat_cmp) ns) x.names_are t.ordered in
      let unshown = subst (λ (n : List ℕ). has_name x.later n ≡ false) (sym (text_back x.name x.shown x.name_is)) (later_apart x.earlier x.name x.later sorted) in
      forward (λ s. stands s.namespace there_spot ≡ true) (deals_with_pods times.now here x.later) me (λ s request reply h q. stays times.now here stage x.later there_spot unshown me s request reply h q) x.upto
      grown_none (grown_by x.last) x.last (quiet_between quiet (grown_more first (grown_by turn)) (grown_by x.last) from_b) (stands_upto (turn_before stage quiet to_a from_b t x))

goes_stage : (here : Area) → is_stage (goes_to here) ≡ true
goes_stage area.Run = refl
goes_stage here = refl

goes_apart : (here : Area) {X : Type 0} → goes_to here ≡ area.Embryo → X
goes_apart area.Run is = cc
goes_apart here is = cc

-- the place is among those of later passes, and those before it are others
pub record LiesAhead (to : Area) (ps : List Area) : Type 0 where
  pub skipped : List Area
  pub rest : List Area
  pub are : ps ≡ skipped ++ to ∷ rest
  pub others : AllByRecursion (λ (y : Area). (is_stage y ≡ true) × ((rank to == rank y) ≡ false)) skipped

abbrev AllLieAhead : List Area → Type 0
AllLieAhead [] = Unit {0}
AllLieAhead (here ∷ ps) = (is_stage here ≡ true) × (moves_pods here ≡ true → LiesAhead (goes_to here) ps) × AllLieAhead ps

module _ (Can : Type 0) (times : Times) (me : ℕ) (old new : List Event) (quiet : Quiet me old new) (conforming : IsConforming new) (lines : List GcLine) where
  -- what stands at this moment where this pass moves it has a line there
  abbrev HasItsLine : Area → List Event → Type 0
  HasItsLine here b = moves_pods here ≡ true → (name : List ℕ) (pod : PodId) → pod_of_text name ≡ Some pod → stands (state_after b).namespace (record { area = goes_to here; name = name }) ≡ true → HasLine (goes_to here) pod lines

  told_goes : (here : Area) → is_stage here ≡ true → (ls : List GcLine) (a b : List Event) → Grew old a → Grew b new → (t : TellsShown Can times here ls me a b) → HasItsLine here b → (line : GcLine) → IsLineOfTurn Can times here t.names line me t.listed b → HasLineWhereMoved lines line
  told_goes here stage ls a b to_a from_b t its line x pod to is deed =
      let same : x.shown ≡ pod = let e : Some x.shown ≡ Some pod = sym x.pod_is ∙ is in cc in
      let c = x.dealt.cause.moved to deed in
      let there = stands_on stage quiet to_a from_b t x to deed in
      let named = subst (λ (n : List ℕ). stands (state_after b).namespace (record { area = to; name = n }) ≡ true) (text_back x.name x.shown x.name_is) there in
      let has = its c.0 x.name x.shown x.name_is (subst (λ (p : Area). stands (state_after b).namespace (record { area = p; name = x.name }) ≡ true) c.1 named) in
      subst (λ (p : Area). HasLine p pod lines) (sym c.1) (subst (λ (q : PodId). HasLine (goes_to here) q lines) same has)

  shown_goes : (here : Area) → is_stage here ≡ true → (ls : List GcLine) (a b : List Event) → Grew old a → Grew b new → TellsShown Can times here ls me a b → HasItsLine here b → AllByRecursion (HasLineWhereMoved lines) ls
  shown_goes here stage ls a b to_a from_b t its = all_weaker (λ l. IsLineOfTurn Can times here t.names l me t.listed b) (HasLineWhereMoved lines) (λ l x. told_goes here stage ls a b to_a from_b t its l x) ls t.tells.each

  passed_goes : (here : Area) → is_stage here ≡ true → (ls : List GcLine) (a b : List Event) → Grew old a → Grew b new → PassedOverPods Can times here ls me a b → HasItsLine here b → AllByRecursion (HasLineWhereMoved lines) ls
  passed_goes area.Embryo stage ls a b to_a from_b (inl g) its =
      let to_locked = grown_more to_a (grown_by g.takes_gate) in
      shown_goes area.Embryo stage ls g.locked g.done to_locked (grown_more (grown_by g.gives_back) from_b) g.tells
      (λ moves name pod is there. its moves name pod is (closed Can times me old new quiet conforming name pod is area.Garbage refl g.gate g.done b g.gives_back (grown_more to_locked (shown_grown g.tells)) from_b there))
  passed_goes area.Embryo stage ls a b to_a from_b (inr w) its = subst (λ (l : List GcLine). AllByRecursion (HasLineWhereMoved lines) l) (sym w.line_is) (λ pod to is deed. cc, tt)
  passed_goes here stage ls a b to_a from_b t its = shown_goes here stage ls a b to_a from_b t its

  pub passes_go : (ps : List Area) → AllLieAhead ps → (ls : List GcLine) (a b : List Event) → Grew old a → Grew b new → ArePassed Can times ps ls me a b → ((place : Area) (pod : PodId) → HasLine place pod ls → HasLine place pod lines) → AllByRecursion (HasLineWhereMoved lines) ls
  passes_go [] ahead ls a b to_a from_b x whole = subst (λ (l : List GcLine). AllByRecursion (HasLineWhereMoved lines) l) (sym x.0) tt
  passes_go (here ∷ ps) ahead ls a b to_a from_b x whole =
      let rest = passes_grown Can times ps x.others me x.between b x.rest in
      let to_between = grown_more to_a (passed_grown Can times here x.own me a x.between x.first) in
      let more : (place : Area) (pod : PodId) → HasLine place pod x.others → HasLine place pod lines =
      λ place pod has. whole place pod (subst (λ (l : List GcLine). HasLine place pod l) (sym x.lines_are) (and_before place pod x.own x.others has)) in
      let its : HasItsLine here x.between =
      λ moves name pod is there. let y = ahead.1 moves in
      elim (tells_after Can times me old new quiet conforming name pod is (goes_to here) (goes_stage here) y.skipped y.rest x.others x.between b y.others
      (subst (λ (qs : List Area). ArePassed Can times qs x.others me x.between b) y.are x.rest) to_between from_b there) [
        | inl has ↦ more (goes_to here) pod has
        | inr gate ↦ goes_apart here gate.0
      ] in
      subst (λ (l : List GcLine). AllByRecursion (HasLineWhereMoved lines) l) (sym x.lines_are)
      (all_both (HasLineWhereMoved lines) x.own x.others (passed_goes here ahead.0 x.own a x.between to_a (grown_more rest from_b) x.first its) (passes_go ps ahead.2 x.others x.between b to_between from_b x.rest more))

all_ahead : AllLieAhead places
all_ahead =
    let r : (true ≡ true) × (false ≡ false) = (refl, refl) in
    let garbage : AllLieAhead (area.Garbage ∷ []) = (refl, λ moves. cc, tt) in
    let exited : AllLieAhead (area.ExitedGarbage ∷ area.Garbage ∷ []) = (refl, λ moves. cc, garbage) in
    let run : AllLieAhead (area.Run ∷ area.ExitedGarbage ∷ area.Garbage ∷ []) = (refl, λ moves. record { skipped = []; rest = area.Garbage ∷ []; are = refl; others = tt }, exited) in
    let prepared : AllLieAhead (area.Prepared ∷ area.Run ∷ area.ExitedGarbage ∷ area.Garbage ∷ []) = (refl, λ moves. record { skipped = area.Run ∷ area.ExitedGarbage ∷ []; rest = []; are = refl; others = (r, (r, tt)) }, run) in
    let prepare : AllLieAhead (area.Prepare ∷ area.Prepared ∷ area.Run ∷ area.ExitedGarbage ∷ area.Garbage ∷ []) = (refl, λ moves. record { skipped = area.Prepared ∷ area.Run ∷ area.ExitedGarbage ∷ []; rest = []; are = refl; others = (r, (r, (r, tt))) }, prepared) in
    (refl, λ moves. record { skipped = area.Prepare ∷ area.Prepared ∷ area.Run ∷ area.ExitedGarbage ∷ []; rest = []; are = refl; others = (r, (r, (r, (r, tt)))) }, prepare)

module _ (times : Times) (lines : List GcLine) {me : ℕ} {old new : List Event} (ext : Extends (in_process (sweeps times.now)) me old new) (quiet : Quiet me old new) (m : Meanwhile (SweepsByPasses times lines) me old new) (conforming : IsConforming new) where
  pub gc_goes : AllByRecursion (HasLineWhereMoved lines) lines
  gc_goes =
      passes_go (Knew (MaySweepAll times.now times.expire) m.so.from) times me old new quiet conforming lines places all_ahead lines m.begun m.ended (record { more = m.begins.more; grown = m.begins.grown }) (record { more = m.finishes.more; grown = m.finishes.grown }) m.so.swept
      (λ place pod has. has)
