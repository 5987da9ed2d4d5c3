-- Where nobody else steps, the lines of a sweep are those that the state before asks for.
use Rattle.std.proofs.Common.{◌≡◌, ◌≤◌, inl, inr, ℕ, Bool, true, false, not, ◌==◌, ◌&&◌, ◌||◌, cond, find, Option, Some, None, List, [], ◌∷◌, ◌++◌, refl, sym, ap, subst, ◌∙◌}
use Rattle.std.specs.List.{list_any, AllByRecursion}
use Rattle.dir_model.specs.declared.area.Area.{Area}
use Rattle.dir_model.specs.declared.area.Area.TheVariants as area
use Rattle.dir_model.specs.declared.event.Event.{Event}
use Rattle.dir_model.specs.declared.pod.PodId.{PodId}
use Rattle.dir_model.specs.declared.spot.Mode.TheVariants.{Exclusive}
use Rattle.dir_model.specs.Areas.{rank, is_stage}
use Rattle.dir_model.specs.Calls.{Extends}
use Rattle.dir_model.specs.Pods.{pod_of_text}
use Rattle.dir_model.specs.Quiet.{Quiet}
use Rattle.dir_model.specs.State.{DirState, stands}
use Rattle.dir_model.specs.Trace.{state_after}
use Rattle.dir_model.proofs.Lists.{and_left, and_right, and_both, or_last, all_left, all_right, all_both, all_weaker, same_self}
use Rattle.dir_rules.specs.Standing.{is_in}
use Rattle.dir_files.specs.AreaLocks.{is_against}
use Rattle.lifecycle.specs.Executions.{IsConforming}
use Rattle.lifecycle.proofs.Draws.{conforming_left}
use Rattle.lifecycle.proofs.Stays.{one_folder}
use Rattle.dir_model.specs.Spots.{pod_spot}
use Rattle.pod_locks.specs.Work.{Grew}
use Rattle.pod_locks.proofs.Times.{at_part}
use Rattle.pod_locks.proofs.Traces.{grown_none, grown_more, grown_by}
use Rattle.pod_gc.specs.RemovalRequests.{is_garbage_place}
use Rattle.pod_gc.specs.declared.ages.Times.{Times}
use Rattle.pod_gc.specs.declared.line.Deed.{Deed}
use Rattle.pod_gc.specs.declared.line.Deed.TheVariants.{Moved, Deleted, Kept, Busy, BusyGate, Left}
use Rattle.pod_gc.specs.declared.line.GcLine.{GcLine}
use Rattle.pod_gc.specs.Requests.{goes_to, moves_pods, sweeps}
use Rattle.pod_gc.specs.Sweeping.{MaySweepAll}
use Rattle.pod_gc.specs.Told.{Knew, IsLineOfTurn, TellsShown, UnderGate, WasGated, PassedOverPods, ArePassed, places}
use Rattle.command_outcomes.specs.Meanwhile.{Meanwhile}
use Rattle.commands.specs.Gc.{SweepsByPasses}
use Rattle.commands.specs.RemovalQuiet.{may_say, SaysFitting, StoodAsBefore, MovedAsBefore, StoodOrWasMoved, HasLineWhereMoved, MovedFrom, ByTableMoved}
use Rattle.commands.specs.RemovalTable.{deed_at, deed_when_moved, ByTable}
use Rattle.commands.specs.GcLines.{HasLine, is_embryo_held, is_move_to, moves_there, deed_after_move, deed_in_pass, IsPassLine, AreGcPassLines, GatedOr, IsGcPassOf, ArePassesOf, IsSweepOf, AreTheGcLines}
use Rattle.commands.proofs.OwnSteps.{in_process, at_process, held_before}
use Rattle.commands.proofs.Openings.{free_before}
use Rattle.commands.proofs.GcQuiet.{passed_grown, passes_grown, gc_moved}
use Rattle.commands.proofs.GcTells.{gc_tells}
use Rattle.commands.proofs.GcStood.{gc_stood}
use Rattle.commands.proofs.GcFits.{gc_fits}
use Rattle.commands.proofs.GcCame.{gc_came}
use Rattle.commands.proofs.GcGoes.{gc_goes}
use Rattle.commands.proofs.GcTable.{gc_table}
use Rattle.commands.proofs.GcMovedOn.{gc_moved_on}
use Rattle.commands.proofs.GcOnly.{only_sweep}
use Rattle.commands.proofs.GcLines.{all_zip, find_only, found_in, same_place, line_in_part, of_line, passed_place, subjects_ascend}

-- places

-- where nothing is moved from, a line is of a garbage place
says_garbage : (place : Area) (deed : Deed) → may_say place deed ≡ true → moves_pods place ≡ false → is_garbage_place place ≡ true
says_garbage area.ExitedGarbage deed says stays = refl
says_garbage area.Garbage deed says stays = refl
says_garbage area.Embryo deed says stays = cc
says_garbage area.Prepare deed says stays = cc
says_garbage area.Prepared deed says stays = cc
says_garbage area.Run deed says stays = cc
says_garbage place (Moved to) says stays = cc
says_garbage place Deleted says stays = cc
says_garbage place (Kept phase) says stays = cc
says_garbage place (Busy which) says stays = cc
says_garbage place BusyGate says stays = cc
says_garbage place Left says stays = cc

moves_from_place : (t : Area → Bool) (from : Area) → moves_pods from ≡ true → t from ≡ true → list_any t places ≡ true
moves_from_place t area.Embryo moves is = ap (λ b. b || list_any t (area.Prepare ∷ area.Prepared ∷ area.Run ∷ area.ExitedGarbage ∷ area.Garbage ∷ [])) is
moves_from_place t area.Prepare moves is = or_last (t area.Embryo) _ (ap (λ b. b || list_any t (area.Prepared ∷ area.Run ∷ area.ExitedGarbage ∷ area.Garbage ∷ [])) is)
moves_from_place t area.Prepared moves is = or_last (t area.Embryo) _ (or_last (t area.Prepare) _ (ap (λ b. b || list_any t (area.Run ∷ area.ExitedGarbage ∷ area.Garbage ∷ [])) is))
moves_from_place t area.Run moves is = or_last (t area.Embryo) _ (or_last (t area.Prepare) _ (or_last (t area.Prepared) _ (ap (λ b. b || list_any t (area.ExitedGarbage ∷ area.Garbage ∷ [])) is)))
moves_from_place t from moves is = cc

moved_to : (to : Area) (deed : Deed) → is_move_to to deed ≡ true → deed ≡ Moved to
moved_to to (Moved there) is = ap (λ (a : Area). Moved a) (sym (same_place to there is))
moved_to to deed is = cc

abbrev All : (Area → Type 0) → Type 0
All P = AllByRecursion P places

-- each is a place of pods
each_place : (P : Area → Type 0) → ((a : Area) → is_stage a ≡ true → P a) → All P
each_place P f = (f area.Embryo refl, (f area.Prepare refl, (f area.Prepared refl, (f area.Run refl, (f area.ExitedGarbage refl, (f area.Garbage refl, tt))))))

-- none of these is among those that come after
abbrev AreApart : List Area → Type 0
AreApart [] = Unit {0}
AreApart (here ∷ ps) = (list_any (is_in here) ps ≡ false) × AreApart ps

module _ (times : Times) (lines : List GcLine) {me : ℕ} {old new : List Event} (ext : Extends (in_process (sweeps times.now)) me old new) (quiet : Quiet me old new) (m : Meanwhile (SweepsByPasses times lines) me old new) (conforming : IsConforming new) (small : times.now ≤ 18446744073709551615) where
  abbrev s : DirState
  s = state_after old

  abbrev Can : Type 0
  Can = Knew (MaySweepAll times.now times.expire) m.so.from

  before : IsConforming old
  before = conforming_left old quiet.more (subst IsConforming quiet.grown conforming)

  -- the lock of embryo

  gate_held : (ls : List GcLine) (b : List Event) → Grew b m.ended → WasGated Can ls me m.begun b → is_embryo_held me s ≡ true
  gate_held ls b more w = held_before (is_against area.Embryo Exclusive) (at_process m.begins m.finishes (at_part grown_none refl more (w.another m.so.can))) ext quiet

  gate_free : (ls : List GcLine) (b : List Event) → Grew b m.ended → UnderGate Can times ls me m.begun b → is_embryo_held me s ≡ false
  gate_free ls b more g =
      let rest = passed_grown Can times area.Embryo ls me m.begun b (inl g) in
      let last : Grew g.locked m.ended = grown_more (under_rest ls b g) more in
      free_before (is_against area.Embryo Exclusive) (at_process m.begins m.finishes (at_part grown_none refl last g.free)) ext quiet
    where
      under_rest : (ls : List GcLine) (b : List Event) → (g : UnderGate Can times ls me m.begun b) → Grew g.locked b
      under_rest ls b g = grown_more (grown_more (grown_by g.tells.only_lists) (grown_by g.tells.tells.only)) (grown_by g.gives_back)

  abbrev later : List Area
  later = area.Prepare ∷ area.Prepared ∷ area.Run ∷ area.ExitedGarbage ∷ area.Garbage ∷ []

  -- the lines of passes are of their places
  passes_place : (ps : List Area) (ls : List GcLine) (a b : List Event) → ArePassed Can times ps ls me a b → AllByRecursion (λ (l : GcLine). list_any (is_in l.place) ps ≡ true) ls
  passes_place [] ls a b x = subst (λ (l : List GcLine). AllByRecursion (λ (y : GcLine). list_any (is_in y.place) [] ≡ true) l) (sym x.0) tt
  passes_place (here ∷ ps) ls a b x =
      subst (λ (l : List GcLine). AllByRecursion (λ (y : GcLine). list_any (is_in y.place) (here ∷ ps) ≡ true) l) (sym x.lines_are)
      (all_both (λ (y : GcLine). list_any (is_in y.place) (here ∷ ps) ≡ true) x.own x.others
      (all_weaker (λ (l : GcLine). l.place ≡ here) (λ (y : GcLine). list_any (is_in y.place) (here ∷ ps) ≡ true) (λ y at. ap (λ b. b || list_any (is_in y.place) ps) (ap (λ (a : Area). is_in a here) at ∙ same_self (rank here))) x.own (passed_place Can times here x.own me a x.between x.first))
      (all_weaker (λ (l : GcLine). list_any (is_in l.place) ps ≡ true) (λ (y : GcLine). list_any (is_in y.place) (here ∷ ps) ≡ true) (λ y at. or_last (is_in y.place here) (list_any (is_in y.place) ps) at) x.others (passes_place ps x.others x.between b x.rest)))

  -- where a pod in embryo has a line, that lock was free
  line_free : (pod : PodId) → HasLine area.Embryo pod lines → is_embryo_held me s ≡ false
  line_free pod has = by m.so.swept.own m.so.swept.others m.so.swept.between m.so.swept.lines_are m.so.swept.first m.so.swept.rest
    where
      alone : HasLine area.Embryo pod (record { place = area.Embryo; pod = None; deed = BusyGate } ∷ []) → is_embryo_held me s ≡ false
      alone y = let none : Some pod ≡ None = sym y.pod_is ∙ (of_line (λ (l : GcLine). l.pod ≡ None) y (refl, tt)) in cc

      elsewhere : (place : Area) → list_any (is_in place) later ≡ true → place ≡ area.Embryo → is_embryo_held me s ≡ false
      elsewhere place among is = let clash : true ≡ false = sym among ∙ ap (λ (a : Area). list_any (is_in a) later) is in cc

      by : (own others : List GcLine) (b : List Event) → lines ≡ own ++ others → PassedOverPods Can times area.Embryo own me m.begun b → ArePassed Can times later others me b m.ended → is_embryo_held me s ≡ false
      by own others b are (inl g) x = gate_free own b (passes_grown Can times later others me b m.ended x) g
      by own others b are (inr w) x = elim (line_in_part area.Embryo pod own others (subst (λ (l : List GcLine). HasLine area.Embryo pod l) are has)) [
        | inl y ↦ alone (subst (λ (l : List GcLine). HasLine area.Embryo pod l) w.line_is y)
        | inr y ↦ elsewhere y.line.place (of_line (λ (l : GcLine). list_any (is_in l.place) later ≡ true) y (passes_place later others b m.ended x)) y.place_is
      ]

  -- each line says what the state before asks for

  abbrev deed_of : Area → PodId → Option Deed
  deed_of place pod = deed_in_pass times me place s pod

  abbrev SaysDeed : GcLine → Type 0
  SaysDeed line = (pod : PodId) → line.pod ≡ Some pod → deed_of line.place pod ≡ Some line.deed

  there_before : (pod : PodId) (place : Area) (deed : Deed) → stands s.namespace (pod_spot pod place) ≡ true → deed ≡ deed_at times me pod place s → deed_of place pod ≡ Some deed
  there_before pod place deed there is =
      ap (λ b. cond b (Some (deed_at times me pod place s)) (deed_after_move times me pod place s (find (moves_there times me pod place s) places))) there ∙ ap (λ (d : Deed). Some d) (sym is)

  came_there : (pod : PodId) (place from : Area) (deed : Deed) → stands s.namespace (pod_spot pod place) ≡ false → find (moves_there times me pod place s) places ≡ Some from → deed ≡ deed_when_moved times me pod from place s → deed_of place pod ≡ Some deed
  came_there pod place from deed absent found is =
      ap (λ b. cond b (Some (deed_at times me pod place s)) (deed_after_move times me pod place s (find (moves_there times me pod place s) places))) absent
      ∙ (ap (deed_after_move times me pod place s) found ∙ ap (λ (d : Deed). Some d) (sym is))

  -- a pod stands at one place
  only_from : (pod : PodId) (to from : Area) → is_stage from ≡ true → moves_there times me pod to s from ≡ true → (other : Area) → is_stage other ≡ true → moves_there times me pod to s other ≡ true → other ≡ from
  only_from pod to from stage is other other_stage other_is =
      let one = one_folder old (pod_spot pod other) (pod_spot pod from) before other_stage stage refl (and_left (stands s.namespace (pod_spot pod other)) _ other_is) (and_left (stands s.namespace (pod_spot pod from)) _ is) in
      same_place other from (and_left (rank other == rank from) _ one)

  moving_stage : (from : Area) → moves_pods from ≡ true → is_stage from ≡ true
  moving_stage area.Embryo moves = refl
  moving_stage area.Prepare moves = refl
  moving_stage area.Prepared moves = refl
  moving_stage area.Run moves = refl
  moving_stage from moves = cc

  ungated : (from : Area) → (from ≡ area.Embryo → is_embryo_held me s ≡ false) → not (is_in area.Embryo from && is_embryo_held me s) ≡ true
  ungated from free = by (is_in area.Embryo from) refl
    where
      by : (b : Bool) → is_in area.Embryo from ≡ b → not (b && is_embryo_held me s) ≡ true
      by false is = refl
      by true is = ap (λ c. not c) (free (sym (same_place area.Embryo from is)))

  -- where a line says that the pod was moved there, the state before asks for that
  asked_there : (pod : PodId) (from to : Area) → MovedFrom from to pod lines → find (moves_there times me pod to s) places ≡ Some from
  asked_there pod from to moved =
      find_only (moves_there times me pod to s) from passes places (each_place (λ other. moves_there times me pod to s other ≡ true → other ≡ from) (λ other stage is. only_from pod to from (moving_stage from moves) passes other stage is)) (moves_from_place (moves_there times me pod to s) from moves passes)
    where
      first : GcLine
      first = moved.has.line

      says : may_say from (Moved to) ≡ true
      says = subst (λ (p : Area). may_say p (Moved to) ≡ true) moved.has.place_is (subst (λ (d : Deed). may_say first.place d ≡ true) moved.moved (of_line SaysFitting moved.has (gc_fits times lines ext quiet m) pod moved.has.pod_is))

      moves : moves_pods from ≡ true
      moves = and_left (moves_pods from) (is_in to (goes_to from)) says

      stood : stands s.namespace (pod_spot pod from) ≡ true
      stood = subst (λ (p : Area). stands s.namespace (pod_spot pod p) ≡ true) moved.has.place_is (of_line (MovedAsBefore old) moved.has (gc_moved times lines ext quiet m) pod to moved.has.pod_is moved.moved)

      its : Moved to ≡ deed_at times me pod from s
      its =
          let there = subst (λ (p : Area). stands s.namespace (pod_spot pod p) ≡ true) (sym moved.has.place_is) stood in
          sym moved.moved ∙ (of_line (ByTable times me old) moved.has (gc_table times lines ext quiet m conforming) pod moved.has.pod_is there ∙ ap (λ (p : Area). deed_at times me pod p s) moved.has.place_is)

      passes : moves_there times me pod to s from ≡ true
      passes =
          and_both (stands s.namespace (pod_spot pod from)) _ stood
          (and_both (is_move_to to (deed_at times me pod from s)) _ (ap (is_move_to to) (sym its) ∙ same_self (rank to))
          (ungated from (λ is. line_free pod (subst (λ (p : Area). HasLine p pod lines) is moved.has))))

  line_says : (line : GcLine) → SaysFitting line → StoodAsBefore old line → StoodOrWasMoved lines old line → ByTable times me old line → ByTableMoved times me lines old line → SaysDeed line
  line_says line fits stood came table moved_on pod is = by (stands s.namespace (pod_spot pod line.place)) refl
    where
      by : (b : Bool) → stands s.namespace (pod_spot pod line.place) ≡ b → deed_of line.place pod ≡ Some line.deed
      by true there = there_before pod line.place line.deed there (table pod is there)
      by false absent = elim (came pod is garbage) [
        | inl there ↦ let clash : true ≡ false = sym there ∙ absent in cc
        | inr x ↦ came_there pod line.place x.0 line.deed absent (asked_there pod x.0 line.place x.1) (moved_on pod x.0 is x.1)
      ]
        where
          stays : moves_pods line.place ≡ false
          stays = not_moved (moves_pods line.place) refl
            where
              not_moved : (b : Bool) → moves_pods line.place ≡ b → b ≡ false
              not_moved false moves = refl
              not_moved true moves = let clash : true ≡ false = sym (stood pod is moves) ∙ absent in cc

          garbage : is_garbage_place line.place ≡ true
          garbage = says_garbage line.place line.deed (fits pod is) stays

  lines_say : (ls : List GcLine) → AllByRecursion SaysFitting ls → AllByRecursion (StoodAsBefore old) ls → AllByRecursion (StoodOrWasMoved lines old) ls → AllByRecursion (ByTable times me old) ls → AllByRecursion (ByTableMoved times me lines old) ls → AllByRecursion SaysDeed ls
  lines_say [] fits stood came table moved_on = tt
  lines_say (l ∷ ls) fits stood came table moved_on = (line_says l fits.0 stood.0 came.0 table.0 moved_on.0, lines_say ls fits.1 stood.1 came.1 table.1 moved_on.1)

  all_say : AllByRecursion SaysDeed lines
  all_say = lines_say lines (gc_fits times lines ext quiet m) (gc_stood times lines ext quiet m) (gc_came times lines ext quiet m conforming) (gc_table times lines ext quiet m conforming) (gc_moved_on times lines ext quiet m conforming small)

  -- each pod for which the state before asks has its line

  abbrev Free : Area → Type 0
  Free place = place ≡ area.Embryo → is_embryo_held me s ≡ false

  stood_line : (name : List ℕ) (pod : PodId) → pod_of_text name ≡ Some pod → (place : Area) → is_stage place ≡ true → Free place → stands s.namespace (pod_spot pod place) ≡ true → HasLine place pod lines
  stood_line name pod its place stage free there = elim (gc_tells times lines ext quiet m conforming name pod place its stage there) [
    | inl has ↦ has
    | inr gate ↦ let clash : true ≡ false = sym gate.1 ∙ free gate.0 in cc
  ]

  moved_line : (name : List ℕ) (pod : PodId) → pod_of_text name ≡ Some pod → (from to : Area) → is_stage from ≡ true → moves_there times me pod to s from ≡ true → HasLine to pod lines
  moved_line name pod its from to stage is =
      let stood = and_left (stands s.namespace (pod_spot pod from)) _ is in
      let rest = and_right (stands s.namespace (pod_spot pod from)) _ is in
      let deed = moved_to to (deed_at times me pod from s) (and_left (is_move_to to (deed_at times me pod from s)) _ rest) in
      let has = stood_line name pod its from stage (λ at. let open_gate = and_right (is_move_to to (deed_at times me pod from s)) _ rest in freed (is_embryo_held me s) (subst (λ (p : Area). not (is_in area.Embryo p && is_embryo_held me s) ≡ true) at open_gate)) stood in
      let there = subst (λ (p : Area). stands s.namespace (pod_spot pod p) ≡ true) (sym has.place_is) stood in
      let says = of_line (ByTable times me old) has (gc_table times lines ext quiet m conforming) pod has.pod_is there ∙ (ap (λ (p : Area). deed_at times me pod p s) has.place_is ∙ deed) in
      of_line (HasLineWhereMoved lines) has (gc_goes times lines ext quiet m conforming) pod to has.pod_is says
    where
      freed : (b : Bool) → not b ≡ true → b ≡ false
      freed false is = refl
      freed true is = cc

  asked_line : (name : List ℕ) (pod : PodId) → pod_of_text name ≡ Some pod → (place : Area) → is_stage place ≡ true → Free place → (deed : Deed) → deed_of place pod ≡ Some deed → HasLine place pod lines
  asked_line name pod its place stage free deed asked = by (stands s.namespace (pod_spot pod place)) refl asked
    where
      moved : (o : Option Area) → find (moves_there times me pod place s) places ≡ o → deed_after_move times me pod place s o ≡ Some deed → HasLine place pod lines
      moved None found is = cc
      moved (Some from) found is =
          let x = found_in (moves_there times me pod place s) (λ a. is_stage a ≡ true) places (each_place (λ a. is_stage a ≡ true) (λ a at. at)) from found in
          moved_line name pod its from place x.1 x.0

      by : (b : Bool) → stands s.namespace (pod_spot pod place) ≡ b → cond b (Some (deed_at times me pod place s)) (deed_after_move times me pod place s (find (moves_there times me pod place s) places)) ≡ Some deed → HasLine place pod lines
      by true there is = stood_line name pod its place stage free there
      by false absent is = moved (find (moves_there times me pod place s) places) refl is

  -- pass by pass

  told_pass : {here : Area} (own : List GcLine) (a b : List Event) → is_stage here ≡ true → Free here → TellsShown Can times here own me a b → AllByRecursion SaysDeed own → ((pod : PodId) → HasLine here pod lines → HasLine here pod own) → AreGcPassLines here (deed_of here) own
  told_pass {here} own a b stage free t say within = record {
    each = all_zip (λ l. IsLineOfTurn Can times here t.names l me t.listed b) SaysDeed (IsPassLine here (deed_of here))
        (λ l x says. record {
          name = x.name;
          pod = x.shown;
          name_is = x.name_is;
          pod_is = x.pod_is;
          place_is = x.place_is;
          deed_is = subst (λ (p : Area). deed_of p x.shown ≡ Some l.deed) x.place_is (says x.shown x.pod_is);
        }) own t.tells.each say;
    all = λ name pod deed its asked. within pod (asked_line name pod its here stage free deed asked);
    ordered = subjects_ascend t.names own t.tells.pods_are t.ordered;
  }

  gate_pass : (own : List GcLine) (b : List Event) → Grew b m.ended → PassedOverPods Can times area.Embryo own me m.begun b → AllByRecursion SaysDeed own → ((pod : PodId) → HasLine area.Embryo pod lines → HasLine area.Embryo pod own) → IsGcPassOf times me s area.Embryo own
  gate_pass own b more (inl g) say within =
      let free = gate_free own b more g in
      subst (λ c. GatedOr c own (AreGcPassLines area.Embryo (deed_of area.Embryo) own)) (sym free) (told_pass own g.locked g.done refl (λ is. free) g.tells say within)
  gate_pass own b more (inr w) say within = subst (λ c. GatedOr c own (AreGcPassLines area.Embryo (deed_of area.Embryo) own)) (sym (gate_held own b more w)) w.line_is

  abbrev IsPlain : Area → Type 0
  IsPlain here = (is_stage here ≡ true) × ((own : List GcLine) (a b : List Event) → PassedOverPods Can times here own me a b → TellsShown Can times here own me a b) × (here ≡ area.Embryo → ⊥) × ((own : List GcLine) → AreGcPassLines here (deed_of here) own → IsGcPassOf times me s here own)

  -- of what two parts have, each has its own
  part_line : (here : Area) (ps : List Area) (own others : List GcLine) → list_any (is_in here) ps ≡ false → AllByRecursion (λ (l : GcLine). list_any (is_in l.place) ps ≡ true) others → (pod : PodId) → HasLine here pod (own ++ others) → HasLine here pod own
  part_line here ps own others apart among pod has = elim (line_in_part here pod own others has) [
    | inl y ↦ y
    | inr y ↦ let at = of_line (λ (l : GcLine). list_any (is_in l.place) ps ≡ true) y among in
        let clash : true ≡ false = sym at ∙ (ap (λ (a : Area). list_any (is_in a) ps) y.place_is ∙ apart) in cc
  ]

  rest_line : (here place : Area) (ps : List Area) (own others : List GcLine) → list_any (is_in here) ps ≡ false → AllByRecursion (λ (l : GcLine). l.place ≡ here) own → list_any (is_in place) ps ≡ true → (pod : PodId) → HasLine place pod (own ++ others) → HasLine place pod others
  rest_line here place ps own others apart all_here among pod has = elim (line_in_part place pod own others has) [
    | inl y ↦ let at = of_line (λ (l : GcLine). l.place ≡ here) y all_here in
        let clash : true ≡ false = sym among ∙ (ap (λ (a : Area). list_any (is_in a) ps) (sym y.place_is ∙ at) ∙ apart) in cc
    | inr y ↦ y
  ]

  later_passes : (ps : List Area) → AllByRecursion IsPlain ps → AreApart ps → (ls : List GcLine) (a b : List Event) → ArePassed Can times ps ls me a b → AllByRecursion SaysDeed ls
      → ((place : Area) → list_any (is_in place) ps ≡ true → (pod : PodId) → HasLine place pod lines → HasLine place pod ls) → ArePassesOf times me s ps ls
  later_passes [] plain apart ls a b x say within = x.0
  later_passes (here ∷ ps) plain apart ls a b x say within =
      let says = subst (λ (l : List GcLine). AllByRecursion SaysDeed l) x.lines_are say in
      let among = passes_place ps x.others x.between b x.rest in
      let all_here = passed_place Can times here x.own me a x.between x.first in
      let own_line : (pod : PodId) → HasLine here pod lines → HasLine here pod x.own = λ pod has.
      part_line here ps x.own x.others apart.0 among pod (subst (λ (l : List GcLine). HasLine here pod l) x.lines_are (within here (ap (λ b. b || list_any (is_in here) ps) (same_self (rank here))) pod has)) in
      let other_line : (place : Area) → list_any (is_in place) ps ≡ true → (pod : PodId) → HasLine place pod lines → HasLine place pod x.others = λ place at pod has.
      rest_line here place ps x.own x.others apart.0 all_here at pod (subst (λ (l : List GcLine). HasLine place pod l) x.lines_are (within place (or_last (is_in place here) (list_any (is_in place) ps) at) pod has)) in
      let shown = plain.0.1 x.own a x.between x.first in (
        x.own,
        x.others,
        x.lines_are,
        plain.0.3 x.own (told_pass x.own a x.between plain.0.0 (λ is. absurd (plain.0.2 is)) shown (all_left SaysDeed x.own x.others says) own_line),
        later_passes ps plain.1 apart.1 x.others x.between b x.rest (all_right SaysDeed x.own x.others says) other_line,
      )

  plain_places : AllByRecursion IsPlain later
  plain_places = (
    (refl, λ own a b x. x, λ is. cc, λ own x. x),
    ((refl, λ own a b x. x, λ is. cc, λ own x. x), ((refl, λ own a b x. x, λ is. cc, λ own x. x), ((refl, λ own a b x. x, λ is. cc, λ own x. x), ((refl, λ own a b x. x, λ is. cc, λ own x. x), tt)))),
  )

  gc_lines : IsSweepOf times me s lines
  gc_lines =
      let x = m.so.swept in
      let says = subst (λ (l : List GcLine). AllByRecursion SaysDeed l) x.lines_are all_say in
      let among = passes_place later x.others x.between m.ended x.rest in
      let all_here = passed_place Can times area.Embryo x.own me m.begun x.between x.first in
      let rest = passes_grown Can times later x.others me x.between m.ended x.rest in (
        x.own,
        x.others,
        x.lines_are,
        gate_pass x.own x.between rest x.first (all_left SaysDeed x.own x.others says) (λ pod has. part_line area.Embryo later x.own x.others refl among pod (subst (λ (l : List GcLine). HasLine area.Embryo pod l) x.lines_are has)),
        later_passes later plain_places (refl, (refl, (refl, (refl, (refl, tt))))) x.others x.between m.ended x.rest (all_right SaysDeed x.own x.others says)
            (λ place at pod has. rest_line area.Embryo place later x.own x.others refl all_here at pod (subst (λ (l : List GcLine). HasLine place pod l) x.lines_are has)),
      )

  pub gc_whole : AreTheGcLines times me s lines
  gc_whole = record { are = gc_lines; only = λ others x. only_sweep times me s others lines x gc_lines }
