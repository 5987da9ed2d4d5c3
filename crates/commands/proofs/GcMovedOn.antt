-- Where nobody else steps, what a sweep says of a pod where it moved it is what the state before asks for where it moved it from.
use Rattle.std.proofs.Common.{◌≡◌, ◌≤◌, ℕ, Bool, true, false, cond, nat_lt, Some, List, [], ◌∷◌, refl, sym, ap, subst, ◌∙◌}
use Rattle.std.specs.List.{AllByRecursion}
use Rattle.dir_model.specs.declared.area.Area.{Area}
use Rattle.dir_model.specs.declared.area.Area.TheVariants as area
use Rattle.dir_model.specs.declared.area.Phase.TheVariants as kind
use Rattle.dir_model.specs.declared.event.Event.{Event}
use Rattle.dir_model.specs.declared.pod.PodId.{PodId}
use Rattle.dir_model.specs.declared.spot.Mode.TheVariants.{Shared}
use Rattle.dir_model.specs.declared.spot.Which.{Which}
use Rattle.dir_model.specs.declared.spot.Which.TheVariants.{Own, Claim}
use Rattle.dir_model.specs.Calls.{Extends}
use Rattle.dir_model.specs.Quiet.{Quiet}
use Rattle.dir_model.specs.State.{DirState, folder_at}
use Rattle.dir_model.specs.Trace.{state_after}
use Rattle.dir_model.proofs.Lists.{and_left, and_right}
use Rattle.dir_rules.specs.Standing.{is_in}
use Rattle.lifecycle.specs.Executions.{IsConforming}
use Rattle.dir_model.specs.Spots.{pod_spot}
use Rattle.pod_locks.specs.Work.{Grew}
use Rattle.pod_gc.specs.RemovalRequests.{is_garbage_place}
use Rattle.pod_gc.specs.declared.ages.Times.{Times}
use Rattle.pod_gc.specs.declared.line.Deed.{Deed}
use Rattle.pod_gc.specs.declared.line.Deed.TheVariants.{Moved, Deleted, Kept, Busy}
use Rattle.pod_gc.specs.declared.line.GcLine.{GcLine}
use Rattle.pod_gc.specs.Deeds.{is_after_look, RestsBy}
use Rattle.pod_gc.specs.Requests.{goes_to, moves_pods, sweeps}
use Rattle.command_outcomes.specs.Meanwhile.{Meanwhile}
use Rattle.commands.specs.Gc.{SweepsByPasses}
use Rattle.commands.specs.RemovalQuiet.{may_say, SaysFitting, MovedFrom, ByTableMoved}
use Rattle.commands.specs.RemovalTable.{is_held_in, deletes_pod, deed_when_moved}
use Rattle.commands.proofs.OwnSteps.{in_process}
use Rattle.commands.proofs.GcFits.{BusyByOwn, gc_own, gc_fits}
use Rattle.commands.proofs.GcCame.{line_at}
use Rattle.commands.proofs.GcLocks.{LocksWere, LocksBefore, gc_locks}
use Rattle.commands.proofs.GcArrived.{Arrived, ArrivesSo, gc_arrives}
use Rattle.commands.proofs.GcMarked.{RestsMoved, gc_rests_moved}
use Rattle.commands.proofs.GcTable.{never, busy_there, deleted_there}

goes_garbage : (from to : Area) → is_in to (goes_to from) ≡ true → is_garbage_place to ≡ true
goes_garbage area.Run area.ExitedGarbage is = refl
goes_garbage area.Run to is = cc
goes_garbage from area.Garbage is = refl
goes_garbage from area.ExitedGarbage is = refl
goes_garbage from to is = cc

from_run : (from : Area) → moves_pods from ≡ true → is_in area.ExitedGarbage (goes_to from) ≡ true → from ≡ area.Run
from_run area.Run moves is = refl
from_run from moves is = cc

-- what a deed tells of one state
module _ (times : Times) (me : ℕ) (pod : PodId) (from : Area) (s : DirState) where
  record TellsMoved (to : Area) (deed : Deed) (k : ℕ) : Type 0 where
    own : (which : Which) → deed ≡ Busy which → is_garbage_place to ≡ true → which ≡ Own
    locks : LocksWere to deed k me s
    unowned : to ≡ area.ExitedGarbage → is_held_in me Own Shared (Some k) s ≡ false
    rests : to ≡ area.ExitedGarbage → RestsBy (nat_lt 0 times.grace) deed

  abbrev At : ℕ → Type 0
  At k = folder_at s.namespace (pod_spot pod from) ≡ Some k

  by_grace : (b : Bool) → nat_lt 0 times.grace ≡ b → deed_when_moved times me pod from area.ExitedGarbage s ≡ cond b (Kept kind.ExitedGarbage) (deletes_pod me pod from s)
  by_grace b is = ap (λ (c : Bool). cond c (Kept kind.ExitedGarbage) (deletes_pod me pod from s)) is

  moved_is : (to : Area) (deed : Deed) → may_say to deed ≡ true → is_garbage_place to ≡ true → (k : ℕ) → At k → TellsMoved to deed k → deed ≡ deed_when_moved times me pod from to s
  moved_is area.ExitedGarbage (Kept kind.ExitedGarbage) fits garbage k at g = sym (by_grace true ((g.rests refl).rests kind.ExitedGarbage refl))
  moved_is area.ExitedGarbage (Kept kind.Deleting) fits garbage k at g = let clash : true ≡ false = sym (g.locks.held Own refl) ∙ g.unowned refl in cc
  moved_is area.ExitedGarbage Deleted fits garbage k at g = sym (by_grace false ((g.rests refl).over refl) ∙ deleted_there me pod from s k at (g.locks.alone refl))
  moved_is area.ExitedGarbage (Busy Own) fits garbage k at g = sym (by_grace false ((g.rests refl).over refl) ∙ busy_there me pod from s k at (g.locks.held Own refl))
  moved_is area.ExitedGarbage (Busy Claim) fits garbage k at g = let clash : Claim ≡ Own = g.own Claim refl refl in cc
  moved_is area.Garbage Deleted fits garbage k at g = sym (deleted_there me pod from s k at (g.locks.alone refl))
  moved_is area.Garbage (Busy Own) fits garbage k at g = sym (busy_there me pod from s k at (g.locks.held Own refl))
  moved_is area.Garbage (Busy Claim) fits garbage k at g = let clash : Claim ≡ Own = g.own Claim refl refl in cc
  moved_is area.ExitedGarbage deed fits garbage k at g = never fits
  moved_is area.Garbage deed fits garbage k at g = never fits
  moved_is to deed fits garbage k at g = never garbage

module _ (times : Times) (lines : List GcLine) {me : ℕ} {old new : List Event} (ext : Extends (in_process (sweeps times.now)) me old new) (quiet : Quiet me old new) (m : Meanwhile (SweepsByPasses times lines) me old new) (conforming : IsConforming new) (small : times.now ≤ 18446744073709551615) where
  to_new : Grew old new
  to_new = record { more = quiet.more; grown = quiet.grown }

  abbrev Rests : GcLine → Type 0
  Rests line = RestsMoved times lines ext quiet m conforming small line

  line_is : (line : GcLine) → SaysFitting line → BusyByOwn line → LocksBefore me old new line → Rests line → ByTableMoved times me lines old line
  line_is line fits own locks rests pod from is moved =
      moved_is times me pod from (state_after old) line.place line.deed (fits pod is) (goes_garbage from line.place goes) came.folder came.stood (record {
        own = own;
        locks = locks pod came.folder came.at is came.rest came.there;
        unowned = λ place. unowned (run place);
        rests = λ place. rests pod is place (subst (λ (f : Area). MovedFrom f area.ExitedGarbage pod lines) (run place) (subst (λ (t : Area). MovedFrom from t pod lines) place moved));
      })
    where
      first : GcLine
      first = moved.has.line

      at_first : (P : GcLine → Type 0) → AllByRecursion P lines → P first
      at_first P all = line_at P lines moved.has.before moved.has.line moved.has.after moved.has.are all

      came : Arrived pod from line.place old new
      came = subst (λ (p : Area). Arrived pod p line.place old new) moved.has.place_is (at_first (ArrivesSo old new) (gc_arrives times lines ext quiet m conforming) pod line.place moved.has.pod_is moved.moved)

      says : may_say from (Moved line.place) ≡ true
      says = subst (λ (p : Area). may_say p (Moved line.place) ≡ true) moved.has.place_is (subst (λ (d : Deed). may_say first.place d ≡ true) moved.moved (at_first SaysFitting (gc_fits times lines ext quiet m) pod moved.has.pod_is))

      goes : is_in line.place (goes_to from) ≡ true
      goes = and_right (moves_pods from) (is_in line.place (goes_to from)) says

      run : line.place ≡ area.ExitedGarbage → from ≡ area.Run
      run place = from_run from (and_left (moves_pods from) (is_in line.place (goes_to from)) says) (subst (λ (p : Area). is_in p (goes_to from) ≡ true) place goes)

      unowned : from ≡ area.Run → is_held_in me Own Shared (Some came.folder) (state_after old) ≡ false
      unowned is_run =
          let stood = subst (λ (p : Area). folder_at (state_after old).namespace (pod_spot pod p) ≡ Some came.folder) (sym moved.has.place_is) came.stood in
          let were = at_first (LocksBefore me old new) (gc_locks times lines ext quiet m conforming) pod came.folder old moved.has.pod_is to_new stood in
          were.unowned (ap (λ (p : Area). is_after_look p first.deed) (moved.has.place_is ∙ is_run) ∙ ap (is_after_look area.Run) moved.moved)

  lines_are : (ls : List GcLine) → AllByRecursion SaysFitting ls → AllByRecursion BusyByOwn ls → AllByRecursion (LocksBefore me old new) ls → AllByRecursion Rests ls → AllByRecursion (ByTableMoved times me lines old) ls
  lines_are [] fits own locks rests = tt
  lines_are (l ∷ ls) fits own locks rests = (line_is l fits.0 own.0 locks.0 rests.0, lines_are ls fits.1 own.1 locks.1 rests.1)

  pub gc_moved_on : AllByRecursion (ByTableMoved times me lines old) lines
  gc_moved_on = lines_are lines (gc_fits times lines ext quiet m) (gc_own times lines ext quiet m) (gc_locks times lines ext quiet m conforming) (gc_rests_moved times lines ext quiet m conforming small)
