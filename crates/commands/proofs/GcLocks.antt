-- Where nobody else steps, what a turn of a sweep tells of the locks of a pod's folder, and of its manifest in prepared, was so before.
use Rattle.std.proofs.Common.{◌≡◌, ◌&&◌, ℕ, Bool, true, false, codes, Some, List, [], ◌∷◌, ◌++◌, refl, sym, ap, subst, ◌∙◌}
use Rattle.std.specs.List.{list_any, AllByRecursion}
use Rattle.dir_model.specs.declared.area.Area.{Area}
use Rattle.dir_model.specs.declared.area.Area.TheVariants as area
use Rattle.dir_model.specs.declared.event.Event.{Event}
use Rattle.dir_model.specs.declared.pod.PodId.{PodId}
use Rattle.dir_model.specs.declared.spot.Mode.{Mode}
use Rattle.dir_model.specs.declared.spot.Mode.TheVariants.{Shared, Exclusive}
use Rattle.dir_model.specs.declared.spot.Spot.{Spot}
use Rattle.dir_model.specs.declared.spot.Which.{Which}
use Rattle.dir_model.specs.declared.spot.Which.TheVariants.{Own, Claim}
use Rattle.dir_model.specs.declared.request.Request.{Request}
use Rattle.dir_model.specs.Areas.{is_stage}
use Rattle.dir_model.specs.Between.{LockTold}
use Rattle.dir_model.specs.Calls.{Extends, AtOwnStep}
use Rattle.dir_model.specs.Locks.{is_folder, opposes, owns}
use Rattle.dir_model.specs.Quiet.{Quiet}
use Rattle.dir_model.specs.State.{DirState, folder_at}
use Rattle.dir_model.specs.Trace.{state_after}
use Rattle.dir_model.specs.Trees.{has_file}
use Rattle.dir_model.proofs.Lists.{any_fewer}
use Rattle.dir_model.proofs.Moments.{at_grown, at_weaker}
use Rattle.lifecycle.specs.Executions.{IsConforming}
use Rattle.dir_model.specs.Spots.{pod_spot}
use Rattle.pod_locks.specs.ClaimCauses.{is_lock}
use Rattle.pod_locks.specs.Work.{Grew}
use Rattle.pod_locks.proofs.Times.{at_part}
use Rattle.pod_locks.proofs.Traces.{grown_more}
use Rattle.pod_locks.specs.Causes.{OpensAt, is_held_against, PodHeldByAnother, FreeOfOthers}
use Rattle.pod_gc.specs.declared.ages.Times.{Times}
use Rattle.pod_gc.specs.declared.line.Deed.{Deed}
use Rattle.pod_gc.specs.declared.line.Deed.TheVariants.{Moved, Deleted, Busy}
use Rattle.pod_gc.specs.declared.line.GcLine.{GcLine}
use Rattle.pod_gc.specs.Deeds.{is_under_claim, is_after_look, refused_lock, mode_of_deed}
use Rattle.pod_gc.specs.Requests.{sweeps}
use Rattle.pod_gc.specs.Told.{IsLineOfTurn, TellsShown}
use Rattle.command_outcomes.specs.Meanwhile.{Meanwhile}
use Rattle.commands.specs.Gc.{SweepsByPasses}
use Rattle.commands.specs.RemovalTable.{is_held_in}
use Rattle.commands.proofs.OwnSteps.{in_process, held_before}
use Rattle.commands.proofs.Openings.{free_before, held_owns}
use Rattle.commands.proofs.OneNumber.{one_number}
use Rattle.commands.proofs.Manifests.{had_manifest}
use Rattle.commands.proofs.GcLeft.{sweeps_aside}
use Rattle.commands.proofs.GcQuiet.{each_shown}
use Rattle.commands.proofs.GcTurn.{turn_after, turn_before}
use Rattle.commands.proofs.GcWaited.{changed_off}

-- the locks of the folder with this number, in one state
pub record LocksWere (place : Area) (deed : Deed) (k me : ℕ) (s : DirState) : Type 0 where
  pub held : (which : Which) → refused_lock deed ≡ Some which → is_held_in me which (mode_of_deed place deed) (Some k) s ≡ true
  pub unclaimed : place ≡ area.Prepared → is_under_claim deed ≡ true → is_held_in me Claim Exclusive (Some k) s ≡ false
  pub unowned : is_after_look place deed ≡ true → is_held_in me Own Shared (Some k) s ≡ false
  pub alone : deed ≡ Deleted → is_held_in me Own Exclusive (Some k) s ≡ false

-- where the pod's folder had this number at its line's place at any time
abbrev pub LocksBefore : ℕ → List Event → List Event → GcLine → Type 0
LocksBefore me old new line =
    (pod : PodId) (k : ℕ) (h : List Event) → line.pod ≡ Some pod → Grew h new → folder_at (state_after h).namespace (pod_spot pod line.place) ≡ Some k → LocksWere line.place line.deed k me (state_after old)

-- the activation lock could be opened
abbrev pub opens_claim : Deed → Bool
opens_claim (Moved to) = true
opens_claim (Busy which) = true
opens_claim _ = false

-- the folder that stood in prepared had the manifest
abbrev pub ManifestBefore : List Event → GcLine → Type 0
ManifestBefore old line =
    (pod : PodId) (k : ℕ) → line.pod ≡ Some pod → line.place ≡ area.Prepared → opens_claim line.deed ≡ true → folder_at (state_after old).namespace (pod_spot pod area.Prepared) ≡ Some k → has_file (state_after old).entries k (codes "pod") ≡ true

-- of one turn
module _ {asks : Request → Bool} {me : ℕ} {old from upto new : List Event} (ext : Extends asks me old new) (quiet : Quiet me old new) (conforming : IsConforming new) (first : Grew old from) (last : Grew upto new)
    (pod : PodId) (here : Area) (stage : is_stage here ≡ true) (k : ℕ) (h : List Event) (to_new : Grew h new) (at : folder_at (state_after h).namespace (pod_spot pod here) ≡ Some k) where
  abbrev spot : Spot
  spot = pod_spot pod here

  abbrev Stood : ℕ → DirState → Type 0
  Stood f s = folder_at s.namespace spot ≡ Some f

  -- it is the folder that was found
  one_found : (f : ℕ) (between : List Event) → AtOwnStep me from between (Stood f) → Grew between new → f ≡ k
  one_found f between found rest = one_number new conforming spot stage (found.before ++ found.step ∷ []) h (grown_more (record { more = found.rest; grown = found.ends }) rest) to_new f k found.holds at

  then : {P : DirState → Type 0} {between : List Event} → AtOwnStep me from between P → Grew old between
  then found = let g = at_grown found in grown_more first (record { more = g.0; grown = g.1 })

  till : {P : DirState → Type 0} {between : List Event} → AtOwnStep me between upto P → Grew between new
  till told = let g = at_grown told in grown_more (record { more = g.0; grown = g.1 }) last

  abbrev Test : Which → Mode → ℕ → DirState → Bool
  Test which mode f s = list_any (is_held_against me which mode f) s.namespace.openings

  pub turn_held : (which : Which) (mode : Mode) → PodHeldByAnother pod here which mode me from upto → is_held_in me which mode (Some k) (state_after old) ≡ true
  turn_held which mode x =
      let one = one_found x.folder x.between (at_weaker (Stood x.folder) (λ s y. y.0) x.found) (till x.held) in
      let held = held_before (λ o. is_folder x.folder o.folder && (is_lock which o.target && opposes mode o.lock)) (at_part (then x.found) refl last x.held) ext quiet in
      subst (λ (f : ℕ). Test which mode f (state_after old) ≡ true) one held

  pub turn_free : (which : Which) (mode : Mode) → FreeOfOthers pod here which mode me from upto → is_held_in me which mode (Some k) (state_after old) ≡ false
  turn_free which mode x =
      let one = one_found x.folder x.between (at_weaker (Stood x.folder) (λ s y. y.0) x.found) (till x.free) in
      let free = free_before (λ o. is_folder x.folder o.folder && (is_lock which o.target && opposes mode o.lock)) (at_part (then x.found) refl last x.free) ext quiet in
      subst (λ (f : ℕ). Test which mode f (state_after old) ≡ false) one free

  pub turn_unowned : LockTold me from upto spot false → is_held_in me Own Shared (Some k) (state_after old) ≡ false
  turn_unowned x =
      let one = one_found x.folder x.between x.found (till x.told) in
      let told : AtOwnStep me x.between upto (λ s. Test Own Shared x.folder s ≡ false) =
      at_weaker (λ s. Test Own Shared x.folder s ≡ false) (λ s none. any_fewer (is_held_against me Own Shared x.folder) (owns x.folder) (λ o is. held_owns me x.folder o is) s.namespace.openings none) x.told in
      let free = free_before (λ o. is_folder x.folder o.folder && (is_lock Own o.target && opposes Shared o.lock)) (at_part (then x.found) refl last told) ext quiet in
      subst (λ (f : ℕ). Test Own Shared f (state_after old) ≡ false) one free

module _ (times : Times) (lines : List GcLine) {me : ℕ} {old new : List Event} (ext : Extends (in_process (sweeps times.now)) me old new) (quiet : Quiet me old new) (m : Meanwhile (SweepsByPasses times lines) me old new) (conforming : IsConforming new) where
  told_locks : {Can : Type 0} (can : Can) (here : Area) → is_stage here ≡ true → (ls : List GcLine) (a b : List Event) → Grew old a → Grew b new → (t : TellsShown Can times here ls me a b) → (line : GcLine) → IsLineOfTurn Can times here t.names line me t.listed b → LocksBefore me old new line
  told_locks {Can} can here stage ls a b to_a from_b t line x pod k h is to_new at =
      subst (λ (p : Area). LocksWere p line.deed k me (state_after old)) (sym x.place_is) (record {
        held = λ which refused. turn_held ext quiet conforming first last x.shown here stage k h to_new there which (mode_of_deed here line.deed) ((x.another can).held which refused);
        unclaimed = λ place under. turn_free ext quiet conforming first last x.shown here stage k h to_new there Claim Exclusive (x.dealt.cause.claimed place under);
        unowned = λ looked. turn_unowned ext quiet conforming first last x.shown here stage k h to_new there (x.dealt.cause.freed looked);
        alone = λ deed. turn_free ext quiet conforming first last x.shown here stage k h to_new there Own Exclusive (x.dealt.cause.alone deed);
      })
    where
      first : Grew old x.from
      first = turn_after stage quiet to_a from_b t x

      last : Grew x.upto new
      last = turn_before stage quiet to_a from_b t x

      there : folder_at (state_after h).namespace (pod_spot x.shown here) ≡ Some k
      there =
          let same : pod ≡ x.shown = let e : Some pod ≡ Some x.shown = sym is ∙ x.pod_is in cc in
          subst (λ (p : Area). folder_at (state_after h).namespace (pod_spot x.shown p) ≡ Some k) x.place_is (subst (λ (q : PodId). folder_at (state_after h).namespace (pod_spot q line.place) ≡ Some k) same at)

  pub gc_locks : AllByRecursion (LocksBefore me old new) lines
  gc_locks = each_shown times lines ext quiet m (LocksBefore me old new) (λ Can can here stage ls a b to_a from_b t line x. told_locks can here stage ls a b to_a from_b t line x) (λ pod k h is to_new at. cc)

  told_manifest : {Can : Type 0} (can : Can) (here : Area) → is_stage here ≡ true → (ls : List GcLine) (a b : List Event) → Grew old a → Grew b new → (t : TellsShown Can times here ls me a b) → (line : GcLine) → IsLineOfTurn Can times here t.names line me t.listed b → ManifestBefore old line
  told_manifest {Can} can here stage ls a b to_a from_b t line x pod k is place opens at =
      let same : pod ≡ x.shown = let e : Some pod ≡ Some x.shown = sym is ∙ x.pod_is in cc in
      by line.deed refl opens (subst (λ (q : PodId). folder_at (state_after old).namespace (pod_spot q area.Prepared) ≡ Some k) same at)
    where
      first : Grew old x.from
      first = turn_after stage quiet to_a from_b t x

      last : Grew x.upto new
      last = turn_before stage quiet to_a from_b t x

      here_is : here ≡ area.Prepared
      here_is = sym x.place_is ∙ place

      had : (f : ℕ) (between : List Event) → AtOwnStep me x.from between (OpensAt x.shown area.Prepared Claim f) → Grew between new → folder_at (state_after old).namespace (pod_spot x.shown area.Prepared) ≡ Some k → has_file (state_after old).entries k (codes "pod") ≡ true
      had f between found rest at =
          let y = had_manifest (sweeps times.now) (sweeps_aside times.now) x.shown (λ request h inner is. changed_off times.now x.shown request h inner is) f me ext quiet (at_part first refl rest found) in
          let one : f ≡ k = let e : Some f ≡ Some k = sym y.0 ∙ at in cc in
          subst (λ (g : ℕ). has_file (state_after old).entries g (codes "pod") ≡ true) one y.1

      by_claim : is_under_claim line.deed ≡ true → folder_at (state_after old).namespace (pod_spot x.shown area.Prepared) ≡ Some k → has_file (state_after old).entries k (codes "pod") ≡ true
      by_claim under at =
          let y : FreeOfOthers x.shown area.Prepared Claim Exclusive me x.from x.upto = subst (λ (p : Area). FreeOfOthers x.shown p Claim Exclusive me x.from x.upto) here_is (x.dealt.cause.claimed here_is under) in
          let g = at_grown y.free in
          had y.folder y.between y.found (grown_more (record { more = g.0; grown = g.1 }) last) at

      by_refusal : refused_lock line.deed ≡ Some Claim → folder_at (state_after old).namespace (pod_spot x.shown area.Prepared) ≡ Some k → has_file (state_after old).entries k (codes "pod") ≡ true
      by_refusal refused at =
          let y : PodHeldByAnother x.shown area.Prepared Claim (mode_of_deed area.Prepared line.deed) me x.from x.upto =
          subst (λ (p : Area). PodHeldByAnother x.shown p Claim (mode_of_deed p line.deed) me x.from x.upto) here_is ((x.another can).held Claim refused) in
          let g = at_grown y.held in
          had y.folder y.between y.found (grown_more (record { more = g.0; grown = g.1 }) last) at

      by : (d : Deed) → line.deed ≡ d → opens_claim d ≡ true → folder_at (state_after old).namespace (pod_spot x.shown area.Prepared) ≡ Some k → has_file (state_after old).entries k (codes "pod") ≡ true
      by (Moved to) deed opens at = by_claim (ap is_under_claim deed) at
      by (Busy Own) deed opens at = by_claim (ap is_under_claim deed) at
      by (Busy Claim) deed opens at = by_refusal (ap refused_lock deed) at
      by d deed opens at = cc

  pub gc_manifest : AllByRecursion (ManifestBefore old) lines
  gc_manifest = each_shown times lines ext quiet m (ManifestBefore old) (λ Can can here stage ls a b to_a from_b t line x. told_manifest can here stage ls a b to_a from_b t line x) (λ pod k is place opens at. cc)
