-- Where nobody else steps, what the first round of a removal found and did, by the state before.
use Rattle.std.proofs.Common.{◌≡◌, inl, inr, ◌||◌, ◌==◌, ℕ, Bool, true, false, cond, codes, Option, Some, None, is_some, position, List, refl, sym, ap, subst, ◌∙◌}
use Rattle.plain_laws.proofs.Booleans.{or_nothing}
use Rattle.dir_model.specs.declared.area.Area.{Area}
use Rattle.dir_model.specs.declared.area.Area.TheVariants as area
use Rattle.dir_model.specs.declared.area.Phase.{Phase}
use Rattle.dir_model.specs.declared.area.Phase.TheVariants as kind
use Rattle.dir_model.specs.declared.event.Event.{Event}
use Rattle.dir_model.specs.declared.pod.PodId.{PodId}
use Rattle.dir_model.specs.declared.item.Inner.{Inner}
use Rattle.dir_model.specs.declared.spot.Mode.TheVariants.{Exclusive}
use Rattle.dir_model.specs.declared.spot.Spot.{Spot}
use Rattle.dir_model.specs.declared.spot.Which.TheVariants.{Own, Claim}
use Rattle.dir_model.specs.declared.request.Request.{Request}
use Rattle.dir_model.specs.declared.request.Request.TheVariants.{MakeDirIn, AppendIn, MakeFileIn, RemoveFileIn, RemoveDirIn}
use Rattle.dir_model.specs.Areas.{rank, phase_in}
use Rattle.dir_model.specs.Calls.{is_kill, Extends}
use Rattle.dir_model.specs.Quiet.{Quiet, OwnsNothing, SameNamespace}
use Rattle.dir_model.specs.Replies.{is_look, is_look_at, is_any_spot}
use Rattle.dir_model.specs.State.{DirState, is_at, spot_eq, folder_at, stands, is_owned, is_owned_in, is_owned_at}
use Rattle.dir_model.specs.Trace.{state_after}
use Rattle.dir_model.specs.Trees.{has_file}
use Rattle.dir_model.proofs.Chains.{extends_wider}
use Rattle.dir_model.proofs.Lists.{and_left, or_last}
use Rattle.dir_model.proofs.Moments.{at_grown, some_number}
use Rattle.dir_model.proofs.Spots.{look_wider}
use Rattle.dir_model.proofs.Quiet.{look_is_harmless, end_quiet}
use Rattle.lifecycle.specs.Executions.{IsConforming}
use Rattle.phase_read.specs.declared.found.Found.{Found}
use Rattle.phase_read.specs.declared.found.Found.TheVariants.{At, Gone}
use Rattle.dir_model.specs.Spots.{pod_spot}
use Rattle.phase_read.specs.Read.{is_pod_spot}
use Rattle.phase_read.specs.Sequential.{sequential_read, or_in, found_in}
use Rattle.phase_read.proofs.Quiet.{read_quiet}
use Rattle.pod_locks.specs.Work.{Grew}
use Rattle.pod_locks.proofs.Times.{at_part}
use Rattle.pod_locks.proofs.Traces.{grown_none, grown_more, grown_by, grown_call}
use Rattle.pod_gc.specs.RemovalRequests.{is_removable, aside, area_of_phase, puts_aside, removes}
use Rattle.pod_gc.specs.Found.{is_moved, ClaimWasFree, PutAway, TakenAway, MissedAt, WasMissed, FoundAnd, MissedFirst}
use Rattle.pod_gc.specs.Requests.{lists_marks, puts_aside_only}
use Rattle.commands.specs.RemovalTable.{is_held_in}
use Rattle.commands.proofs.OwnSteps.{in_process, forward}
use Rattle.commands.specs.Opening.{opens}
use Rattle.commands.proofs.Starts.{open_is_harmless}
use Rattle.commands.proofs.LateTurns.{removes_late, in_garbage}
use Rattle.commands.proofs.OneNumber.{one_number}
use Rattle.commands.proofs.Lacking.{garbage_apart}
use Rattle.commands.proofs.FolderItems.{changed}
use Rattle.commands.proofs.Manifests.{had_manifest}
use Rattle.commands.proofs.RmLacking.{removes_aside}
use Rattle.commands.proofs.GcTurn.{quiet_between, untaken_at}
use Rattle.commands.proofs.GcGoes.{on_leaves}
use Rattle.pod_gc.proofs.Onward.{moved_stands, stage_place, stage_aside}
use Rattle.commands.proofs.GcArrived.{moved_by}
use Rattle.commands.proofs.GcLocks.{turn_free}
use Rattle.commands.proofs.GcWaited.{run_prepared}

-- places and phases

pub removable_place : (a : Area) (owned : Bool) (p : Phase) → is_removable p ≡ true → phase_in a owned ≡ Some p → a ≡ area_of_phase p
removable_place area.Embryo owned p may is = let same : kind.Embryo ≡ p = cc in let clash : false ≡ true = ap is_removable same ∙ may in cc
removable_place area.Prepare true p may is = let same : kind.Preparing ≡ p = cc in let clash : false ≡ true = ap is_removable same ∙ may in cc
removable_place area.Prepare false p may is = let same : kind.AbortedPrepare ≡ p = cc in ap area_of_phase same
removable_place area.Prepared owned p may is = let same : kind.Prepared ≡ p = cc in ap area_of_phase same
removable_place area.Run true p may is = let same : kind.Running ≡ p = cc in let clash : false ≡ true = ap is_removable same ∙ may in cc
removable_place area.Run false p may is = let same : kind.Exited ≡ p = cc in ap area_of_phase same
removable_place area.ExitedGarbage true p may is = let same : kind.Deleting ≡ p = cc in let clash : false ≡ true = ap is_removable same ∙ may in cc
removable_place area.ExitedGarbage false p may is = let same : kind.ExitedGarbage ≡ p = cc in ap area_of_phase same
removable_place area.Garbage true p may is = let same : kind.Deleting ≡ p = cc in let clash : false ≡ true = ap is_removable same ∙ may in cc
removable_place area.Garbage false p may is = let same : kind.Garbage ≡ p = cc in ap area_of_phase same
removable_place a owned p may is = cc

pub waits_there : (p : Phase) → is_removable p ≡ true → area_of_phase p ≡ area.Prepared → p ≡ kind.Prepared
waits_there kind.Prepared may at = refl
waits_there p may at = cc

unmoved_place : (p : Phase) → is_moved p ≡ false → area_of_phase p ≡ aside p
unmoved_place kind.AbortedPrepare is = cc
unmoved_place kind.Prepared is = cc
unmoved_place kind.Exited is = cc
unmoved_place kind.ExitedGarbage is = refl
unmoved_place p is = refl

pub put_grown : {pod : PodId} {me : ℕ} {a b : List Event} (p : Phase) → PutAway pod p me a b → Grew a b
put_grown {pod} {me} {a} {b} p put = over (is_moved p) refl
  where
    over : (c : Bool) → is_moved p ≡ c → Grew a b
    over true is = grown_by (put.only is)
    over false is = subst (λ (h : List Event). Grew a h) (sym (put.still is)) grown_none

apart : (pod : PodId) (spot : Spot) → (rank spot.area == rank area.Prepared) ≡ false → spot_eq spot (pod_spot pod area.Prepared) ≡ false
apart pod spot other = rw other refl

pub rm_changed_off : (pod : PodId) (now : ℕ) (request : Request) → (is_kill request || in_process (removes pod now) request) ≡ true → (inner : Inner) → changed request ≡ Some inner → spot_eq inner.spot (pod_spot pod area.Prepared) ≡ false
rm_changed_off pod now (MakeDirIn i) h inner is = cc
rm_changed_off pod now (AppendIn i piece) h inner is = cc
rm_changed_off pod now (MakeFileIn i) h inner is =
    let same : i ≡ inner = cc in
    let asked = or_nothing (removes pod now (MakeFileIn i)) h in
    let run = and_left (rank area.Run == rank i.spot.area) _ (and_left (spot_eq (pod_spot pod area.Run) i.spot) _ asked) in
    subst (λ (x : Inner). spot_eq x.spot (pod_spot pod area.Prepared) ≡ false) same (apart pod i.spot (run_prepared i.spot.area run))
rm_changed_off pod now (RemoveFileIn i) h inner is =
    let same : i ≡ inner = cc in
    subst (λ (x : Inner). spot_eq x.spot (pod_spot pod area.Prepared) ≡ false) same (apart pod i.spot (garbage_apart i.spot.area (in_garbage pod now i.spot (or_nothing (removes pod now (RemoveFileIn i)) h))))
rm_changed_off pod now (RemoveDirIn i) h inner is =
    let same : i ≡ inner = cc in
    subst (λ (x : Inner). spot_eq x.spot (pod_spot pod area.Prepared) ≡ false) same (apart pod i.spot (garbage_apart i.spot.area (in_garbage pod now i.spot (or_nothing (removes pod now (RemoveDirIn i)) h))))
rm_changed_off pod now request h inner is = cc

-- a read of one state is that of another with the same folders and owners
same_in : (s t : DirState) (pod : PodId) → s.namespace.folders ≡ t.namespace.folders → ((k : ℕ) → is_owned s.namespace k ≡ is_owned t.namespace k) → (a : Area) (x y : Found) → x ≡ y → or_in s pod a x ≡ or_in t pod a y
same_in s t pod folders owned a x y later =
    let spot = pod_spot pod a in
    let at : folder_at s.namespace spot ≡ folder_at t.namespace spot = ap (λ (l : List (Option Spot)). position (is_at spot) l) folders in
    let held : is_owned_at s.namespace spot ≡ is_owned_at t.namespace spot = by (folder_at s.namespace spot) ∙ ap (is_owned_in t.namespace) at in
    rw (ap (λ (o : Option ℕ). is_some o) at, held, later) refl
  where
    by : (o : Option ℕ) → is_owned_in s.namespace o ≡ is_owned_in t.namespace o
    by None = refl
    by (Some k) = owned k

same_read : (s t : DirState) (pod : PodId) → s.namespace.folders ≡ t.namespace.folders → ((k : ℕ) → is_owned s.namespace k ≡ is_owned t.namespace k) → sequential_read s pod ≡ sequential_read t pod
same_read s t pod folders owned =
    let on = λ (a : Area) (x y : Found) (later : x ≡ y). same_in s t pod folders owned a x y later in
    on area.Embryo _ _ (on area.Prepare _ _ (on area.Prepared _ _ (on area.Run _ _ (on area.ExitedGarbage _ _ (on area.Garbage _ _ refl)))))

-- what is read stands there, in that phase
abbrev Is : DirState → PodId → Phase → Area → Type 0
Is s pod p a = (stands s.namespace (pod_spot pod a) ≡ true) × (phase_in a (is_owned_at s.namespace (pod_spot pod a)) ≡ Some p)

read_in : (s : DirState) (pod : PodId) (p : Phase) (a : Area) (x : Area) (later : Found) → or_in s pod x later ≡ At p a → (later ≡ At p a → Is s pod p a) → Is s pod p a
read_in s pod p a x later read rest = by (stands s.namespace (pod_spot pod x)) refl (phase_in x (is_owned_at s.namespace (pod_spot pod x))) refl read
  where
    by : (b : Bool) → stands s.namespace (pod_spot pod x) ≡ b → (o : Option Phase) → phase_in x (is_owned_at s.namespace (pod_spot pod x)) ≡ o → cond b (found_in x o) later ≡ At p a → Is s pod p a
    by false absent o phase is = rest is
    by true there None phase is = cc
    by true there (Some q) phase is =
        let at : x ≡ a = cc in
        let same : q ≡ p = cc in
        subst (λ (y : Area). Is s pod p y) at (there, phase ∙ ap Some same)

read_says : (s : DirState) (pod : PodId) (p : Phase) (a : Area) → sequential_read s pod ≡ At p a → Is s pod p a
read_says s pod p a read =
    read_in s pod p a area.Embryo _ read (λ r1. read_in s pod p a area.Prepare _ r1 (λ r2. read_in s pod p a area.Prepared _ r2 (λ r3. read_in s pod p a area.Run _ r3
    (λ r4. read_in s pod p a area.ExitedGarbage _ r4 (λ r5. read_in s pod p a area.Garbage Gone r5 (λ r6. cc))))))

any_look : (pod : PodId) (r : Request) → is_look_at (is_pod_spot pod) r ≡ true → is_look r ≡ true
any_look pod r is = look_wider (is_pod_spot pod) is_any_spot (λ spot its. refl) r is

module _ (pod : PodId) (now : ℕ) {me : ℕ} {old new : List Event} (ext : Extends (in_process (removes pod now)) me old new) (quiet : Quiet me old new) (idle : OwnsNothing me (state_after old).namespace) (conforming : IsConforming new)
    (begun : List Event) (begins : Extends opens me old begun) where
  abbrev pub s : DirState
  s = state_after old

  to_new : Grew old new
  to_new = record { more = quiet.more; grown = quiet.grown }

  to_begun : Grew old begun
  to_begun = grown_by begins

  -- the read of the first round, of the state before
  module _ (P : Phase → ℕ → List Event → List Event → Type 0) (x : List Event) (f : FoundAnd pod P me begun x) (upto : Grew f.between new) where
    first_same : SameNamespace me s.namespace (state_after begun).namespace
    first_same = end_quiet (extends_wider open_is_harmless begins) (quiet_between quiet grown_none to_begun (grown_more (grown_by f.looks) upto)) idle

    quiet_read : Quiet me begun f.between
    quiet_read = quiet_between quiet to_begun (grown_by f.looks) upto

    looks : Extends is_look me begun f.between
    looks = extends_wider (any_look pod) f.looks

    later_same : SameNamespace me (state_after begun).namespace (state_after f.between).namespace
    later_same = end_quiet (extends_wider look_is_harmless looks) quiet_read first_same.mine

    pub found_before : sequential_read s pod ≡ At f.phase f.area
    found_before = same_read s (state_after begun) pod (sym first_same.folders) (λ k. sym (first_same.owned k)) ∙ read_quiet looks quiet_read first_same.mine pod (At f.phase f.area) f.read

    its_phase : Is s pod f.phase f.area
    its_phase = read_says s pod f.phase f.area found_before

    pub found_place : f.area ≡ area_of_phase f.phase
    found_place = removable_place f.area (is_owned_at s.namespace (pod_spot pod f.area)) f.phase f.removable its_phase.1

    -- its folder, before and after the read
    pub found_folder : (k : ℕ) × (folder_at s.namespace (pod_spot pod (area_of_phase f.phase)) ≡ Some k)
    found_folder = some_number (folder_at s.namespace (pod_spot pod (area_of_phase f.phase)))
        (subst (λ (a : Area). stands s.namespace (pod_spot pod a) ≡ true) found_place its_phase.0)

    pub stands_read : stands (state_after f.between).namespace (pod_spot pod (area_of_phase f.phase)) ≡ true
    stands_read = subst (λ (a : Area). stands (state_after f.between).namespace (pod_spot pod a) ≡ true) found_place (ap (λ (l : List (Option Spot)). is_some (position (is_at (pod_spot pod f.area)) l)) (later_same.folders ∙ first_same.folders) ∙ its_phase.0)

  -- where it was brought to

  did_moved : (p : Phase) (a b : List Event) → Grew old a → (g : Grew a b) → Grew b new → PutAway pod p me a b → is_moved p ≡ true → stands (state_after b).namespace (pod_spot pod (aside p)) ≡ true
  did_moved p a b to_a g from_b put is =
      let here = area_of_phase p in
      let to = aside p in
      let did = put.moved is in
      let turn : Extends (puts_aside_only pod here to) me a b = extends_wider (λ r h. wider pod here to r h) (put.only is) in
      forward (λ z. stands z.namespace (pod_spot pod to) ≡ true) (puts_aside_only pod here to) me (λ z request reply h q. on_leaves pod here to me z request reply h q) did.each.1 (grown_more did.each.2 (grown_call did.each.3)) did.each.4 turn
      (quiet_between quiet to_a (grown_by turn) from_b) (moved_stands me (pod_spot pod here) (pod_spot pod to) did.each.0 did.each.1 did.each.3)
    where
      wider : (q : PodId) (here to : Area) (r : Request) → puts_aside q here to r ≡ true → puts_aside_only q here to r ≡ true
      wider q here to r h = or_last (lists_marks q here r) (puts_aside q here to r) h

  -- it stands there after that
  stands_aside : (p : Phase) (a b : List Event) → Grew old a → (g : Grew a b) → Grew b new → PutAway pod p me a b → stands (state_after a).namespace (pod_spot pod (area_of_phase p)) ≡ true → stands (state_after b).namespace (pod_spot pod (aside p)) ≡ true
  stands_aside p a b to_a g from_b put there = by (is_moved p) refl
    where
      by : (c : Bool) → is_moved p ≡ c → stands (state_after b).namespace (pod_spot pod (aside p)) ≡ true
      by true is = did_moved p a b to_a g from_b put is
      by false is = subst (λ (h : List Event). stands (state_after h).namespace (pod_spot pod (aside p)) ≡ true) (sym (put.still is)) (subst (λ (x : Area). stands (state_after a).namespace (pod_spot pod x) ≡ true) (unmoved_place p is) there)

  -- by the same folder
  pub folder_aside : (p : Phase) (k : ℕ) → folder_at s.namespace (pod_spot pod (area_of_phase p)) ≡ Some k → (a b : List Event) → Grew old a → Grew b new → PutAway pod p me a b → (h : List Event) × Grew h new × (folder_at (state_after h).namespace (pod_spot pod (aside p)) ≡ Some k)
  folder_aside p k at a b to_a from_b put = by (is_moved p) refl
    where
      by : (c : Bool) → is_moved p ≡ c → (h : List Event) × Grew h new × (folder_at (state_after h).namespace (pod_spot pod (aside p)) ≡ Some k)
      by true is =
          let y = moved_by (pod_spot pod (area_of_phase p)) (pod_spot pod (aside p)) me a b (put.moved is) in
          let one = one_number new conforming (pod_spot pod (area_of_phase p)) (stage_place p) old y.before to_new (grown_more y.rest from_b) k y.folder at y.was in
          (y.after, grown_more y.last from_b, y.is ∙ ap Some (sym one))
      by false is = (old, to_new, subst (λ (x : Area). folder_at s.namespace (pod_spot pod x) ≡ Some k) (unmoved_place p is) at)

  -- so it isn't missed

  missed_at : (place : Area) (a b : List Event) → Grew old a → Grew b new → MissedAt pod place me a b → stands (state_after a).namespace (pod_spot pod place) ≡ true → ⊥
  missed_at place a b to_a from_b m there =
      let still = untaken_at (removes pod now) (removes_late pod now) (pod_spot pod place) me ext quiet to_a from_b m.untaken m.absent there in
      let clash : true ≡ false = sym still ∙ m.absent.holds in cc

  absent_grown : {place : Area} (a b : List Event) → MissedAt pod place me a b → Grew a b
  absent_grown a b m = let g = at_grown m.absent in record { more = g.0; grown = g.1 }

  pub never_missed : (x : List Event) → Grew x new → MissedFirst pod me begun x → ⊥
  never_missed x rest m = by m.missed.so
    where
      last : Grew m.upto new
      last = grown_more m.rest rest

      by : WasMissed pod m.missed.phase me m.missed.between m.upto → ⊥
      by (inl y) =
          let upto = grown_more (absent_grown m.missed.between m.upto y) last in
          missed_at (area_of_phase m.missed.phase) m.missed.between m.upto (grown_more to_begun (grown_by m.missed.looks)) last y (stands_read (WasMissed pod) m.upto m.missed upto)
      by (inr y) =
          let p = m.missed.phase in
          let to_read = grown_more to_begun (grown_by m.missed.looks) in
          let from_mid = grown_more (absent_grown y.0 m.upto y.2) last in
          let put = put_grown p y.1 in
          missed_at (aside p) y.0 m.upto (grown_more to_read put) last y.2 (stands_aside p m.missed.between y.0 to_read put from_mid y.1 (stands_read (WasMissed pod) m.upto m.missed (grown_more put from_mid)))

  -- what was free

  pub claim_free : (p : Phase) → p ≡ kind.Prepared → (k : ℕ) → folder_at s.namespace (pod_spot pod area.Prepared) ≡ Some k → (a b : List Event) → Grew old a → Grew b new → ClaimWasFree pod p me a b → (has_file s.entries k (codes "pod") ≡ true) × (is_held_in me Claim Exclusive (Some k) s ≡ false)
  claim_free p is k at a b to_a from_b had =
      let y = had is in
      let g = at_grown y.free in
      let m = had_manifest (removes pod now) (removes_aside pod now) pod (λ request h inner c. rm_changed_off pod now request h inner c) y.folder me ext quiet (at_part to_a refl (grown_more (record { more = g.0; grown = g.1 }) from_b) y.found) in
      let one : y.folder ≡ k = let e : Some y.folder ≡ Some k = sym m.0 ∙ at in cc in (
        subst (λ (f : ℕ). has_file s.entries f (codes "pod") ≡ true) one m.1,
        turn_free ext quiet conforming to_a from_b pod area.Prepared refl k old to_new at Claim Exclusive y,
      )

  pub own_free : (p : Phase) (k : ℕ) → folder_at s.namespace (pod_spot pod (area_of_phase p)) ≡ Some k → (a b : List Event) → Grew old a → Grew b new → (t : TakenAway pod p me a b) → is_held_in me Own Exclusive (Some k) s ≡ false
  own_free p k at a b to_a from_b t =
      let first = grown_more to_a (put_grown p t.put) in
      let g = at_grown t.alone.found in
      let h = at_grown t.alone.free in
      let rest = grown_more (record { more = g.0; grown = g.1 }) (grown_more (record { more = h.0; grown = h.1 }) from_b) in
      let x = folder_aside p k at a t.between to_a rest t.put in
      turn_free ext quiet conforming first from_b pod (aside p) (stage_aside p) k x.0 x.1 x.2 Own Exclusive t.alone
