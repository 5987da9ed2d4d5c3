-- Where nobody else steps, `rm` is refused exactly for what the state before asks for.
use Rattle.std.proofs.Common.{◌≡◌, inl, inr, ◌&&◌, ℕ, Bool, true, false, not, ◌==◌, cond, codes, Option, Some, None, is_some, List, ◌++◌, refl, sym, ap, subst, ◌∙◌}
use Rattle.dir_model.specs.declared.area.Area.{Area}
use Rattle.dir_model.specs.declared.area.Area.TheVariants as area
use Rattle.dir_model.specs.declared.area.Phase.{Phase}
use Rattle.dir_model.specs.declared.area.Phase.TheVariants as kind
use Rattle.dir_model.specs.declared.event.Event.{Event}
use Rattle.dir_model.specs.declared.opening.Opening.{Opening}
use Rattle.dir_model.specs.declared.pod.PodId.{PodId}
use Rattle.dir_model.specs.declared.spot.Mode.{Mode}
use Rattle.dir_model.specs.declared.spot.Mode.TheVariants.{Shared, Exclusive}
use Rattle.dir_model.specs.declared.spot.Which.{Which}
use Rattle.dir_model.specs.declared.spot.Which.TheVariants.{Own, Claim}
use Rattle.dir_model.specs.Areas.{is_stage, phase_in}
use Rattle.dir_model.specs.Calls.{Extends}
use Rattle.dir_model.specs.Locks.{is_folder, opposes}
use Rattle.dir_model.specs.Quiet.{Quiet, OwnsNothing}
use Rattle.dir_model.specs.State.{DirState, folder_at, stands, is_owned_at}
use Rattle.dir_model.specs.Trace.{state_after}
use Rattle.dir_model.specs.Trees.{has_file}
use Rattle.dir_model.proofs.Lists.{any_fewer}
use Rattle.dir_model.proofs.Moments.{at_grown}
use Rattle.lifecycle.specs.Executions.{IsConforming}
use Rattle.lifecycle.proofs.Draws.{conforming_left}
use Rattle.phase_read.specs.declared.found.Found.{Found}
use Rattle.phase_read.specs.declared.found.Found.TheVariants.{At, Gone}
use Rattle.dir_model.specs.Spots.{pod_spot}
use Rattle.phase_read.specs.Sequential.{sequential_read, found_in}
use Rattle.pod_locks.specs.ClaimCauses.{IsPreparedWithoutManifest, is_lock}
use Rattle.pod_locks.specs.Work.{Grew}
use Rattle.pod_locks.proofs.Times.{at_part}
use Rattle.pod_locks.proofs.Traces.{grown_more, grown_by}
use Rattle.pod_locks.specs.Causes.{is_held_against, PodHeldByAnother}
use Rattle.pod_gc.specs.RemovalRequests.{is_removable, aside, area_of_phase, removes}
use Rattle.pod_gc.specs.RemovalCauses.{asked_mode}
use Rattle.pod_gc.specs.Found.{ClaimWasFree, TakenAway, RefusedAt, RefusedAside, LockWasRefused, FoundAnd}
use Rattle.command_outcomes.specs.declared.refusal.Refusal.{Refusal}
use Rattle.command_outcomes.specs.declared.refusal.Refusal.TheVariants.{NoPod, WrongPhase, NoManifest, PodBusy}
use Rattle.commands.specs.Opening.{OnceFound, opens}
use Rattle.commands.specs.Rm.{RemovesPod, FindsPodBusy, ConformingHadPhase}
use Rattle.commands.specs.RemovalQuiet.{StandsNowhere, HasPhaseNow}
use Rattle.commands.specs.RemovalTable.{is_held_in, is_held_at, has_manifest, own_refusal, waiting_refusal, place_refusal, found_refusal, removal_refusal}
use Rattle.commands.proofs.OwnSteps.{in_process}
use Rattle.commands.proofs.RmBefore.{lone, reads}
use Rattle.commands.proofs.GcTable.{held_at}
use Rattle.commands.proofs.GcLocks.{turn_held}
use Rattle.commands.proofs.Manifests.{had_manifest}
use Rattle.commands.proofs.RmLacking.{removes_aside}
use Rattle.commands.proofs.RmRounds.{waits_there, rm_changed_off, found_before, found_place, found_folder, folder_aside, put_grown, never_missed, claim_free, own_free}
use Rattle.pod_gc.proofs.Onward.{stage_place, stage_aside}

-- what one state asks for

module _ (me : ℕ) (pod : PodId) (s : DirState) (k : ℕ) where
  abbrev At_ : Area → Type 0
  At_ a = folder_at s.namespace (pod_spot pod a) ≡ Some k

  -- a prepared pod has its manifest, and nobody else holds its activation lock
  record Waits : Type 0 where
    manifest : has_file s.entries k (codes "pod") ≡ true
    unclaimed : is_held_in me Claim Exclusive (Some k) s ≡ false

  own_by : (b : Bool) (a : Area) → At_ a → is_held_in me Own Exclusive (Some k) s ≡ b → own_refusal me pod a s ≡ cond b (Some (PodBusy pod Own)) None
  own_by b a at is = ap (λ (c : Bool). cond c (Some (PodBusy pod Own)) None) (held_at me pod a s k at Own Exclusive ∙ is)

  with_manifest : At_ area.Prepared → has_file s.entries k (codes "pod") ≡ true → waiting_refusal me pod s ≡ cond (is_held_at me Claim Exclusive pod area.Prepared s) (Some (PodBusy pod Claim)) (own_refusal me pod area.Prepared s)
  with_manifest at is =
      ap (λ (c : Bool). cond c (cond (is_held_at me Claim Exclusive pod area.Prepared s) (Some (PodBusy pod Claim)) (own_refusal me pod area.Prepared s)) (Some (NoManifest pod))) (ap (λ (o : Option ℕ). has_manifest o s) at ∙ is)

  by_claim : (b : Bool) → At_ area.Prepared → is_held_in me Claim Exclusive (Some k) s ≡ b → cond (is_held_at me Claim Exclusive pod area.Prepared s) (Some (PodBusy pod Claim)) (own_refusal me pod area.Prepared s) ≡ cond b (Some (PodBusy pod Claim)) (own_refusal me pod area.Prepared s)
  by_claim b at is = ap (λ (c : Bool). cond c (Some (PodBusy pod Claim)) (own_refusal me pod area.Prepared s)) (held_at me pod area.Prepared s k at Claim Exclusive ∙ is)

  by_own : (b : Bool) (a : Area) → At_ a → (a ≡ area.Prepared → Waits) → is_held_in me Own Exclusive (Some k) s ≡ b → place_refusal me pod a s ≡ cond b (Some (PodBusy pod Own)) None
  by_own b area.Prepared at waits is = let w = waits refl in with_manifest at w.manifest ∙ (by_claim false at w.unclaimed ∙ own_by b area.Prepared at is)
  by_own b a at waits is = own_by b a at is

  claimed : At_ area.Prepared → has_file s.entries k (codes "pod") ≡ true → is_held_in me Claim Exclusive (Some k) s ≡ true → place_refusal me pod area.Prepared s ≡ Some (PodBusy pod Claim)
  claimed at manifest held = with_manifest at manifest ∙ by_claim true at held

-- who holds a lock against a shared one, holds it against an exclusive one
stronger : (me : ℕ) (which : Which) (mode : Mode) (k : ℕ) (o : Opening) → is_held_against me which mode k o ≡ true → is_held_against me which Exclusive k o ≡ true
stronger me which Exclusive k o is = is
stronger me which Shared k o is = by (not (o.process == me)) (is_folder k o.folder) (is_lock which o.target) o.lock is
  where
    by : (a b c : Bool) (l : Option Mode) → (a && (b && (c && opposes Shared l))) ≡ true → (a && (b && (c && opposes Exclusive l))) ≡ true
    by true true true (Some Shared) h = cc
    by true true true (Some Exclusive) h = refl
    by true true true None h = h
    by true true false l h = cc
    by true false c l h = cc
    by false b c l h = cc

pub held_more : (me : ℕ) (which : Which) (mode : Mode) (k : ℕ) (s : DirState) → is_held_in me which mode (Some k) s ≡ true → is_held_in me which Exclusive (Some k) s ≡ true
held_more me which mode k s held = by (is_held_in me which Exclusive (Some k) s) refl
  where
    by : (b : Bool) → is_held_in me which Exclusive (Some k) s ≡ b → b ≡ true
    by true is = refl
    by false is =
        let none = any_fewer (is_held_against me which mode k) (is_held_against me which Exclusive k) (λ o h. stronger me which mode k o h) s.namespace.openings is in
        let clash : true ≡ false = sym held ∙ none in cc

found_is : (me : ℕ) (pod : PodId) (s : DirState) (p : Phase) (a : Area) (why : Option Refusal) → sequential_read s pod ≡ At p a → is_removable p ≡ true → place_refusal me pod a s ≡ why → removal_refusal me pod s ≡ why
found_is me pod s p a why read may is = ap (found_refusal me pod s) read ∙ (ap (λ (b : Bool). cond b (place_refusal me pod a s) (Some (WrongPhase p))) may ∙ is)

-- none stood anywhere
pub none_read : (pod : PodId) (s : DirState) → StandsNowhere pod s → sequential_read s pod ≡ Gone
none_read pod s nowhere = over area.Embryo _ _ refl (over area.Prepare _ _ refl (over area.Prepared _ _ refl (over area.Run _ _ refl (over area.ExitedGarbage _ _ refl (over area.Garbage _ _ refl refl)))))
  where
    over : (a : Area) (later : Found) (found : Found) → is_stage a ≡ true → later ≡ found → cond (stands s.namespace (pod_spot pod a)) (found_in a (phase_in a (is_owned_at s.namespace (pod_spot pod a)))) later ≡ found
    over a later found stage is = rw (nowhere a stage, is) refl

pub none_refused : (me : ℕ) (pod : PodId) (s : DirState) → StandsNowhere pod s → removal_refusal me pod s ≡ Some NoPod
none_refused me pod s nowhere = ap (found_refusal me pod s) (none_read pod s nowhere)

-- one that stands in prepared is read there
pub prepared_read : (pod : PodId) (h : List Event) → IsConforming h → stands (state_after h).namespace (pod_spot pod area.Prepared) ≡ true → sequential_read (state_after h) pod ≡ At kind.Prepared area.Prepared
prepared_read pod h conforming there = reads pod h conforming kind.Prepared area.Prepared refl there refl (λ b stage apart. lone pod h conforming area.Prepared b refl stage there apart)

-- it had a phase that its removal doesn't take
pub wrong_refused : (me : ℕ) (pod : PodId) (p : Phase) (h : List Event) → is_removable p ≡ false → HasPhaseNow pod p h → removal_refusal me pod (state_after h) ≡ Some (WrongPhase p)
wrong_refused me pod p h wrong has = ap (found_refusal me pod (state_after h)) has.reads ∙ ap (λ (b : Bool). cond b (place_refusal me pod has.area (state_after h)) (Some (WrongPhase p))) wrong

-- it stood in prepared without its manifest
pub lacking_refused : (me : ℕ) (pod : PodId) (h : List Event) → IsConforming h → IsPreparedWithoutManifest pod (state_after h) → removal_refusal me pod (state_after h) ≡ Some (NoManifest pod)
lacking_refused me pod h conforming lacks =
    let s = state_after h in
    found_is me pod s kind.Prepared area.Prepared (Some (NoManifest pod)) (prepared_read pod h conforming (ap (λ (o : Option ℕ). is_some o) lacks.there)) refl
    (ap (λ (c : Bool). cond c (cond (is_held_at me Claim Exclusive pod area.Prepared s) (Some (PodBusy pod Claim)) (own_refusal me pod area.Prepared s)) (Some (NoManifest pod))) (ap (λ (o : Option ℕ). has_manifest o s) lacks.there ∙ lacks.without))

-- of a whole process
module _ (pod : PodId) (now : ℕ) {me : ℕ} {old new : List Event} (ext : Extends (in_process (removes pod now)) me old new) (quiet : Quiet me old new) (idle : OwnsNothing me (state_after old).namespace) (conforming : IsConforming new) where
  abbrev s : DirState
  s = state_after old

  to_new : Grew old new
  to_new = record { more = quiet.more; grown = quiet.grown }

  module _ (begun : List Event) (begins : Extends opens me old begun) (x : List Event) (from_x : Grew x new) where
    -- a prepared pod was such
    waited : (p : Phase) → is_removable p ≡ true → (k : ℕ) → folder_at s.namespace (pod_spot pod (area_of_phase p)) ≡ Some k → (a b : List Event) → Grew old a → Grew b new → ClaimWasFree pod p me a b → area_of_phase p ≡ area.Prepared → Waits me pod s k
    waited p may k at a b to_a from_b had here =
        let y = claim_free pod now ext quiet idle conforming begun begins p (waits_there p may here) k (subst (λ (q : Area). folder_at s.namespace (pod_spot pod q) ≡ Some k) here at) a b to_a from_b had in
        record { manifest = y.0; unclaimed = y.1 }

    -- of a pod that was found: what is so where it stood is the answer
    answer : (P : Phase → ℕ → List Event → List Event → Type 0) (f : FoundAnd pod P me begun x) (upto : Grew f.between new) (why : Option Refusal) → place_refusal me pod (area_of_phase f.phase) s ≡ why → removal_refusal me pod s ≡ why
    answer P f upto why is =
        found_is me pod s f.phase f.area why (found_before pod now ext quiet idle conforming begun begins P x f upto) f.removable
        (ap (λ (a : Area). place_refusal me pod a s) (found_place pod now ext quiet idle conforming begun begins P x f upto) ∙ is)

    to_read : (P : Phase → ℕ → List Event → List Event → Type 0) (f : FoundAnd pod P me begun x) → Grew old f.between
    to_read P f = grown_more (grown_by begins) (grown_by f.looks)

    held_grown : {place : Area} {which : Which} {mode : Mode} (a b : List Event) → PodHeldByAnother pod place which mode me a b → Grew a b
    held_grown a b h =
        let g = at_grown h.found in
        let l = at_grown h.held in
        grown_more (record { more = g.0; grown = g.1 }) (record { more = l.0; grown = l.1 })

    -- it was taken away
    taken : FoundAnd pod (TakenAway pod) me begun x → removal_refusal me pod s ≡ None
    taken f =
        let p = f.phase in
        let t = f.so in
        let g = at_grown t.alone.found in
        let l = at_grown t.alone.free in
        let from_mid = grown_more (grown_more (record { more = g.0; grown = g.1 }) (record { more = l.0; grown = l.1 })) from_x in
        let upto = grown_more (put_grown p t.put) from_mid in
        let first = to_read (TakenAway pod) f in
        let k = found_folder pod now ext quiet idle conforming begun begins (TakenAway pod) x f upto in
        answer (TakenAway pod) f upto None
        (by_own me pod s k.0 false (area_of_phase p) k.1 (λ here. waited p f.removable k.0 k.1 f.between t.between first from_mid t.put.claimed here)
        (own_free pod now ext quiet idle conforming begun begins p k.0 k.1 f.between x first from_x t))

    -- a lock was refused where it stood
    refused_there : (which : Which) (f : FoundAnd pod (LockWasRefused pod which) me begun x) → RefusedAt pod f.phase which me f.between x → removal_refusal me pod s ≡ Some (PodBusy pod which)
    refused_there which f r = by which refl r
      where
        by : (w : Which) → which ≡ w → RefusedAt pod f.phase which me f.between x → removal_refusal me pod s ≡ Some (PodBusy pod which)
        by w is y =
            let p = f.phase in
            let upto = grown_more (held_grown f.between x y.held) from_x in
            let first = to_read (LockWasRefused pod which) f in
            let k = found_folder pod now ext quiet idle conforming begun begins (LockWasRefused pod which) x f upto in
            let held = turn_held ext quiet conforming first from_x pod (area_of_phase p) (stage_place p) k.0 old to_new k.1 which (asked_mode which) y.held in
            answer (LockWasRefused pod which) f upto (Some (PodBusy pod which)) (at_place w is p f.removable k.0 k.1 first y held)
          where
            at_place : (w : Which) → which ≡ w → (p : Phase) → is_removable p ≡ true → (k : ℕ) → folder_at s.namespace (pod_spot pod (area_of_phase p)) ≡ Some k → Grew old f.between → RefusedAt pod p which me f.between x → is_held_in me which (asked_mode which) (Some k) s ≡ true → place_refusal me pod (area_of_phase p) s ≡ Some (PodBusy pod which)
            at_place Own is p may k at first y held =
                let own = subst (λ (w : Which). is_held_in me w (asked_mode w) (Some k) s ≡ true) is held in
                by_own me pod s k true (area_of_phase p) at (λ here. waited p may k at f.between x first from_x (y.claimed is) here) (held_more me Own Shared k s own) ∙ ap (λ (w : Which). Some (PodBusy pod w)) (sym is)
            at_place Claim is p may k at first y held =
                let prepared = y.waits is in
                let here : area_of_phase p ≡ area.Prepared = ap area_of_phase prepared in
                let claim = subst (λ (w : Which). is_held_in me w (asked_mode w) (Some k) s ≡ true) is held in
                let there = subst (λ (q : Area). folder_at s.namespace (pod_spot pod q) ≡ Some k) here at in
                ap (λ (q : Area). place_refusal me pod q s) here
                ∙ (claimed me pod s k there (manifest k there first (subst (λ (w : Which). PodHeldByAnother pod area.Prepared w (asked_mode w) me f.between x) is (subst (λ (q : Area). PodHeldByAnother pod q which (asked_mode which) me f.between x) here y.held))) claim
                ∙ ap (λ (w : Which). Some (PodBusy pod w)) (sym is))
              where
                manifest : (k : ℕ) → folder_at s.namespace (pod_spot pod area.Prepared) ≡ Some k → Grew old f.between → PodHeldByAnother pod area.Prepared Claim Exclusive me f.between x → has_file s.entries k (codes "pod") ≡ true
                manifest k there first h =
                    let l = at_grown h.held in
                    let m = had_manifest (removes pod now) (removes_aside pod now) pod (λ request a inner c. rm_changed_off pod now request a inner c) h.folder me ext quiet (at_part first refl (grown_more (record { more = l.0; grown = l.1 }) from_x) h.found) in
                    let one : h.folder ≡ k = let e : Some h.folder ≡ Some k = sym m.0 ∙ there in cc in
                    subst (λ (n : ℕ). has_file s.entries n (codes "pod") ≡ true) one m.1

    -- or where it was brought to
    refused_aside : (which : Which) (f : FoundAnd pod (LockWasRefused pod which) me begun x) → RefusedAside pod f.phase which me f.between x → removal_refusal me pod s ≡ Some (PodBusy pod which)
    refused_aside which f r =
        let p = f.phase in
        let from_mid = grown_more (held_grown r.between x r.held) from_x in
        let upto = grown_more (put_grown p r.put) from_mid in
        let first = to_read (LockWasRefused pod which) f in
        let k = found_folder pod now ext quiet idle conforming begun begins (LockWasRefused pod which) x f upto in
        let h = folder_aside pod now ext quiet idle conforming begun begins p k.0 k.1 f.between r.between first from_mid r.put in
        let held = turn_held ext quiet conforming (grown_more first (put_grown p r.put)) from_x pod (aside p) (stage_aside p) k.0 h.0 h.1 h.2 Own Exclusive r.held in
        answer (LockWasRefused pod which) f upto (Some (PodBusy pod which))
        (by_own me pod s k.0 true (area_of_phase p) k.1 (λ here. waited p f.removable k.0 k.1 f.between r.between first from_mid r.put.claimed here) held ∙ ap (λ (w : Which). Some (PodBusy pod w)) (sym r.own))

    refused : (which : Which) → FoundAnd pod (LockWasRefused pod which) me begun x → removal_refusal me pod s ≡ Some (PodBusy pod which)
    refused which f = elim f.so [ inl r ↦ refused_there which f r | inr r ↦ refused_aside which f r ]

  ending : {ended : List Event} (more : List Event) → new ≡ ended ++ more → Grew ended new
  ending more grown = record { more = more; grown = grown }

  pub rm_unrefused : OnceFound (RemovesPod pod) me old new → removal_refusal me pod s ≡ None
  rm_unrefused m = elim m.so.first [
    | inl f ↦ taken m.begun m.begins m.ended (ending m.finishes.more m.finishes.grown) f
    | inr missed ↦ absurd (never_missed pod now ext quiet idle conforming m.begun m.begins m.ended (ending m.finishes.more m.finishes.grown) missed)
  ]

  pub rm_busy_refused : (which : Which) → OnceFound (FindsPodBusy pod which) me old new → removal_refusal me pod s ≡ Some (PodBusy pod which)
  rm_busy_refused which m = elim m.so.first [
    | inl f ↦ refused m.begun m.begins m.ended (ending m.finishes.more m.finishes.grown) which f
    | inr missed ↦ absurd (never_missed pod now ext quiet idle conforming m.begun m.begins m.ended (ending m.finishes.more m.finishes.grown) missed)
  ]

  pub rm_wrong : (p : Phase) → OnceFound (ConformingHadPhase pod p) me old new → is_removable p ≡ false
  rm_wrong p m = (m.so (conforming_left m.ended m.finishes.more (subst IsConforming m.finishes.grown conforming))).wrong
