-- Where nobody else steps, a claim is refused for what the state before asks for.
use Rattle.std.proofs.Common.{◌≡◌, ◌&&◌, ◌==◌, ◌||◌, ℕ, Bool, true, false, not, cond, bytes_eq, codes, Option, Some, None, is_some, List, [], ◌∷◌, refl, sym, ap, subst, ◌∙◌}
use Rattle.std.specs.List.{list_any}
use Rattle.plain_laws.proofs.Booleans.{or_nothing}
use Rattle.dir_model.specs.declared.area.Area.TheVariants as area
use Rattle.dir_model.specs.declared.area.Phase.{Phase}
use Rattle.dir_model.specs.declared.area.Phase.TheVariants as kind
use Rattle.dir_model.specs.declared.event.Event.{Event}
use Rattle.dir_model.specs.declared.item.Inner.{Inner}
use Rattle.dir_model.specs.declared.opening.Opening.{Opening}
use Rattle.dir_model.specs.declared.pod.PodId.{PodId}
use Rattle.dir_model.specs.declared.spot.Spot.{Spot}
use Rattle.dir_model.specs.declared.spot.Mode.{Mode}
use Rattle.dir_model.specs.declared.spot.Mode.TheVariants.{Shared, Exclusive}
use Rattle.dir_model.specs.declared.spot.Which.{Which}
use Rattle.dir_model.specs.declared.spot.Which.TheVariants.{Own, Claim}
use Rattle.dir_model.specs.declared.tree.TreeEntry.{TreeEntry}
use Rattle.dir_model.specs.declared.request.DirError.TheVariants.{Missing}
use Rattle.dir_model.specs.declared.request.Request.{Request}
use Rattle.dir_model.specs.declared.request.Request.TheVariants.{MakeDirIn, MakeFileIn, AppendIn, RemoveFileIn, RemoveDirIn}
use Rattle.dir_model.specs.declared.request.Reply.{Reply}
use Rattle.dir_model.specs.Calls.{event, is_kill, Extends, AtOwnStep}
use Rattle.dir_model.specs.Locks.{is_folder, opposes}
use Rattle.dir_model.specs.Quiet.{Quiet}
use Rattle.dir_model.specs.State.{DirState, folder_at, spot_eq}
use Rattle.dir_model.specs.Trace.{state_after, state_next}
use Rattle.dir_model.specs.Trees.{is_dir, is_file_entry, has_file}
use Rattle.dir_model.proofs.Lists.{and_left}
use Rattle.dir_model.proofs.Moments.{at_grown, at_weaker}
use Rattle.lifecycle.specs.Executions.{IsConforming}
use Rattle.phase_read.specs.declared.found.Found.TheVariants.{At}
use Rattle.folder_contents.proofs.Spots.{one_location}
use Rattle.phase_read.specs.Sequential.{sequential_read}
use Rattle.pod_locks.specs.declared.claim_error.ClaimError.{ClaimError}
use Rattle.pod_locks.specs.declared.claim_error.ClaimError.TheVariants.{NoPod, WrongPhase, NoManifest, Busy}
use Rattle.pod_locks.specs.ClaimCauses.{is_prepared, is_lock, is_held_elsewhere, IsPreparedWithoutManifest, OpensThere, PreparedHeldByAnother, HadAlone, HadBothAlone, HadClaimBefore}
use Rattle.pod_locks.specs.ClaimRequests.{in_prepared, in_run}
use Rattle.pod_locks.specs.Work.{Grew}
use Rattle.pod_locks.proofs.Times.{at_part}
use Rattle.pod_locks.proofs.Traces.{grown_more}
use Rattle.pod_locks.specs.Causes.{is_held_against}
use Rattle.commands.specs.ClaimTable.{waiting_error, found_error, claim_error, IsWhy}
use Rattle.commands.specs.RemovalQuiet.{StandsNowhere, HasPhaseNow}
use Rattle.commands.specs.RemovalTable.{is_held_in, is_held_at, has_manifest}
use Rattle.commands.specs.RunPrepared.{runs_prepared}
use Rattle.commands.specs.RunQuiet.{IsClaimHeld}
use Rattle.commands.proofs.ClaimQuiet.{folder_back}
use Rattle.commands.proofs.FolderItems.{changed, any_replied}
use Rattle.commands.proofs.GcTable.{held_at}
use Rattle.commands.proofs.Openings.{free_before}
use Rattle.commands.proofs.OwnSteps.{in_process, back_at}
use Rattle.commands.proofs.RmTable.{none_read, prepared_read}

-- who holds a lock elsewhere stands against whoever wants it alone
opposes_some : (lock : Option Mode) → opposes Exclusive lock ≡ is_some lock
opposes_some None = refl
opposes_some (Some Shared) = refl
opposes_some (Some Exclusive) = refl

held_same : (me : ℕ) (which : Which) (k : ℕ) (os : List Opening) → list_any (is_held_against me which Exclusive k) os ≡ list_any (is_held_elsewhere me which k) os
held_same me which k [] = refl
held_same me which k (o ∷ os) =
    ap (λ b. (not (o.process == me) && (is_folder k o.folder && (is_lock which o.target && b))) || list_any (is_held_against me which Exclusive k) os) (opposes_some o.lock)
    ∙ ap (λ b. is_held_elsewhere me which k o || b) (held_same me which k os)

-- what one state asks for
module _ (me : ℕ) (pod : PodId) (s : DirState) where
  pub none_why : StandsNowhere pod s → IsWhy pod NoPod me s
  none_why nowhere = ap (found_error me pod s) (none_read pod s nowhere)

  waits_why : (why : Option ClaimError) → sequential_read s pod ≡ At kind.Prepared area.Prepared → waiting_error me pod s ≡ why → claim_error me pod s ≡ why
  waits_why why read is = ap (found_error me pod s) read ∙ is

  module _ (k : ℕ) (at : folder_at s.namespace (in_prepared pod) ≡ Some k) where
    abbrev locks : Option ClaimError
    locks = cond (is_held_at me Claim Exclusive pod area.Prepared s) (Some (Busy pod Claim)) (cond (is_held_at me Own Exclusive pod area.Prepared s) (Some (Busy pod Own)) None)

    with_manifest : (b : Bool) → has_file s.entries k (codes "pod") ≡ b → waiting_error me pod s ≡ cond b locks (Some NoManifest)
    with_manifest b is = ap (λ (c : Bool). cond c locks (Some NoManifest)) (ap (λ (o : Option ℕ). has_manifest o s) at ∙ is)

    is_held : (which : Which) → is_held_at me which Exclusive pod area.Prepared s ≡ is_held_in me which Exclusive (Some k) s
    is_held which = held_at me pod area.Prepared s k at which Exclusive

    locks_are : (c o : Bool) → is_held_in me Claim Exclusive (Some k) s ≡ c → is_held_in me Own Exclusive (Some k) s ≡ o → locks ≡ cond c (Some (Busy pod Claim)) (cond o (Some (Busy pod Own)) None)
    locks_are c o claim own =
        ap (λ (b : Bool). cond b (Some (Busy pod Claim)) (cond (is_held_at me Own Exclusive pod area.Prepared s) (Some (Busy pod Own)) None)) (is_held Claim ∙ claim)
        ∙ ap (λ (b : Bool). cond c (Some (Busy pod Claim)) (cond b (Some (Busy pod Own)) None)) (is_held Own ∙ own)

pub wrong_why : (me : ℕ) (pod : PodId) (p : Phase) (h : List Event) → is_prepared p ≡ false → HasPhaseNow pod p h → IsWhy pod (WrongPhase p) me (state_after h)
wrong_why me pod p h wrong has = ap (found_error me pod (state_after h)) has.reads ∙ ap (λ (b : Bool). cond b (waiting_error me pod (state_after h)) (Some (WrongPhase p))) wrong

pub lacking_why : (me : ℕ) (pod : PodId) (h : List Event) → IsConforming h → IsPreparedWithoutManifest pod (state_after h) → IsWhy pod NoManifest me (state_after h)
lacking_why me pod h conforming lacks =
    let s = state_after h in
    waits_why me pod s (Some NoManifest) (prepared_read pod h conforming (ap (λ (o : Option ℕ). is_some o) lacks.there)) (with_manifest me pod s lacks.folder lacks.there false lacks.without)

-- of a whole process
module _ (pod : PodId) {me : ℕ} {old new : List Event} (ext : Extends (in_process (runs_prepared pod)) me old new) (quiet : Quiet me old new) (conforming : IsConforming old) where
  abbrev s : DirState
  s = state_after old

  abbrev manifest : List ℕ
  manifest = codes "pod"

  -- no file comes to a folder in prepared, and none goes
  apart : (spot : Spot) → spot_eq spot (in_run pod) ≡ true → spot_eq spot (in_prepared pod) ≡ false
  apart spot is = subst (λ (x : Spot). spot_eq x (in_prepared pod) ≡ false) (sym (one_location spot (in_run pod) is)) refl

  off : (request : Request) → (is_kill request || in_process (runs_prepared pod) request) ≡ true → (inner : Inner) → changed request ≡ Some inner → spot_eq inner.spot (in_prepared pod) ≡ false
  off (MakeFileIn a) h inner is =
      let same : a ≡ inner = let e : Some a ≡ Some inner = is in cc in
      subst (λ (i : Inner). spot_eq i.spot (in_prepared pod) ≡ false) same (apart a.spot (or_nothing (runs_prepared pod (MakeFileIn a)) h))
  off (AppendIn a piece) h inner is =
      let same : a ≡ inner = let e : Some a ≡ Some inner = is in cc in
      subst (λ (i : Inner). spot_eq i.spot (in_prepared pod) ≡ false) same (apart a.spot (or_nothing (runs_prepared pod (AppendIn a piece)) h))
  off (MakeDirIn a) h inner is = cc
  off (RemoveFileIn a) h inner is = cc
  off (RemoveDirIn a) h inner is = cc
  off request h inner is = cc

  abbrev Has : ℕ → DirState → Type 0
  Has k x = (folder_at x.namespace (in_prepared pod) ≡ Some k) × (has_file x.entries k manifest ≡ true)

  its_entry : (k : ℕ) (e : TreeEntry) → is_file_entry k manifest e ≡ true → (e.folder == k) ≡ true
  its_entry k e is = and_left (e.folder == k) (bytes_eq e.path manifest) (and_left ((e.folder == k) && bytes_eq e.path manifest) (not (is_dir e.node)) is)

  has_back : (k : ℕ) (x : DirState) (request : Request) (reply : Reply) → (is_kill request || in_process (runs_prepared pod) request) ≡ true → Has k (state_next x (event me request reply)) → Has k x
  has_back k x request reply h y =
      let at = folder_back pod me k x request reply h y.0 in
      (at, sym (any_replied k (is_file_entry k manifest) (its_entry k) (in_prepared pod) x.namespace at x.entries request reply (λ inner is. off request h inner is)) ∙ y.1)

  opened : (b : Bool) → cond b None (Some Missing) ≡ None → b ≡ true
  opened true is = refl
  opened false is = cc

  -- the activation lock was opened: so it was before
  has_before : (k : ℕ) → AtOwnStep me old new (OpensThere pod Claim k) → Has k s
  has_before k at =
      back_at (Has k) (in_process (runs_prepared pod)) me (λ x request reply h y. has_back k x request reply h y)
      (at_weaker (Has k) (λ x y. (y.0, opened (has_file x.entries k manifest) y.1)) at) ext quiet

  stood_before : (which : Which) (k : ℕ) → AtOwnStep me old new (OpensThere pod which k) → folder_at s.namespace (in_prepared pod) ≡ Some k
  stood_before which k at =
      back_at (λ x. folder_at x.namespace (in_prepared pod) ≡ Some k) (in_process (runs_prepared pod)) me (λ x request reply h y. folder_back pod me k x request reply h y)
      (at_weaker (λ x. folder_at x.namespace (in_prepared pod) ≡ Some k) (λ x y. y.0) at) ext quiet

  -- a lock was had: nobody else held it
  free_then : (which : Which) {a b : List Event} → Grew old a → Grew b new → HadAlone pod which me a b →
      (k : ℕ) × (folder_at s.namespace (in_prepared pod) ≡ Some k) × (is_held_in me which Exclusive (Some k) s ≡ false) × (which ≡ Claim → has_file s.entries k manifest ≡ true)
  free_then which {a} {b} first last f =
      let g = at_grown f.free in
      let found : AtOwnStep me old new (OpensThere pod which f.folder) = at_part first refl (grown_more (record { more = g.0; grown = g.1 }) last) f.found in
      let h = at_grown f.found in (
        f.folder,
        stood_before which f.folder found,
        held_same me which f.folder s.namespace.openings
            ∙ free_before (λ o. is_folder f.folder o.folder && (is_lock which o.target && is_some o.lock)) (at_part (grown_more first (record { more = h.0; grown = h.1 })) refl last f.free) ext quiet,
        (λ is. (has_before f.folder (subst (λ (w : Which). AtOwnStep me old new (OpensThere pod w f.folder)) is found)).1),
      )

  prepared : (k : ℕ) → folder_at s.namespace (in_prepared pod) ≡ Some k → sequential_read s pod ≡ At kind.Prepared area.Prepared
  prepared k at = prepared_read pod old conforming (ap (λ (o : Option ℕ). is_some o) at)

  why_is : (k : ℕ) → folder_at s.namespace (in_prepared pod) ≡ Some k → has_file s.entries k manifest ≡ true → (c o : Bool) → is_held_in me Claim Exclusive (Some k) s ≡ c → is_held_in me Own Exclusive (Some k) s ≡ o →
      claim_error me pod s ≡ cond c (Some (Busy pod Claim)) (cond o (Some (Busy pod Own)) None)
  why_is k at has c o claim own = waits_why me pod s _ (prepared k at) (with_manifest me pod s k at true has ∙ locks_are me pod s k at c o claim own)

  claim_why : (k : ℕ) → folder_at s.namespace (in_prepared pod) ≡ Some k → has_file s.entries k manifest ≡ true → is_held_in me Claim Exclusive (Some k) s ≡ true → IsWhy pod (Busy pod Claim) me s
  claim_why k at has held =
      waits_why me pod s _ (prepared k at)
      (with_manifest me pod s k at true has ∙ ap (λ (b : Bool). cond b (Some (Busy pod Claim)) (cond (is_held_at me Own Exclusive pod area.Prepared s) (Some (Busy pod Own)) None)) (is_held me pod s k at Claim ∙ held))

  one : (j k : ℕ) → folder_at s.namespace (in_prepared pod) ≡ Some j → folder_at s.namespace (in_prepared pod) ≡ Some k → j ≡ k
  one j k p q = let e : Some j ≡ Some k = sym p ∙ q in cc

  -- another process held a lock
  pub busy_why : (which : Which) {begun ended : List Event} → Grew old begun → Grew ended new → PreparedHeldByAnother pod which me begun ended → HadClaimBefore pod which me begun ended → IsClaimHeld pod which me s → IsWhy pod (Busy pod which) me s
  busy_why Claim {begun} {ended} first last h had held =
      let g = at_grown h.held in
      let has = has_before h.folder (at_part first refl (grown_more (record { more = g.0; grown = g.1 }) last) h.found) in
      let same = one held.folder h.folder held.there has.0 in
      claim_why h.folder has.0 has.1 (held_same me Claim h.folder s.namespace.openings ∙ subst (λ (k : ℕ). list_any (is_held_elsewhere me Claim k) s.namespace.openings ≡ true) same held.held)
  busy_why Own {begun} {ended} first last h had held =
      let f = free_then Claim first last had in
      let same = one held.folder f.0 held.there f.1 in
      why_is f.0 f.1 (f.3 refl) false true f.2 (held_same me Own f.0 s.namespace.openings ∙ subst (λ (k : ℕ). list_any (is_held_elsewhere me Own k) s.namespace.openings ≡ true) same held.held)

  -- both locks were had
  pub claimed_why : {begun claimed : List Event} → Grew old begun → Grew claimed new → HadBothAlone pod me begun claimed → claim_error me pod s ≡ None
  claimed_why first last had =
      let c = free_then Claim first last had.claim in
      let o = free_then Own first last had.own in
      why_is c.0 c.1 (c.3 refl) false false c.2 (subst (λ (k : ℕ). is_held_in me Own Exclusive (Some k) s ≡ false) (one o.0 c.0 o.1 c.1) o.2)
