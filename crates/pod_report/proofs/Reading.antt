-- What a file that was read by one call tells of a manifest.
use Rattle.std.proofs.Common.{arith, ◌≡◌, ◌⊎◌, inl, inr, ◌≤◌, ◌<◌, ℕ, nat_le, Bool, true, false, ◌==◌, bytes_eq, Option, Some, None, IsSomeAnd, MatchOption, Result, Ok, Err, IfOk, Vec, Global, List, [], ◌∷◌, ◌++◌, length, take, drop, codes, refl, sym, ap, subst, ◌∙◌}
use Rattle.std.proofs.lemmas.Grind.{common_steps}
use Rattle.std.proofs.lemmas.Bool.Decides.{nat_tests}
use Rattle.std.proofs.lemmas.Bool.{eqb-true, or_left}
use Rattle.ac_types.specs.Outcomes.{fails, ◌>>=◌, ◌>>◌}
use Rattle.ac_types.specs.FieldForms.{an_object}
use Rattle.ac_types.specs.declared.fault.FaultKind.TheVariants.{TooLong}
use Rattle.manifest_parts.specs.DocumentForm.{document, if_short, known_json, json_of}
use Rattle.manifests.specs.PodData.{PodData, pod_data}
use Rattle.manifests.specs.PodForm.{pod_manifest, pod_kind, pod_fields}
use Rattle.dir_model.specs.declared.area.Area.{Area}
use Rattle.dir_model.specs.declared.event.Event.{Event}
use Rattle.dir_model.specs.declared.item.Inner.{Inner}
use Rattle.dir_model.specs.declared.pod.PodId.{PodId}
use Rattle.dir_model.specs.declared.request.Request.{Request}
use Rattle.dir_model.specs.declared.request.Request.TheVariants.{ReadIn}
use Rattle.dir_model.specs.Areas.{rank, is_stage}
use Rattle.plain_laws.proofs.Fronts.{taken_past}
use Rattle.dir_model.specs.Pods.{pod_text}
use Rattle.dir_model.specs.State.{DirState, stands, spot_eq}
use Rattle.dir_model.specs.Calls.{AtOwnStep}
use Rattle.dir_model.proofs.Lists.{and_left, and_right, and_both}
use Rattle.dir_model.proofs.Moments.{at_after, at_weaker}
use Rattle.dir_model.specs.Replies.{is_look_at}
use Rattle.dir_model.proofs.Spots.{look_wider}
use Rattle.dir_trait.specs.DirCalls.{DirAt, ExtendsBy, HeldBetween}
use Rattle.dir_trait.specs.Knowledge.{OnlyLooks}
use Rattle.phase_read.proofs.Stages.{pod_spot_only}
use Rattle.dir_files.specs.Reads.{inner_at, file_at, TellsFile, IsPiece, WasMissing, OnlyReads, reads_at}
use Rattle.dir_files.proofs.Reading.{missing_more}
use Rattle.dir_model.specs.Spots.{pod_spot}
use Rattle.phase_read.specs.Read.{is_pod_spot}
use Rattle.phase_read.proofs.Exact.{stage_of}
use Rattle.lifecycle.proofs.Looking.{at_most}
use Rattle.pod_report.proofs.Asking.{looks_read, looks_places}
use Rattle.pod_report.specs.Requests.{OnlyAsksFor, visits, reads_in}
use Rattle.pod_report.specs.declared.sight.Sight.{Sight}
use Rattle.pod_report.specs.declared.sight.Sight.TheVariants.{Moved, Lacking, Manifest}
use Rattle.pod_report.specs.Manifests.{IsManifestOf, IsNoManifest, HasManifestIn, HasUnreadable, manifest_in_area}
use Rattle.pod_report.specs.Sights.{IsSightOf, Sees, SeesNoFile}
use Rattle.gate_reading.specs.Files.{is_outside_stage1}
use Rattle.gate_reading.proofs.PlainPaths.{plain_own}

-- at a step the file was so, since its path is no app's own
pub plain_step : {me : ℕ} {old new : List Event} (inner : Inner) (P : Option (List ℕ) → Type 0) → is_outside_stage1 inner.path ≡ true → AtOwnStep me old new (TellsFile inner P) → AtOwnStep me old new (λ s. P (file_at s inner))
plain_step inner P plain at = record { before = at.before; step = at.step; later = at.later; rest = at.rest; begins = at.begins; ends = at.ends; own = at.own; holds = at.holds (plain_own (at.before ++ at.step ∷ []) inner plain) }

pub some_and : (o : Option (List ℕ)) (P : List ℕ → Type 0) → IsSomeAnd o P → (f : List ℕ) × (o ≡ Some f) × P f
some_and (Some f) P h = (f, refl, h)
some_and None P h = absurd h

taken_length : (n : ℕ) (xs : List ℕ) → n < length xs → length (take n xs) ≡ n
taken_length n xs long = grind (arith, common_steps)

taken_long : (xs : List ℕ) → 1048577 < length xs → nat_le (length (take 1048577 xs)) 1048576 ≡ false
taken_long xs long = ap (λ (n : ℕ). nat_le n 1048576) (taken_length 1048577 xs long)

is_long : (xs : List ℕ) → 1048577 < length xs → nat_le (length xs) 1048576 ≡ false
is_long xs long = grind (arith, nat_tests, common_steps)

long_manifest : (x : List ℕ) → nat_le (length x) 1048576 ≡ false → pod_manifest x ≡ fails (codes "$") TooLong
unfolding pod_manifest document
long_manifest x long = ap (λ b. ((if_short b x >>= λ text. known_json (json_of text) >>= λ d. an_object (codes "$") d) >>= λ d. pod_kind d >> pod_fields d)) long

-- a file reads as its first bytes do, one more than a manifest may have
pub same_reading : (file : List ℕ) → pod_manifest (take 1048577 file) ≡ pod_manifest file
same_reading file = by (at_most (length file) 1048577)
  where
    by : (length file ≤ 1048577) ⊎ (1048577 < length file) → pod_manifest (take 1048577 file) ≡ pod_manifest file
    by (inl l) = ap pod_manifest (taken_past 1048577 file l)
    by (inr l) = long_manifest (take 1048577 file) (taken_long file l) ∙ sym (long_manifest file (is_long file l))

module _ (pod : PodId) (area : Area) where
  abbrev file : Inner
  file = manifest_in_area pod area

  abbrev Told : List ℕ → DirAt → DirAt → Type 0
  Told bytes old new = AtOwnStep old.process old.trace new.trace (TellsFile file (IsPiece 0 1048577 bytes))

  has_manifest : (bytes : List ℕ) (manifest : PodData) → IsManifestOf manifest bytes → (s : DirState) → IsPiece 0 1048577 bytes (file_at s file) → HasManifestIn pod area manifest s
  has_manifest bytes manifest is s piece =
      let f = some_and (file_at s file) (λ f. bytes ≡ take 1048577 (drop 0 f)) piece in
      record { bytes = f.0; file = f.1; is = sym (same_reading f.0) ∙ (ap pod_manifest (sym f.2) ∙ is) }

  has_unreadable : (bytes : List ℕ) → IsNoManifest bytes → (s : DirState) → IsPiece 0 1048577 bytes (file_at s file) → HasUnreadable pod area s
  has_unreadable bytes none s piece =
      let f = some_and (file_at s file) (λ f. bytes ≡ take 1048577 (drop 0 f)) piece in
      record { bytes = f.0; file = f.1; none = λ m is. none m (ap pod_manifest f.2 ∙ (same_reading f.0 ∙ is)) }

  -- what is seen by bytes that were read
  pub sees_bytes : (bytes : List ℕ) (sight : Sight) (old new : DirAt) → IsSightOf bytes sight → Told bytes old new → Sees pod area sight old new
  sees_bytes bytes (Manifest m) old new is told = at_weaker (HasManifestIn pod area (pod_data m)) (has_manifest bytes (pod_data m) is) (plain_step file (IsPiece 0 1048577 bytes) refl told)
  sees_bytes bytes Lacking old new is told = inl (at_weaker (HasUnreadable pod area) (has_unreadable bytes is) (plain_step file (IsPiece 0 1048577 bytes) refl told))
  sees_bytes bytes Moved old new is told = absurd is

  -- and where no file was
  pub sees_missing : {observed : Bool} {asks : Request → Bool} (sight : Sight) (old mid new : DirAt) → observed ≡ true → OnlyAsksFor observed asks old mid → WasMissing file old mid → SeesNoFile pod area sight mid new → Sees pod area sight old new
  sees_missing (Manifest m) old mid new t only missing sees = absurd sees
  sees_missing Lacking old mid new t only missing sees = inr (record {
    between = mid.trace;
    missing = plain_step file (λ f. f ≡ None) refl missing;
    there = subst (λ (me : ℕ). AtOwnStep me mid.trace new.trace (λ s. stands s.namespace (pod_spot pod area) ≡ true)) only.same sees;
  })
  sees_missing Moved old mid new t only missing sees = at_after (only.extends t) only.same sees

  -- the read asks for this
  file_asked : (path : List ℕ) → rank area ≤ 5 → (r : Request) → reads_at (inner_at (pod_spot pod area) path) r ≡ true → visits pod r ≡ true
  file_asked path within (ReadIn inner at room) h =
      let here : spot_eq inner.spot (pod_spot pod area) ≡ true = and_left (spot_eq inner.spot (pod_spot pod area)) (bytes_eq inner.path path) h in
      let same = eqb-true (rank inner.spot.area) (rank area) (and_left (rank inner.spot.area == rank area) (bytes_eq inner.spot.name (pod_text pod.bytes)) here) in
      let stage : is_stage inner.spot.area ≡ true = ap (λ (n : ℕ). nat_le n 5) same ∙ stage_of area within in
      and_both (is_stage inner.spot.area) (bytes_eq inner.spot.name (pod_text pod.bytes)) stage (and_right (rank inner.spot.area == rank area) (bytes_eq inner.spot.name (pod_text pod.bytes)) here)
  file_asked path within r h = cc

  pub looks_file : {observed : Bool} {old new : DirAt} (path : List ℕ) → (observed ≡ true → rank area ≤ 5) → OnlyReads observed (inner_at (pod_spot pod area) path) old new → OnlyAsksFor observed (visits pod) old new
  looks_file path within o = looks_read (inner_at (pod_spot pod area) path) (λ t. stage_of area (within t)) (λ t. file_asked path (within t)) o

  look_asked : rank area ≤ 5 → (r : Request) → is_look_at (spot_eq (pod_spot pod area)) r ≡ true → visits pod r ≡ true
  look_asked within r h = or_left (is_look_at (is_pod_spot pod) r) (reads_in pod r) (look_wider (spot_eq (pod_spot pod area)) (is_pod_spot pod) (λ here is. pod_spot_only pod (pod_spot pod area) here within refl is) r h)

  -- a look at the place
  pub looks_place : {observed : Bool} {old new : DirAt} → (observed ≡ true → rank area ≤ 5) → new.process ≡ old.process → old.faults ≤ new.faults → new.local ≡ old.local → (observed ≡ true → ExtendsBy (is_look_at (spot_eq (pod_spot pod area))) old new) → (observed ≡ true → OnlyLooks old new) → OnlyAsksFor observed (visits pod) old new
  looks_place within same faults local extends looks = looks_places (λ t. look_asked (within t)) same faults local extends looks

-- a read of the pod's phase
pub looks_phase : (pod : PodId) {observed : Bool} {old new : DirAt} → new.process ≡ old.process → old.faults ≤ new.faults → new.local ≡ old.local → (observed ≡ true → ExtendsBy (is_look_at (is_pod_spot pod)) old new) → (observed ≡ true → OnlyLooks old new) → OnlyAsksFor observed (visits pod) old new
looks_phase pod same faults local extends looks = looks_places (λ t r h. or_left (is_look_at (is_pod_spot pod) r) (reads_in pod r) h) same faults local extends looks

-- the bytes that were kept are those that were read
pub kept_told : {observed : Bool} {E : Type 0} (inner : Inner) (room : ℕ) (bytes : List ℕ) {slice : List ℕ} (old new : DirAt) (r : Result (Option (Vec ℕ Global)) E) → slice ≡ bytes → (observed ≡ true → HeldBetween old new (TellsFile inner (IsPiece 0 room bytes))) → IfOk r (λ found. IsSomeAnd found (λ kept. kept.items ≡ slice)) → IfOk r (λ found. observed ≡ true → MatchOption found (WasMissing inner old new) (λ b. HeldBetween old new (TellsFile inner (IsPiece 0 room b.items))))
kept_told inner room bytes old new (Err e) same told kept = tt
kept_told inner room bytes old new (Ok None) same told kept = absurd kept
kept_told inner room bytes old new (Ok (Some v)) same told kept = λ t. subst (λ (l : List ℕ). HeldBetween old new (TellsFile inner (IsPiece 0 room l))) (sym (kept ∙ same)) (told t)

-- bytes that don't fill their room are the same in a larger one
short_within : (n : ℕ) (f : List ℕ) → length (take n f) < n → length f ≤ n
short_within n f short = by (at_most (length f) n)
  where
    by : (length f ≤ n) ⊎ (n < length f) → length f ≤ n
    by (inl l) = l
    by (inr l) = let full = taken_length n f l in absurd (omega (arith, short, full))

larger_piece : (small most : ℕ) (bytes : List ℕ) (file : Option (List ℕ)) → small ≤ most → length bytes < small → IsPiece 0 small bytes file → IsPiece 0 most bytes file
larger_piece small most bytes None within short piece = piece
larger_piece small most bytes (Some f) within short piece =
    let l = short_within small f (subst (λ (b : List ℕ). length b < small) piece short) in
    piece ∙ (taken_past small f l ∙ sym (taken_past most f (omega (arith, l, within))))

pub larger_told : {me : ℕ} {old new : List Event} (inner : Inner) (small most : ℕ) (bytes : List ℕ) → small ≤ most → length bytes < small → AtOwnStep me old new (TellsFile inner (IsPiece 0 small bytes)) → AtOwnStep me old new (TellsFile inner (IsPiece 0 most bytes))
larger_told inner small most bytes within short told = at_weaker (TellsFile inner (IsPiece 0 most bytes)) (λ s piece plain. larger_piece small most bytes (file_at s inner) within short (piece plain)) told

-- what a second read told
pub told_again : {observed : Bool} {E : Type 0} (inner : Inner) (most : ℕ) (old mid new : DirAt) (r : Result (Option (Vec ℕ Global)) E) → OnlyReads observed inner old mid → IfOk r (λ found. observed ≡ true → MatchOption found (WasMissing inner mid new) (λ b. HeldBetween mid new (TellsFile inner (IsPiece 0 most b.items)))) → IfOk r (λ found. observed ≡ true → MatchOption found (WasMissing inner old new) (λ b. HeldBetween old new (TellsFile inner (IsPiece 0 most b.items))))
told_again inner most old mid new (Err e) first told = tt
told_again inner most old mid new (Ok None) first told = λ t. missing_more new t first (told t)
told_again inner most old mid new (Ok (Some v)) first told = λ t. at_after (first.extends t) first.same (told t)
