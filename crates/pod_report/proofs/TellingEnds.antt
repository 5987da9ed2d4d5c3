-- The ends of several apps, one after the other.
use Rattle.std.proofs.Common.{◌≡◌, ◌⊎◌, inl, inr, ◌+◌, ℕ, Bool, true, false, ◌||◌, bytes_eq, Option, Some, None, MatchOption, List, [], ◌∷◌, ◌++◌, take, refl, sym, ap, subst, ◌∙◌, append-nil}
use Rattle.std.specs.List.{AllByRecursion}
use Rattle.std.specs.List.Sorted.{IsStrictlySortedBy}
use Rattle.std.specs.Ordering.{nat_cmp}
use Rattle.std.specs.Cmp.Lexicographic.{slice_cmp}
use Rattle.std.proofs.lemmas.Slice.Eq.{bytes_eq-Decides}
use Rattle.plain_laws.proofs.Booleans.{clash}
use Rattle.dir_model.specs.declared.area.Area.{Area}
use Rattle.dir_model.specs.declared.event.Event.{Event}
use Rattle.dir_model.specs.declared.item.Item.{Item}
use Rattle.dir_model.specs.declared.pod.PodId.{PodId}
use Rattle.dir_model.specs.declared.spot.Spot.{Spot}
use Rattle.dir_model.specs.declared.request.DirError.TheVariants.{Missing}
use Rattle.dir_model.specs.declared.request.Request.{Request}
use Rattle.dir_model.specs.declared.request.Request.TheVariants.{ListIn}
use Rattle.dir_model.specs.declared.request.Reply.TheVariants.{Refused}
use Rattle.dir_model.specs.Calls.{AtOwnStep}
use Rattle.dir_model.specs.Listings.{has_name, item_names}
use Rattle.dir_model.specs.State.{DirState}
use Rattle.dir_model.proofs.Lists.{all_push, all_weaker, map_push}
use Rattle.dir_model.proofs.Moments.{at_within, at_weaker}
use Rattle.dir_rules.specs.Marks.{status_directory}
use Rattle.dir_trait.specs.DirCalls.{DirAt, ListCall}
use Rattle.dir_files.specs.Listed.{ShowsDirectoryBetween}
use Rattle.dir_files.specs.Reads.{inner_at, file_at, TellsFile, IsPiece}
use Rattle.dir_files.proofs.Folders.{tells_absent}
use Rattle.dir_model.specs.Spots.{pod_spot}
use Rattle.pod_lookup.proofs.InOrder.{has_push}
use Rattle.pod_report.specs.declared.ends.AppEndText.{AppEndText}
use Rattle.pod_report.specs.Ends.{IsStatusText, IsNoStatus, status_file, HasEndedIn, HasNoEndIn, ended_apps}
use Rattle.pod_report.specs.Inspections.{TellsMarks, TellsEnd, AddsAppEnd, TellsEachEnd, TellsEnds}
use Rattle.pod_report.specs.Requests.{OnlyAsksFor}
use Rattle.pod_report.specs.Snapshot.{IsSublist}
use Rattle.pod_report.proofs.MissingDirectory.{tells_lacking}
use Rattle.pod_report.proofs.StatusFiles.{status_own}
use Rattle.pod_report.proofs.StatusTexts.{piece_ended, piece_none}
use Rattle.pod_report.proofs.Telling.{part_skip, part_keep}

module _ (pod : PodId) (area : Area) where
  -- what a file told
  told_step : {me : ℕ} {old new : List Event} (app : List ℕ) (P : Option (List ℕ) → Type 0) → AtOwnStep me old new (TellsFile (status_file pod area app) P) → AtOwnStep me old new (λ s. P (file_at s (status_file pod area app)))
  told_step app P at = record { before = at.before; step = at.step; later = at.later; rest = at.rest; begins = at.begins; ends = at.ends; own = at.own; holds = at.holds (status_own (at.before ++ at.step ∷ []) (status_file pod area app) (47 ∷ app) refl) }

  pub end_told : {me : ℕ} {old new : List Event} (app bytes : List ℕ) (found : Option ℕ) → MatchOption found (IsNoStatus bytes) (λ n. IsStatusText n bytes) → AtOwnStep me old new (TellsFile (status_file pod area app) (IsPiece 0 5 bytes)) → TellsEnd pod area app found me old new
  end_told app bytes (Some n) is at = at_weaker (HasEndedIn pod area app n) (λ s piece. record { bytes = bytes; file = piece_ended n bytes (file_at s (status_file pod area app)) piece is; is = is }) (told_step app (IsPiece 0 5 bytes) at)
  end_told app bytes None is at = at_weaker (HasNoEndIn pod area app) (λ s piece n has. piece_none n bytes has.bytes (file_at s (status_file pod area app)) piece is has.file has.is) (told_step app (IsPiece 0 5 bytes) at)

  pub end_missing : {me : ℕ} {old new : List Event} (app : List ℕ) → AtOwnStep me old new (TellsFile (status_file pod area app) (λ file. file ≡ None)) → TellsEnd pod area app None me old new
  end_missing app at = at_weaker (HasNoEndIn pod area app) (λ s missing n has. let e : None ≡ Some has.bytes = sym missing ∙ has.file in cc) (told_step app (λ file. file ≡ None) at)

  -- of no file
  pub tells_none : {me : ℕ} {d : List Event} → TellsEachEnd pod area [] [] me d d
  tells_none = record { part = refl; each = tt; left = λ name is off. cc }

  pub end_added : {me : ℕ} {old new : List Event} (app : List ℕ) (status : ℕ) (before after : List AppEndText) → after ≡ before ++ record { app = app; status = status } ∷ [] → TellsEnd pod area app (Some status) me old new → AddsAppEnd pod area app before after me old new
  end_added app status before after is at = inr (status, is, at)

  none_left : (xs : List Event) → xs ≡ xs ++ []
  none_left xs = sym (append-nil xs)

  -- one file more
  module _ {me : ℕ} (names : List (List ℕ)) (name : List ℕ) (ends after : List AppEndText) (old mid new : List Event) (first last : List Event) (begins : mid ≡ old ++ first) (goes : new ≡ mid ++ last) (so_far : TellsEachEnd pod area names ends me old mid) where
    earlier : {P : DirState → Type 0} → AtOwnStep me old mid P → AtOwnStep me old new P
    earlier at = at_within [] last (none_left old) goes at

    later : {P : DirState → Type 0} → AtOwnStep me mid new P → AtOwnStep me old new P
    later at = at_within first [] begins (none_left new) at

    each_before : AllByRecursion (λ (e : AppEndText). AtOwnStep me old new (HasEndedIn pod area e.app e.status)) ends
    each_before = all_weaker (λ (e : AppEndText). AtOwnStep me old mid (HasEndedIn pod area e.app e.status)) (λ (e : AppEndText). AtOwnStep me old new (HasEndedIn pod area e.app e.status)) (λ e at. earlier at) ends so_far.each

    either : (a b : Bool) → (a || b) ≡ true → (a ≡ true) ⊎ (b ≡ true)
    either true b h = inl refl
    either false b h = inr h

    front_off : (a b : Bool) → (a || b) ≡ false → (a ≡ false) × (b ≡ false)
    front_off false false h = (refl, refl)
    front_off true b h = cc
    front_off false true h = cc

    parts : (n : List ℕ) → has_name (names ++ name ∷ []) n ≡ true → (has_name names n ≡ true) ⊎ (bytes_eq name n ≡ true)
    parts n h = either (has_name names n) (bytes_eq name n) (sym (has_push names name n) ∙ h)

    pub each_more : AddsAppEnd pod area name ends after me mid new → TellsEachEnd pod area (names ++ name ∷ []) after me old new
    each_more (inl (is, none)) = subst (λ (l : List AppEndText). TellsEachEnd pod area (names ++ name ∷ []) l me old new) (sym is) (record {
      part = part_skip (ended_apps ends) names name so_far.part;
      each = each_before;
      left = λ n there off. by n off (parts n there);
    })
      where
        by : (n : List ℕ) → has_name (ended_apps ends) n ≡ false → (has_name names n ≡ true) ⊎ (bytes_eq name n ≡ true) → AtOwnStep me old new (HasNoEndIn pod area n)
        by n off (inl there) = earlier (so_far.left n there off)
        by n off (inr same) = subst (λ (m : List ℕ). AtOwnStep me old new (HasNoEndIn pod area m)) ((bytes_eq-Decides name n).0 same) (later none)
    each_more (inr (status, is, ended)) = subst (λ (l : List AppEndText). TellsEachEnd pod area (names ++ name ∷ []) l me old new) (sym is) (record {
      part = subst (λ (l : List (List ℕ)). IsSublist l (names ++ name ∷ [])) (sym pushed) (part_keep (ended_apps ends) names name so_far.part);
      each = all_push (λ (e : AppEndText). AtOwnStep me old new (HasEndedIn pod area e.app e.status)) ends (record { app = name; status = status }) each_before (later ended);
      left = λ n there off. by n (front_off (has_name (ended_apps ends) n) (bytes_eq name n) (sym (has_push (ended_apps ends) name n) ∙ (ap (λ (l : List (List ℕ)). has_name l n) (sym pushed) ∙ off))) (parts n there);
    })
      where
        pushed : ended_apps (ends ++ record { app = name; status = status } ∷ []) ≡ ended_apps ends ++ name ∷ []
        pushed = map_push (λ (e : AppEndText). e.app) ends (record { app = name; status = status })

        by : (n : List ℕ) → (has_name (ended_apps ends) n ≡ false) × (bytes_eq name n ≡ false) → (has_name names n ≡ true) ⊎ (bytes_eq name n ≡ true) → AtOwnStep me old new (HasNoEndIn pod area n)
        by n off (inl there) = earlier (so_far.left n there off.0)
        by n off (inr same) = clash (bytes_eq name n) same off.1

  -- the same of the first so many items
  pub each_taken : {me : ℕ} (items : List Item) (i : ℕ) (item : Item) (ends after : List AppEndText) (old mid new : List Event) (first last : List Event) → mid ≡ old ++ first → new ≡ mid ++ last → TellsEachEnd pod area (item_names (take i items)) ends me old mid → take (i + 1) items ≡ take i items ++ item ∷ []
      → AddsAppEnd pod area item.name ends after me mid new → TellsEachEnd pod area (item_names (take (i + 1) items)) after me old new
  each_taken {me} items i item ends after old mid new first last begins goes so_far more adds =
      subst (λ (l : List (List ℕ)). TellsEachEnd pod area l after me old new) (sym (ap item_names more ∙ map_push (λ (x : Item). x.name) (take i items) item))
      (each_more (item_names (take i items)) item.name ends after old mid new first last begins goes so_far adds)

-- the directory was listed, and then each file in it read
pub ends_shown : {observed : Bool} {asks asks' : Request → Bool} (pod : PodId) (area : Area) (spot : Spot) (items shown : List Item) (ends : List AppEndText) (old mid new : DirAt) → spot ≡ pod_spot pod area → shown ≡ items → observed ≡ true → OnlyAsksFor observed asks old mid → OnlyAsksFor observed asks' mid new → IsStrictlySortedBy (slice_cmp nat_cmp) (item_names items)
    → ShowsDirectoryBetween old mid (inner_at spot status_directory) items → TellsEachEnd pod area (item_names shown) ends mid.process mid.trace new.trace → TellsEnds pod area ends old.process old.trace new.trace
ends_shown pod area spot items shown ends old mid new is same t first last rise shows each = inl (record {
  between = mid.trace;
  moment = record { first = (first.extends t).more; last = (last.extends t).more; begins = (first.extends t).grown; ends = (last.extends t).grown };
  items = items;
  rise = rise;
  shows = subst (λ (s : Spot). ShowsDirectoryBetween old mid (inner_at s status_directory) items) is shows;
  each = subst (λ (l : List Item). TellsEachEnd pod area (item_names l) ends old.process mid.trace new.trace) same (subst (λ (me : ℕ). TellsEachEnd pod area (item_names shown) ends me mid.trace new.trace) first.same each);
})

-- the directory was missing
pub ends_missing : {observed : Bool} (pod : PodId) (area : Area) (spot : Spot) (ends : List AppEndText) (old new : DirAt) → spot ≡ pod_spot pod area → ends ≡ [] → observed ≡ true → ListCall observed old (ListIn (inner_at spot status_directory)) (Refused Missing 0) new → TellsEnds pod area ends old.process old.trace new.trace
ends_missing {observed} pod area spot ends old new is none t called =
    inr (none, tells_lacking (inner_at (pod_spot pod area) status_directory) (λ h. status_own h (inner_at (pod_spot pod area) status_directory) [] refl) t (subst (λ (s : Spot). ListCall observed old (ListIn (inner_at s status_directory)) (Refused Missing 0) new) is called))

-- and the folder
pub marks_missing : {observed : Bool} (pod : PodId) (area : Area) (spot : Spot) (old new : DirAt) → spot ≡ pod_spot pod area → observed ≡ true → ListCall observed old (ListIn (inner_at spot [])) (Refused Missing 0) new → TellsMarks pod area None old.process old.trace new.trace
marks_missing {observed} pod area spot old new is t called = inr (tells_absent t (subst (λ (s : Spot). ListCall observed old (ListIn (inner_at s [])) (Refused Missing 0) new) is called))
