-- What a process notes in a pod in run is answered as its own.
use Rattle.std.proofs.Common.{◌≡◌, ◌⊎◌, inl, inr, ℕ, Bool, true, false, not, ◌&&◌, ◌||◌, cond, bytes_eq, nat_lt, Some, None, List, [], ◌∷◌, ◌++◌, length, drop, codes, refl, sym, ap, subst, ◌∙◌}
use Rattle.std.proofs.lemmas.Bool.Decides.{Decides-eqb}
use Rattle.std.proofs.lemmas.Slice.Eq.{starts_is}
use Rattle.std.proofs.lemmas.Bool.{or_left, and_parts}
use Rattle.plain_laws.proofs.Booleans.{clash}
use Rattle.plain_laws.proofs.Texts.{same_text}
use Rattle.dir_model.specs.declared.area.Area.{Area}
use Rattle.dir_model.specs.declared.area.Area.TheVariants as area
use Rattle.dir_model.specs.declared.event.Event.{Event}
use Rattle.dir_model.specs.declared.item.Inner.{Inner}
use Rattle.dir_model.specs.declared.request.DirError.{DirError}
use Rattle.dir_model.specs.declared.request.Request.{Request}
use Rattle.dir_model.specs.declared.request.Request.TheVariants.{MakeFileIn, AppendIn, SyncIn}
use Rattle.dir_model.specs.declared.request.Reply.TheVariants.{Refused}
use Rattle.dir_model.specs.Paths.{is_slash, is_empty, is_path, is_well_formed}
use Rattle.dir_model.specs.State.{DirState, folder_at, lives, spot_eq}
use Rattle.dir_model.specs.Trace.{state_after}
use Rattle.dir_model.specs.Replies.{is_reply, is_own_at, is_apps_request, refusal, refused_in, make_refusal, file_refusal, sync_refusal}
use Rattle.dir_model.proofs.Lists.{and_left, and_right, not_true, or_last, or_right_false}
use Rattle.dir_rules.specs.declared.seen.Entry.{Entry}
use Rattle.dir_rules.specs.declared.seen.Seen.{Seen}
use Rattle.dir_rules.specs.Marks.{has_slash, begins, parent, is_started_mark, is_status_file, status_directory}
use Rattle.dir_rules.specs.Seen.{inner_eq, is_own_mark, is_free, makes_at}
use Rattle.dir_rules.specs.Standing.{is_in, is_garbage, began_as, is_maker, is_remover, intends}
use Rattle.dir_rules.specs.LockRules.{lock_rules_allow}
use Rattle.dir_rules.specs.Rules.{allows, content_rules_allow, may_make_file_in, may_append_in, may_sync_in, may_note, may_mark, has_note, runs, spares_deleted_pod, is_dir, has_path_among, has_dir_among, has_file_among, is_in_directory}
use Rattle.dir_rules.specs.Anomalies.{folder_of, is_its_folder, is_place_error, is_store}
use Rattle.dir_rules.specs.Conforms.{seen_of}
use Rattle.dir_laws.proofs.Paths.{parent_in}
use Rattle.lifecycle.specs.Executions.{IsConforming}
use Rattle.lifecycle.proofs.Lists.{any_in, in_any}
use Rattle.folder_contents.specs.Entries.{entries_in}
use Rattle.folder_contents.proofs.Guards.{kinds_apart}
use Rattle.folder_contents.proofs.Spots.{one_location, in_area}
use Rattle.impossible_replies.proofs.AppRoots.{root_unowned}
use Rattle.impossible_replies.proofs.Brought.{no_starter, brought_as, owned_at}
use Rattle.impossible_replies.proofs.Makers.{made_free, appends, syncs}
use Rattle.impossible_replies.proofs.Movers.{starts}
use Rattle.impossible_replies.proofs.Noted.{Noted, noted}
use Rattle.impossible_replies.proofs.Origins.{at}
use Rattle.impossible_replies.proofs.Refusals.{place_told, told, unrefused}
use Rattle.impossible_replies.proofs.RunChanges.{makes_elsewhere}
use Rattle.impossible_replies.proofs.Runners.{runner_found}
use Rattle.impossible_replies.proofs.RunNotes.{is_noted, notes_old}
use Rattle.impossible_replies.proofs.Unrefused.{unowned, plain_unowned, note_plain, append_plain}
use Rattle.impossible_replies.proofs.Wholes.{Tidy, are_tidy}

-- the request makes, appends or syncs in a folder in run
abbrev pub is_noting : Request → Bool
is_noting (MakeFileIn inner) = is_in area.Run inner.spot.area
is_noting (AppendIn inner piece) = is_in area.Run inner.spot.area
is_noting (SyncIn inner) = is_in area.Run inner.spot.area
is_noting request = false

-- where a note's path lies
parent_none : (path : List ℕ) → has_slash path ≡ false → is_empty (parent path) ≡ true
parent_none [] h = refl
parent_none (b ∷ bs) h = ap (λ c. is_empty (cond c (b ∷ parent bs) [])) (or_right_false (is_slash b) (has_slash bs) h)

status_parent : (path : List ℕ) → is_status_file path ≡ true → parent path ≡ status_directory
status_parent path h =
    let x = and_parts (begins (codes "stage1/rootfs/rkt/status/") path && nat_lt 25 (length path)) (not (has_slash (drop 25 path))) h in
    let front : path ≡ codes "stage1/rootfs/rkt/status/" ++ drop 25 path =
    (starts_is Decides-eqb path (codes "stage1/rootfs/rkt/status/") _ refl).0 (and_left (begins (codes "stage1/rootfs/rkt/status/") path) (nat_lt 25 (length path)) x.0) in
    ap parent front ∙ parent_in status_directory (drop 25 path) (not_true (has_slash (drop 25 path)) x.1)

note_full : (path : List ℕ) → is_noted path ≡ true → is_empty path ≡ false
note_full [] h = cc
note_full (b ∷ bs) h = refl

note_inside : (es : List Entry) (path : List ℕ) → Tidy es → is_noted path ≡ true → is_in_directory path es ≡ true
note_inside es path tidy named = by (is_started_mark path) (is_status_file path) refl refl named
  where
    by : (a b : Bool) → is_started_mark path ≡ a → is_status_file path ≡ b → (a || b) ≡ true → (is_empty (parent path) || has_dir_among (parent path) es) ≡ true
    by true b e f h = or_left (is_empty (parent path)) (has_dir_among (parent path) es)
        (parent_none path (not_true (has_slash path) (and_right _ (not (has_slash path)) e)))
    by false true e f h = or_last (is_empty (parent path)) (has_dir_among (parent path) es) (ap (λ (l : List ℕ). has_dir_among l es) (status_parent path f) ∙ tidy.status)
    by false false e f h = cc

file_path : (path : List ℕ) (es : List Entry) → has_file_among path es ≡ true → has_path_among path es ≡ true
file_path path es h =
    let y = any_in (λ e. not (is_dir e.node) && bytes_eq e.path path) es h in
    in_any (λ e. bytes_eq e.path path) y.0 es y.1.0 (and_right (not (is_dir y.0.node)) (bytes_eq y.0.path path) y.1.1)

module _ (h : List Event) (p : ℕ) (conforming : IsConforming h) where
  abbrev s : Seen
  s = seen_of p h

  abbrev st : DirState
  st = state_after h

  -- a sync is of the folder itself, or of what it noted
  sync_plain : (i : Inner) → i.spot.area ≡ area.Run → may_sync_in s i area.Run ≡ true → is_apps_request st (SyncIn i) ≡ false
  sync_plain i run may = unowned h p i (λ k. by k (is_empty i.path) refl (and_right (runs s i.spot.name) (is_empty i.path || has_note s i) may))
    where
      none : (k : ℕ) (path : List ℕ) → is_empty path ≡ true → is_own_at st path (Some k) ≡ false
      none k [] e = root_unowned h k
      none k (b ∷ bs) e = cc

      by : (k : ℕ) (b : Bool) → is_empty i.path ≡ b → (b || has_note s i) ≡ true → is_own_at st i.path (Some k) ≡ false
      by k true e m = none k i.path e
      by k false e m =
          let y = any_in (inner_eq i) s.notes m in
          let same = same_text i.path y.0.path (and_parts (spot_eq i.spot y.0.spot) (bytes_eq i.path y.0.path) y.1.1).1 in
          subst (λ (l : List ℕ). is_own_at st l (Some k) ≡ false) (sym same) (plain_unowned h k y.0.path (notes_old h conforming p y.0 y.1.0).1.1)

  pub noting_plain : (request : Request) → is_noting request ≡ true → allows s request ≡ true → is_apps_request st request ≡ false
  noting_plain (MakeFileIn i) on may = note_plain h p i (sym (in_area area.Run i.spot.area on)) may
  noting_plain (AppendIn i piece) on may = append_plain h p i piece (sym (in_area area.Run i.spot.area on)) may
  noting_plain (SyncIn i) on may =
      let run = sym (in_area area.Run i.spot.area on) in
      sync_plain i run (subst (λ (a : Area). may_sync_in s i a ≡ true) run (and_left (may_sync_in s i i.spot.area) (spares_deleted_pod s i)
      (and_right (lock_rules_allow s.standing (SyncIn i)) (content_rules_allow s (SyncIn i)) may)))
  noting_plain request on may = cc

  module _ (living : lives (state_after h).namespace p ≡ true) where
    -- the pod that it runs, as it knows it
    pub record Runs (i : Inner) : Type 0 where
      pub folder : ℕ
      pub found : folder_at st.namespace i.spot ≡ Some folder
      pub tidy : Tidy (entries_in folder st.entries)
      pub noted : Noted (entries_in folder st.entries) s.notes i.spot.name

    here : (i : Inner) → i.spot.area ≡ area.Run → runs s i.spot.name ≡ true → Runs i
    here i run r =
        let f = runner_found h conforming p i.spot.name living r in
        record {
          folder = f.0;
          found = subst (λ (a : Area). folder_at st.namespace (at a i.spot.name) ≡ Some f.0) (sym run) f.1;
          tidy = are_tidy h conforming i.spot.name f.0 f.1;
          noted = noted h conforming p i.spot.name living r f.0 f.1;
        }

    note_stands : (i : Inner) → i.spot.area ≡ area.Run → (r : Runs i) → has_note s i ≡ true → has_file_among i.path (entries_in r.folder st.entries) ≡ true
    note_stands i run r had =
        let y = any_in (inner_eq i) s.notes had in
        let e = and_parts (spot_eq i.spot y.0.spot) (bytes_eq i.path y.0.path) y.1.1 in
        subst (λ (l : List ℕ). has_file_among l (entries_in r.folder st.entries) ≡ true) (sym (same_text i.path y.0.path e.1))
        (r.noted.stands y.0 y.1.0 (sym (one_location i.spot y.0.spot e.0) ∙ ap (λ (a : Area). at a i.spot.name) run))

    note_made : (i : Inner) → i.spot.area ≡ area.Run → may_note s i ≡ true → is_path i.path ≡ true → refusal st p (MakeFileIn i) ≡ None
    note_made i run may is =
        let a = and_parts (runs s i.spot.name) (is_noted i.path && not (has_note s i)) may in
        let b = and_parts (is_noted i.path) (not (has_note s i)) a.1 in
        let r = here i run a.0 in
        ap (refused_in (make_refusal i.path) st.entries) r.found
        ∙ made_free st.entries r.folder (entries_in r.folder st.entries) (λ path. (refl, refl)) i.path is (note_full i.path b.0) (r.tidy.dirs i.path b.0)
        (new r b.0 (not_true (has_note s i) b.1)) (note_inside (entries_in r.folder st.entries) i.path r.tidy b.0)
      where
        new : (r : Runs i) → is_noted i.path ≡ true → has_note s i ≡ false → has_file_among i.path (entries_in r.folder st.entries) ≡ false
        new r named off = by (has_file_among i.path (entries_in r.folder st.entries)) refl
          where
            by : (b : Bool) → has_file_among i.path (entries_in r.folder st.entries) ≡ b → b ≡ false
            by false e = refl
            by true e = clash (has_note s i)
                (subst (λ (a : Area). has_note s (record { spot = at a i.spot.name; path = i.path }) ≡ true) (sym run) (r.noted.files i.path named e)) off

    note_appended : (i : Inner) (piece : List ℕ) → i.spot.area ≡ area.Run → may_append_in s i area.Run ≡ true → refusal st p (AppendIn i piece) ≡ None
    note_appended i piece run may =
        let a = and_parts (runs s i.spot.name) (is_status_file i.path && has_note s i) may in
        let r = here i run a.0 in
        ap (refused_in (file_refusal i.path) st.entries) r.found
        ∙ appends st.entries r.folder (entries_in r.folder st.entries) (λ path. (refl, refl)) i.path
        (note_stands i run r (and_right (is_status_file i.path) (has_note s i) a.1))

    note_synced : (i : Inner) → i.spot.area ≡ area.Run → may_sync_in s i area.Run ≡ true → refusal st p (SyncIn i) ≡ None
    note_synced i run may =
        let a = and_parts (runs s i.spot.name) (is_empty i.path || has_note s i) may in
        let r = here i run a.0 in
        ap (refused_in (sync_refusal i.path) st.entries) r.found
        ∙ syncs st.entries r.folder (entries_in r.folder st.entries) (λ path. (refl, refl)) i.path (by r (is_empty i.path) a.1)
      where
        by : (r : Runs i) (b : Bool) → (b || has_note s i) ≡ true → (b || has_path_among i.path (entries_in r.folder st.entries)) ≡ true
        by r true m = refl
        by r false m = file_path i.path (entries_in r.folder st.entries) (note_stands i run r m)

    -- a remover's mark is in a pod that isn't its own
    mark_strange : (i : Inner) → i.spot.area ≡ area.Run → is_its_folder s (Some i.spot) ≡ true → began_as is_remover s.standing ≡ true → ⊥
    mark_strange i run its began = kinds (brought_as h p conforming i.spot (owned_at s i.spot its (stranger (makes_at s.making i.spot) refl) (ap is_garbage run) (ap is_store run)) (ap is_garbage run))
      where
        stranger : (b : Bool) → makes_at s.making i.spot ≡ b → b ≡ false
        stranger false e = refl
        stranger true e = clash (is_in area.Run i.spot.area) (ap (is_in area.Run) run) (makes_elsewhere s.making i.spot e)

        kinds : ((is_in area.Run i.spot.area ≡ true) × (intends (λ k. starts k.kind) s.standing.intent ≡ true)) ⊎
            ((is_in area.Prepare i.spot.area ≡ true) × (intends (λ k. is_maker k.kind) s.standing.intent ≡ true)) → ⊥
        kinds (inl k) = kinds_apart starts is_remover no_starter s.standing.intent k.1 began
        kinds (inr k) = clash (is_in area.Prepare i.spot.area) k.0 (ap (is_in area.Prepare) run)

    pub noting_fine : (request : Request) (error : DirError) (left : ℕ) → is_noting request ≡ true → is_apps_request st request ≡ false → is_well_formed request ≡ true →
        allows s request ≡ true → is_reply st p request (Refused error left) ≡ true → is_place_error error ≡ true → is_its_folder s (folder_of request) ≡ true → ⊥
    noting_fine (MakeFileIn i) error left on plain formed may is place its =
        by (may_note s i) (may_mark s i) refl refl (subst (λ (a : Area). may_make_file_in s i a ≡ true) run (and_left (may_make_file_in s i i.spot.area) (spares_deleted_pod s i)
        (and_right (lock_rules_allow s.standing (MakeFileIn i)) (content_rules_allow s (MakeFileIn i)) may)))
      where
        run : i.spot.area ≡ area.Run
        run = sym (in_area area.Run i.spot.area on)

        by : (a b : Bool) → may_note s i ≡ a → may_mark s i ≡ b → (a || b) ≡ true → ⊥
        by true b e f x = unrefused error (refusal st p (MakeFileIn i)) (told st p (MakeFileIn i) error left plain refl (place_told error place) is) (note_made i run e formed)
        by false true e f x = mark_strange i run its (and_left (began_as is_remover s.standing) (is_own_mark s.standing.intent i.path && is_free s i.spot) f)
        by false false e f x = cc
    noting_fine (AppendIn i piece) error left on plain formed may is place its =
        let run = sym (in_area area.Run i.spot.area on) in
        unrefused error (refusal st p (AppendIn i piece)) (told st p (AppendIn i piece) error left plain refl (place_told error place) is)
        (note_appended i piece run (subst (λ (a : Area). may_append_in s i a ≡ true) run (and_left (may_append_in s i i.spot.area) (spares_deleted_pod s i)
        (and_right (lock_rules_allow s.standing (AppendIn i piece)) (content_rules_allow s (AppendIn i piece)) may))))
    noting_fine (SyncIn i) error left on plain formed may is place its =
        let run = sym (in_area area.Run i.spot.area on) in
        unrefused error (refusal st p (SyncIn i)) (told st p (SyncIn i) error left plain refl (place_told error place) is)
        (note_synced i run (subst (λ (a : Area). may_sync_in s i a ≡ true) run (and_left (may_sync_in s i i.spot.area) (spares_deleted_pod s i)
        (and_right (lock_rules_allow s.standing (SyncIn i)) (content_rules_allow s (SyncIn i)) may))))
    noting_fine request error left on plain formed may is place its = cc
