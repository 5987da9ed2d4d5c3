-- A maker's changes, syncs and moves of its folder are answered as its own.
use Rattle.std.proofs.Common.{◌≡◌, ◌⊎◌, inl, inr, ℕ, Bool, true, false, not, ◌&&◌, ◌||◌, ◌==◌, cond, bytes_eq, nat_le, Option, Some, None, List, [], ◌∷◌, length, refl, sym, ap, subst, ◌∙◌}
use Rattle.std.specs.List.{list_any}
use Rattle.std.proofs.lemmas.Bool.{or_left, and_parts}
use Rattle.plain_laws.proofs.Booleans.{clash}
use Rattle.plain_laws.proofs.Texts.{same_text}
use Rattle.dir_model.specs.declared.area.Area.{Area}
use Rattle.dir_model.specs.declared.area.Area.TheVariants as area
use Rattle.dir_model.specs.declared.intent.Kind.{Kind}
use Rattle.dir_model.specs.declared.intent.Kind.TheVariants as kind
use Rattle.dir_model.specs.declared.item.Inner.{Inner}
use Rattle.dir_model.specs.declared.spot.Spot.{Spot}
use Rattle.dir_model.specs.declared.tree.TreeEntry.{TreeEntry}
use Rattle.dir_model.specs.declared.tree.TreeNode.{TreeNode}
use Rattle.dir_model.specs.declared.tree.TreeNode.TheVariants.{Dir, Piece}
use Rattle.dir_model.specs.declared.event.Event.{Event}
use Rattle.dir_model.specs.declared.request.DirError.{DirError}
use Rattle.dir_model.specs.declared.request.DirError.TheVariants.{Missing, Exists, NotEmpty, Locked, Failed, NoMemory}
use Rattle.dir_model.specs.declared.request.Request.{Request}
use Rattle.dir_model.specs.declared.request.Request.TheVariants.{MoveFolder, MakeDirIn, MakeFileIn, AppendIn, SyncIn, RemoveFileIn, RemoveDirIn, RemoveFolder}
use Rattle.dir_model.specs.declared.request.Reply.{Reply}
use Rattle.dir_model.specs.declared.request.Reply.TheVariants.{Refused}
use Rattle.dir_model.specs.Areas.{is_stage}
use Rattle.dir_model.specs.Paths.{is_empty, is_path, is_directly_in, is_well_formed}
use Rattle.dir_model.specs.Trees as trees
use Rattle.dir_model.specs.Trees.{has_any, has_parent, is_dir_entry, is_parent_entry}
use Rattle.dir_model.specs.State.{DirState, folder_at, stands, lives, spot_eq}
use Rattle.dir_model.specs.Trace.{state_after}
use Rattle.dir_model.specs.Replies.{is_reply, is_apps_request, is_error, refusal, refused_in, make_refusal, file_refusal, sync_refusal}
use Rattle.dir_model.proofs.Lists.{and_left, and_right, and_both, not_true, or_last, any_fewer}
use Rattle.dir_rules.specs.declared.seen.Entry.{Entry}
use Rattle.dir_rules.specs.declared.seen.Making.{Making}
use Rattle.dir_rules.specs.declared.seen.Seen.{Seen}
use Rattle.dir_rules.specs.Marks.{parent}
use Rattle.dir_rules.specs.Seen.{makes_at, is_making_area}
use Rattle.dir_rules.specs.Standing.{is_in, began_as, is_maker, is_remover, is_gc, is_prepare, is_run, draws, holds_own, excludes_area}
use Rattle.dir_rules.specs.LockRules.{lock_rules_allow, locks_allow_move, may_exclude_area, may_remove}
use Rattle.dir_rules.specs.Rules.{allows, content_rules_allow, contents_allow_move, makes_here, may_make_dir, may_make_file_in, may_append_in, may_sync_in, may_make_entry, may_sync_entry, spares_deleted_pod, of_making, is_new_path, is_in_directory, is_in_order, has_path_among, has_file_among, has_dir_among, is_dir, has_done, is_all_done, is_import}
use Rattle.dir_rules.specs.Anomalies.{folder_of, is_its_folder, is_import_again, is_place_error, loses_own, meets_another}
use Rattle.dir_rules.specs.Conforms.{seen_of}
use Rattle.lifecycle.specs.Executions.{IsConforming}
use Rattle.lifecycle.proofs.Lists.{In, any_in, in_any}
use Rattle.folder_contents.specs.Entries.{entries_in, SameNames}
use Rattle.folder_contents.specs.Makers.{guards, StandsAsKnown}
use Rattle.folder_contents.proofs.Names.{file_of, dir_of}
use Rattle.folder_contents.proofs.Spots.{one_location, is_changeable}
use Rattle.folder_contents.proofs.Places.{stands_there}
use Rattle.folder_contents.proofs.Untouched.{removal_area}
use Rattle.folder_contents.proofs.Knowledge.{FitsIn, Fits, apt}
use Rattle.folder_contents.proofs.Known.{makers_know}
use Rattle.folder_contents.proofs.Guards.{kinds_apart, no_remover}
use Rattle.folder_contents.proofs.Handed.{brought, asked}
use Rattle.impossible_replies.specs.Replies.{is_of_making}
use Rattle.impossible_replies.proofs.Fits.{closes_fit}
use Rattle.impossible_replies.proofs.Refusals.{place_told, told, unrefused, missed}
use Rattle.impossible_replies.proofs.Parents.{directly}
use Rattle.impossible_replies.proofs.Meetings.{no_meeting}

-- commands that are apart
no_gc : (k : Kind) → is_maker k ≡ true → is_gc k ≡ true → ⊥
no_gc kind.Prepare h j = cc
no_gc kind.Run h j = cc
no_gc k h j = cc

no_closer : (k : Kind) → is_import k ≡ true → may_exclude_area k area.Incoming ≡ true → ⊥
no_closer kind.ImageImport h j = cc
no_closer k h j = cc

-- what the names in a folder say of what stands there
has_path_node : (path : List ℕ) (es : List Entry) → has_path_among path es ≡ true → (has_file_among path es ≡ true) ⊎ (has_dir_among path es ≡ true)
has_path_node path es h =
    let e = any_in (λ e. bytes_eq e.path path) es h in
    by e.0 e.1.0 e.1.1
  where
    by : (e : Entry) → In e es → bytes_eq e.path path ≡ true → (has_file_among path es ≡ true) ⊎ (has_dir_among path es ≡ true)
    by e i same = at e.node refl
      where
        at : (n : TreeNode) → e.node ≡ n → (has_file_among path es ≡ true) ⊎ (has_dir_among path es ≡ true)
        at Dir f = inr (in_any (λ e. is_dir e.node && bytes_eq e.path path) e es i (and_both (is_dir e.node) (bytes_eq e.path path) (ap is_dir f) same))
        at (Piece b) f = inl (in_any (λ e. not (is_dir e.node) && bytes_eq e.path path) e es i
            (and_both (not (is_dir e.node)) (bytes_eq e.path path) (ap (λ (n : TreeNode). not (is_dir n)) f) same))

pub pathless_file : (path : List ℕ) (es : List Entry) → has_path_among path es ≡ false → has_file_among path es ≡ false
pathless_file path es h = any_fewer (λ e. not (is_dir e.node) && bytes_eq e.path path) (λ e. bytes_eq e.path path)
    (λ e t. and_right (not (is_dir e.node)) (bytes_eq e.path path) t) es h

pub pathless_dir : (path : List ℕ) (es : List Entry) → has_path_among path es ≡ false → has_dir_among path es ≡ false
pathless_dir path es h = any_fewer (λ e. is_dir e.node && bytes_eq e.path path) (λ e. bytes_eq e.path path)
    (λ e t. and_right (is_dir e.node) (bytes_eq e.path path) t) es h

is_none : (xs : List ℕ) → is_empty xs ≡ true → xs ≡ []
is_none [] h = refl
is_none (x ∷ xs) h = cc

module _ (es : List TreeEntry) (k : ℕ) (known : List Entry) (names : SameNames (entries_in k es) known) where
  file_same : (path : List ℕ) → trees.has_file es k path ≡ has_file_among path known
  file_same path = file_of k path es ∙ (names path).0

  dir_same : (path : List ℕ) → list_any (is_dir_entry k path) es ≡ has_dir_among path known
  dir_same path = dir_of k path es ∙ (names path).1

  parent_stands : (path : List ℕ) → is_path path ≡ true → is_empty path ≡ false → is_in_directory path known ≡ true → has_parent es k path ≡ true
  parent_stands path is full inside = by (is_empty (parent path)) refl inside
    where
      by : (b : Bool) → is_empty (parent path) ≡ b → (b || has_dir_among (parent path) known) ≡ true → has_parent es k path ≡ true
      by true e h = or_left (is_directly_in [] path) (list_any (is_parent_entry k path) es)
          (subst (λ (d : List ℕ). is_directly_in d path ≡ true) (is_none (parent path) e) (directly path is full))
      by false e h =
          let x = any_in (is_dir_entry k (parent path)) es (dir_same (parent path) ∙ h) in
          let y = and_parts ((x.0.folder == k) && bytes_eq x.0.path (parent path)) (trees.is_dir x.0.node) x.1.1 in
          let z = and_parts (x.0.folder == k) (bytes_eq x.0.path (parent path)) y.0 in
          or_last (is_directly_in [] path) (list_any (is_parent_entry k path) es)
          (in_any (is_parent_entry k path) x.0 es x.1.0
          (and_both (x.0.folder == k) (trees.is_dir x.0.node && is_directly_in x.0.path path) z.0
          (and_both (trees.is_dir x.0.node) (is_directly_in x.0.path path) y.1
          (subst (λ (d : List ℕ). is_directly_in d path ≡ true) (sym (same_text x.0.path (parent path) z.1)) (directly path is full)))))

  pub made_free : (path : List ℕ) → is_path path ≡ true → is_empty path ≡ false → has_dir_among path known ≡ false → has_file_among path known ≡ false →
      is_in_directory path known ≡ true → make_refusal path es k ≡ None
  made_free path is full no_dir no_file inside =
      by (is_empty path) (list_any (is_dir_entry k path) es) (trees.has_file es k path) (has_parent es k path) full
      (dir_same path ∙ no_dir) (file_same path ∙ no_file) (parent_stands path is full inside)
    where
      by : (a b c d : Bool) → a ≡ false → b ≡ false → c ≡ false → d ≡ true → cond ((a || b) || c) (Some Exists) (cond d None (Some Missing)) ≡ None
      by false false false true e f g h = refl
      by true b c d e f g h = cc
      by false true c d e f g h = cc
      by false false true d e f g h = cc
      by false false false false e f g h = cc

  pub makes : (path : List ℕ) → is_path path ≡ true → is_new_path path known ≡ true → make_refusal path es k ≡ None
  makes path is new =
      let a = and_parts (nat_le (length path) 8192) (not (is_empty path) && (not (has_path_among path known) && is_in_directory path known)) new in
      let b = and_parts (not (is_empty path)) (not (has_path_among path known) && is_in_directory path known) a.1 in
      let c = and_parts (not (has_path_among path known)) (is_in_directory path known) b.1 in
      let full = not_true (is_empty path) b.0 in
      let free = not_true (has_path_among path known) c.0 in
      made_free path is full (pathless_dir path known free) (pathless_file path known free) c.1

  pub appends : (path : List ℕ) → has_file_among path known ≡ true → file_refusal path es k ≡ None
  appends path there = ap (λ b. cond b None (Some Missing)) (file_same path ∙ there)

  pub syncs : (path : List ℕ) → (is_empty path || has_path_among path known) ≡ true → sync_refusal path es k ≡ None
  syncs path may = by (is_empty path) refl may
    where
      yes_any : has_any es k path ≡ true → sync_refusal path es k ≡ None
      yes_any h = ap (λ b. cond b None (Some Missing)) h

      node : (has_file_among path known ≡ true) ⊎ (has_dir_among path known ≡ true) → has_any es k path ≡ true
      node (inl f) = or_last (trees.has_dir es k path) (trees.has_file es k path) (file_same path ∙ f)
      node (inr d) = or_left (trees.has_dir es k path) (trees.has_file es k path)
          (or_last (is_empty path) (list_any (is_dir_entry k path) es) (dir_same path ∙ d))

      by : (b : Bool) → is_empty path ≡ b → (b || has_path_among path known) ≡ true → sync_refusal path es k ≡ None
      by true e h = yes_any (or_left (trees.has_dir es k path) (trees.has_file es k path) (or_left (is_empty path) (list_any (is_dir_entry k path) es) e))
      by false e h = yes_any (node (has_path_node path known h))

-- where it makes, it has the folder's lock
pub here_guarded : (g : Seen) (spot : Spot) (a : Area) → makes_here g spot a ≡ true → (makes_at g.making spot ≡ true) × (guards g spot.name a ≡ true)
here_guarded g spot area.Prepare h = and_parts (makes_at g.making spot) (holds_own spot.name g.standing) h
here_guarded g spot area.Incoming h = and_parts (makes_at g.making spot) g.image_under_lock h
here_guarded g spot a h = cc

module _ (h : List Event) (p : ℕ) (conforming : IsConforming h) (living : lives (state_after h).namespace p ≡ true) (m : Making)
    (knew : (seen_of p h).making ≡ Some m) where
  abbrev s : Seen
  s = seen_of p h

  abbrev st : DirState
  st = state_after h

  at_making : (spot : Spot) → makes_at s.making spot ≡ true → (m.spot ≡ spot) × (is_making_area spot.area ≡ true)
  at_making spot its =
      let x = and_parts (spot_eq m.spot spot) (is_making_area spot.area) (sym (ap (λ (o : Option Making). makes_at o spot) knew) ∙ its) in
      (one_location m.spot spot x.0, x.1)

  fit : FitsIn s.standing m.spot.name m.spot.area
  fit = subst (λ (o : Option Making). Fits s.standing o) knew (apt h conforming p).fits

  fit_at : (spot : Spot) → makes_at s.making spot ≡ true → FitsIn s.standing spot.name spot.area
  fit_at spot its = subst (λ (z : Spot). FitsIn s.standing z.name z.area) (at_making spot its).0 fit

  stands_at : (spot : Spot) → makes_at s.making spot ≡ true → guards s spot.name spot.area ≡ true → StandsAsKnown st m
  stands_at spot its guarded = makers_know h conforming p m living knew
      (subst (λ (z : Spot). guards s z.name z.area ≡ true) (sym (at_making spot its).0) guarded)

  there : (spot : Spot) (its : makes_at s.making spot ≡ true) (guarded : guards s spot.name spot.area ≡ true) →
      folder_at st.namespace spot ≡ Some (stands_at spot its guarded).folder
  there spot its guarded = subst (λ (z : Spot). folder_at st.namespace z ≡ Some (stands_at spot its guarded).folder) (at_making spot its).0 (stands_at spot its guarded).there

  -- a change or a sync where it makes isn't refused
  fine : (i : Inner) (its : makes_here s i.spot i.spot.area ≡ true) (refuses : List TreeEntry → ℕ → Option DirError)
      → ((k : ℕ) → SameNames (entries_in k st.entries) m.entries → refuses st.entries k ≡ None)
      → refused_in refuses st.entries (folder_at st.namespace i.spot) ≡ None
  fine i its refuses free =
      let x = here_guarded s i.spot i.spot.area its in
      ap (λ (o : Option ℕ). refused_in refuses st.entries o) (there i.spot x.0 x.1)
      ∙ free (stands_at i.spot x.0 x.1).folder (stands_at i.spot x.0 x.1).names

  of_known : (test : Making → Bool) → of_making test s.making ≡ true → test m ≡ true
  of_known test h = subst (λ (o : Option Making). of_making test o ≡ true) knew h

  pub made_dir : (i : Inner) → is_path i.path ≡ true → allows s (MakeDirIn i) ≡ true → refusal st p (MakeDirIn i) ≡ None
  made_dir i is may =
      let x = and_parts (may_make_dir s i) (spares_deleted_pod s i) (and_right (lock_rules_allow s.standing (MakeDirIn i)) (content_rules_allow s (MakeDirIn i)) may) in
      let y = and_parts (makes_here s i.spot i.spot.area) (of_making (may_make_entry s false i) s.making) x.0 in
      fine i y.0 (make_refusal i.path) (λ k names. makes st.entries k m.entries names i.path is
      (and_left (is_new_path i.path m.entries) (is_in_order s i.spot.area false i.path m.entries) (of_known (may_make_entry s false i) y.1)))

  pub made_file : (i : Inner) → is_path i.path ≡ true → makes_at s.making i.spot ≡ true → allows s (MakeFileIn i) ≡ true → refusal st p (MakeFileIn i) ≡ None
  made_file i is its may = by i.spot.area refl (at_making i.spot its).1
      (and_left (may_make_file_in s i i.spot.area) (spares_deleted_pod s i) (and_right (lock_rules_allow s.standing (MakeFileIn i)) (content_rules_allow s (MakeFileIn i)) may))
    where
      on : (a : Area) → i.spot.area ≡ a → (makes_here s i.spot a && of_making (may_make_entry s true i) s.making) ≡ true → refusal st p (MakeFileIn i) ≡ None
      on a e h =
          let y = and_parts (makes_here s i.spot a) (of_making (may_make_entry s true i) s.making) h in
          fine i (subst (λ (b : Area). makes_here s i.spot b ≡ true) (sym e) y.0) (make_refusal i.path) (λ k names. makes st.entries k m.entries names i.path is
          (and_left (is_new_path i.path m.entries) (is_in_order s i.spot.area true i.path m.entries) (of_known (may_make_entry s true i) y.1)))

      by : (a : Area) → i.spot.area ≡ a → is_making_area a ≡ true → may_make_file_in s i a ≡ true → refusal st p (MakeFileIn i) ≡ None
      by area.Embryo e making h = on area.Embryo e h
      by area.Prepare e making h = on area.Prepare e h
      by area.Incoming e making h = on area.Incoming e h
      by a e making h = cc

  pub appended : (i : Inner) (piece : List ℕ) → makes_at s.making i.spot ≡ true → allows s (AppendIn i piece) ≡ true → refusal st p (AppendIn i piece) ≡ None
  appended i piece its may = by i.spot.area refl (at_making i.spot its).1
      (and_left (may_append_in s i i.spot.area) (spares_deleted_pod s i) (and_right (lock_rules_allow s.standing (AppendIn i piece)) (content_rules_allow s (AppendIn i piece)) may))
    where
      on : (a : Area) → i.spot.area ≡ a → (makes_here s i.spot a && of_making (λ x. has_file_among i.path x.entries) s.making) ≡ true → refusal st p (AppendIn i piece) ≡ None
      on a e h =
          let y = and_parts (makes_here s i.spot a) (of_making (λ x. has_file_among i.path x.entries) s.making) h in
          fine i (subst (λ (b : Area). makes_here s i.spot b ≡ true) (sym e) y.0) (file_refusal i.path) (λ k names. appends st.entries k m.entries names i.path
          (of_known (λ x. has_file_among i.path x.entries) y.1))

      by : (a : Area) → i.spot.area ≡ a → is_making_area a ≡ true → may_append_in s i a ≡ true → refusal st p (AppendIn i piece) ≡ None
      by area.Embryo e making h = on area.Embryo e h
      by area.Prepare e making h = on area.Prepare e h
      by area.Incoming e making h = on area.Incoming e h
      by a e making h = cc

  -- what it appends to stands there
  pub append_stands : (i : Inner) (piece : List ℕ) → makes_here s i.spot i.spot.area ≡ true → allows s (AppendIn i piece) ≡ true →
      (k : ℕ) × (trees.has_file st.entries k i.path ≡ true)
  append_stands i piece its may =
      let x = here_guarded s i.spot i.spot.area its in
      let w = stands_at i.spot x.0 x.1 in (
        w.folder,
        file_same st.entries w.folder m.entries w.names i.path ∙ by i.spot.area (at_making i.spot x.0).1
            (and_left (may_append_in s i i.spot.area) (spares_deleted_pod s i) (and_right (lock_rules_allow s.standing (AppendIn i piece)) (content_rules_allow s (AppendIn i piece)) may)),
      )
    where
      on : (a : Area) → (makes_here s i.spot a && of_making (λ x. has_file_among i.path x.entries) s.making) ≡ true → has_file_among i.path m.entries ≡ true
      on a h = of_known (λ x. has_file_among i.path x.entries) (and_right (makes_here s i.spot a) (of_making (λ x. has_file_among i.path x.entries) s.making) h)

      by : (a : Area) → is_making_area a ≡ true → may_append_in s i a ≡ true → has_file_among i.path m.entries ≡ true
      by area.Embryo making h = on area.Embryo h
      by area.Prepare making h = on area.Prepare h
      by area.Incoming making h = on area.Incoming h
      by a making h = cc

  synced : (i : Inner) → makes_at s.making i.spot ≡ true → allows s (SyncIn i) ≡ true → refusal st p (SyncIn i) ≡ None
  synced i its may = by i.spot.area refl (at_making i.spot its).1
      (and_left (may_sync_in s i i.spot.area) (spares_deleted_pod s i) (and_right (lock_rules_allow s.standing (SyncIn i)) (content_rules_allow s (SyncIn i)) may))
    where
      on : (a : Area) → i.spot.area ≡ a → (makes_here s i.spot a && of_making (may_sync_entry i) s.making) ≡ true → refusal st p (SyncIn i) ≡ None
      on a e h =
          let y = and_parts (makes_here s i.spot a) (of_making (may_sync_entry i) s.making) h in
          fine i (subst (λ (b : Area). makes_here s i.spot b ≡ true) (sym e) y.0) (sync_refusal i.path) (λ k names. syncs st.entries k m.entries names i.path
          (of_known (may_sync_entry i) y.1))

      by : (a : Area) → i.spot.area ≡ a → is_making_area a ≡ true → may_sync_in s i a ≡ true → refusal st p (SyncIn i) ≡ None
      by area.Embryo e making h = on area.Embryo e h
      by area.Prepare e making h = on area.Prepare e h
      by area.Incoming e making h = on area.Incoming e h
      by a e making h = cc

  -- a move of what it makes is under its lock
  mover_guards : (from to : Spot) (a b : Area) → from.area ≡ a → FitsIn s.standing from.name a → is_making_area a ≡ true →
      contents_allow_move s from to a b ≡ true → (is_stage a ≡ true → locks_allow_move s.standing from.name a b ≡ true) → guards s from.name a ≡ true
  mover_guards from to area.Embryo area.Prepare is f making bring ask =
      and_left s.standing.embryo_under_lock (draws from.name s.standing) (and_left (s.standing.embryo_under_lock && draws from.name s.standing) (holds_own from.name s.standing) (ask refl))
  mover_guards from to area.Embryo area.Garbage is f making bring ask =
      kinds_apart is_maker is_gc no_gc s.standing.intent f.1 (and_left (began_as is_gc s.standing) (excludes_area area.Embryo s.standing) (ask refl))
  mover_guards from to area.Prepare area.Prepared is f making bring ask = and_right (began_as is_prepare s.standing) (holds_own from.name s.standing) (ask refl)
  mover_guards from to area.Prepare area.Run is f making bring ask = and_right (began_as is_run s.standing) (holds_own from.name s.standing) (ask refl)
  mover_guards from to area.Prepare area.Garbage is f making bring ask =
      kinds_apart is_maker is_remover no_remover s.standing.intent f.0.1 (and_left (began_as is_remover s.standing) _ (ask refl))
  mover_guards from to area.Incoming area.Images is f making bring ask = and_right (has_done is_all_done s from) s.image_under_lock bring
  mover_guards from to area.Incoming area.Removed is f making bring ask =
      kinds_apart is_import (λ k. may_exclude_area k area.Incoming) no_closer s.standing.intent f.1 (closes_fit h conforming p area.Incoming bring)
  mover_guards from to area.Embryo b is f making bring ask = cc
  mover_guards from to area.Prepare b is f making bring ask = cc
  mover_guards from to area.Incoming b is f making bring ask = cc
  mover_guards from to a b is f making bring ask = cc

  moved : (from to : Spot) (error : DirError) (left : ℕ) → makes_at s.making from ≡ true → allows s (MoveFolder from to) ≡ true →
      is_reply st p (MoveFolder from to) (Refused error left) ≡ true → is_place_error error ≡ true → is_import_again (MoveFolder from to) error ≡ false → ⊥
  moved from to Missing left its may is place again =
      let g = mover_guards from to from.area to.area refl (fit_at from its) (at_making from its).1 (brought s from to may) (asked s from to may) in
      clash (stands st.namespace from) (stands_there st.namespace from (stands_at from its g).folder (there from its g)) (missed st p from to left is)
  moved from to Exists left its may is place again =
      by from.area to.area refl refl (at_making from its).1 (brought s from to may)
    where
      none : meets_another (MoveFolder from to) (Refused Exists left) ≡ false
      none = no_meeting h conforming p (MoveFolder from to) (Refused Exists left) may is

      staged : is_stage from.area ≡ true → ⊥
      staged e = clash (is_stage from.area || is_in area.Removed to.area) (or_left (is_stage from.area) (is_in area.Removed to.area) e) none

      by : (a b : Area) → from.area ≡ a → to.area ≡ b → is_making_area a ≡ true → contents_allow_move s from to a b ≡ true → ⊥
      by area.Embryo b e f making bring = staged (ap is_stage e)
      by area.Prepare b e f making bring = staged (ap is_stage e)
      by area.Incoming area.Images e f making bring = clash (is_in area.Images to.area) (ap (is_in area.Images) f) again
      by area.Incoming area.Removed e f making bring =
          clash (is_stage from.area || is_in area.Removed to.area) (or_last (is_stage from.area) (is_in area.Removed to.area) (ap (is_in area.Removed) f)) none
      by area.Incoming b e f making bring = cc
      by a b e f making bring = cc
  moved from to NotEmpty left its may is place again =
      by (stands st.namespace from) (stands st.namespace to) (told st p (MoveFolder from to) NotEmpty left refl refl refl is)
    where
      by : (a b : Bool) → is_error NotEmpty (cond a (cond b (Some Exists) None) (Some Missing)) ≡ true → ⊥
      by true true h = cc
      by true false h = cc
      by false b h = cc
  moved from to Locked left its may is place again = cc
  moved from to Failed left its may is place again = cc
  moved from to NoMemory left its may is place again = cc

  kept : (spot : Spot) → makes_at s.making spot ≡ true → may_remove s.standing spot ≡ true → ⊥
  kept spot its may = by spot.area (at_making spot its).1 (removal_area s.standing spot may)
    where
      by : (a : Area) → is_making_area a ≡ true → is_changeable a ≡ true → ⊥
      by area.Embryo making on = cc
      by area.Prepare making on = cc
      by area.Incoming making on = cc
      by a making on = cc

  no_loss : (request : Request) (error : DirError) (left : ℕ) → is_of_making s (folder_of request) ≡ true → is_apps_request st request ≡ false →
      is_well_formed request ≡ true → allows s request ≡ true → is_reply st p request (Refused error left) ≡ true → is_place_error error ≡ true →
      is_import_again request error ≡ false → ⊥
  no_loss (MoveFolder from to) error left its plain formed may is place again = moved from to error left its may is place again
  no_loss (MakeDirIn i) error left its plain formed may is place again =
      unrefused error (refusal st p (MakeDirIn i)) (told st p (MakeDirIn i) error left plain refl (place_told error place) is) (made_dir i formed may)
  no_loss (MakeFileIn i) error left its plain formed may is place again =
      unrefused error (refusal st p (MakeFileIn i)) (told st p (MakeFileIn i) error left plain refl (place_told error place) is) (made_file i formed its may)
  no_loss (AppendIn i piece) error left its plain formed may is place again =
      unrefused error (refusal st p (AppendIn i piece)) (told st p (AppendIn i piece) error left plain refl (place_told error place) is) (appended i piece its may)
  no_loss (SyncIn i) error left its plain formed may is place again =
      unrefused error (refusal st p (SyncIn i)) (told st p (SyncIn i) error left plain refl (place_told error place) is) (synced i its may)
  no_loss (RemoveFileIn i) error left its plain formed may is place again =
      kept i.spot its (and_left (may_remove s.standing i.spot) (content_rules_allow s (RemoveFileIn i)) may)
  no_loss (RemoveDirIn i) error left its plain formed may is place again =
      kept i.spot its (and_left (may_remove s.standing i.spot) (content_rules_allow s (RemoveDirIn i)) may)
  no_loss (RemoveFolder spot) error left its plain formed may is place again =
      kept spot its (and_left (may_remove s.standing spot) (content_rules_allow s (RemoveFolder spot)) may)
  no_loss request error left its plain formed may is place again = cc

pub its_own : (h : List Event) (p : ℕ) → IsConforming h → lives (state_after h).namespace p ≡ true → (request : Request) (reply : Reply) →
    is_of_making (seen_of p h) (folder_of request) ≡ true → is_apps_request (state_after h) request ≡ false → is_well_formed request ≡ true →
    allows (seen_of p h) request ≡ true → is_reply (state_after h) p request reply ≡ true → loses_own (seen_of p h) request reply ≡ false
its_own h p conforming living request (Refused error left) its plain formed may is =
    by (is_place_error error) (is_its_folder (seen_of p h) (folder_of request)) (is_import_again request error) refl refl
  where
    made : (o : Option Spot) → is_of_making (seen_of p h) o ≡ true → (m : Option Making) → (seen_of p h).making ≡ m → (x : Making) × ((seen_of p h).making ≡ Some x)
    made o its (Some m) e = (m, e)
    made None its None e = cc
    made (Some spot) its None e = clash (makes_at (seen_of p h).making spot) its (ap (λ (o : Option Making). makes_at o spot) e)

    by : (a b c : Bool) → is_place_error error ≡ a → is_import_again request error ≡ c → (a && (b && not c)) ≡ false
    by false b c e f = refl
    by true false c e f = refl
    by true true true e f = refl
    by true true false e f =
        let m = made (folder_of request) its (seen_of p h).making refl in
        absurd (no_loss h p conforming living m.0 m.1 request error left its plain formed may is e f)
its_own h p conforming living request reply its plain formed may is = refl
