-- Where nobody else steps: what a process leaves as it was that changes some locations alone.
use Rattle.std.proofs.Common.{◌≡◌, ℕ, Bool, true, false, not, ◌&&◌, ◌||◌, ◌==◌, cond, Option, Some, None, option_to_list, List, [], ◌∷◌, ◌++◌, map, filter, take, slice_get, append-nil, refl, sym, ap, subst, ◌∙◌}
use Rattle.std.specs.List.{AllByRecursion}
use Rattle.plain_laws.proofs.Booleans.{clash, or_nothing}
use Rattle.plain_laws.proofs.Lists.{filter_twice}
use Rattle.dir_model.specs.declared.event.Event.{Event}
use Rattle.dir_model.specs.declared.opening.Opening.{Opening}
use Rattle.dir_model.specs.declared.request.Request.{Request}
use Rattle.dir_model.specs.declared.request.Request.TheVariants.{Close, Finish, Kill, MakeDirIn, MakeFileIn, AppendIn, RemoveFileIn, RemoveDirIn, Open, OpenArea, TryLock}
use Rattle.dir_model.specs.declared.request.Reply.{Reply}
use Rattle.dir_model.specs.declared.request.Reply.TheVariants.{Done, Opened, Refused}
use Rattle.dir_model.specs.declared.spot.Handle.{Handle}
use Rattle.dir_model.specs.declared.spot.Mode.{Mode}
use Rattle.dir_model.specs.declared.spot.Spot.{Spot}
use Rattle.dir_model.specs.declared.tree.TreeEntry.{TreeEntry}
use Rattle.dir_model.specs.declared.tree.TreeNode.{TreeNode}
use Rattle.dir_model.specs.declared.tree.TreeNode.TheVariants.{Dir, Piece}
use Rattle.dir_model.specs.Calls.{event, Extends, is_foreign, is_kill}
use Rattle.dir_model.specs.Locks.{is_handle}
use Rattle.dir_model.specs.Quiet.{Quiet}
use Rattle.dir_model.specs.State.{DirState, Namespace, empty_state, folder_at, spot_eq}
use Rattle.dir_model.specs.Trace.{locked, namespace_replied, opened, opened_gate, placed, removed_in, state_after, state_next, states_next}
use Rattle.dir_model.proofs.Chains.{states_next-append}
use Rattle.dir_model.proofs.Lists.{filter_past, same_rest, same_self, same_number}
use Rattle.folder_contents.specs.Entries.{entries_in}
use Rattle.folder_contents.proofs.Entries.{pushed_away, without_other}
use Rattle.folder_contents.proofs.Places.{located}
use Rattle.commands.specs.NextState.{LeavesBeside, others_openings}
use Rattle.commands.proofs.PlacesKept.{IsPlace}
use Rattle.commands.proofs.OwnSteps.{in_process, same_openings}
use Rattle.commands.proofs.RemovalQuiet.{ChangesAt, elsewhere_from, own_asked, place_step, places_beside}

-- another number than that of a folder at another location
apart_number : (n : Namespace) (k j : ℕ) (place spot : Spot) → slice_get n.folders k ≡ Some (Some place) → folder_at n spot ≡ Some j → spot_eq place spot ≡ false → (j == k) ≡ false
apart_number n k j place spot at found apart = by (j == k) refl
  where
    same : (here : Spot) → ◌≡◌ {A = Option (Option Spot)} (Some (Some here)) (Some (Some place)) → here ≡ place
    same here is = cc

    by : (b : Bool) → (j == k) ≡ b → b ≡ false
    by false e = refl
    by true e =
        let l = located n spot j found in
        let is : l.0 ≡ place = same l.0 (sym l.1.0 ∙ (ap (slice_get n.folders) (same_number j k e) ∙ at)) in
        clash (spot_eq place spot) (subst (λ (here : Spot). spot_eq here spot ≡ true) is l.1.1) apart

placed_apart : (n : Namespace) (k : ℕ) (place spot : Spot) (path : List ℕ) (node : TreeNode) (es : List TreeEntry) → slice_get n.folders k ≡ Some (Some place) → spot_eq place spot ≡ false →
    entries_in k (es ++ option_to_list (placed (folder_at n spot) path node)) ≡ entries_in k es
placed_apart n k place spot path node es at apart = by (folder_at n spot) refl
  where
    by : (o : Option ℕ) → folder_at n spot ≡ o → entries_in k (es ++ option_to_list (placed o path node)) ≡ entries_in k es
    by None found = ap (entries_in k) (append-nil es)
    by (Some j) found = pushed_away k es (record { folder = j; path = path; node = node }) (apart_number n k j place spot at found apart)

removed_apart : (n : Namespace) (k : ℕ) (place spot : Spot) (path : List ℕ) (es : List TreeEntry) → slice_get n.folders k ≡ Some (Some place) → spot_eq place spot ≡ false →
    entries_in k (removed_in (folder_at n spot) path es ++ []) ≡ entries_in k es
removed_apart n k place spot path es at apart = ap (entries_in k) (append-nil (removed_in (folder_at n spot) path es)) ∙ by (folder_at n spot) refl
  where
    by : (o : Option ℕ) → folder_at n spot ≡ o → entries_in k (removed_in o path es) ≡ entries_in k es
    by None found = refl
    by (Some j) found = without_other k j path es (apart_number n k j place spot at found apart)

module _ (touched : Spot → Bool) (asks : Request → Bool) (c : ChangesAt touched asks) where
  away : (spot place : Spot) → touched spot ≡ true → touched place ≡ false → spot_eq place spot ≡ false
  away spot place there other = elsewhere_from touched asks c spot place there other

  tree_step : (p : ℕ) (s : DirState) (request : Request) (reply : Reply) (folder : ℕ) (place : Spot) → (is_kill request || in_process asks request) ≡ true → IsPlace folder place s.namespace → touched place ≡ false →
      entries_in folder (state_next s (event p request reply)).entries ≡ entries_in folder s.entries
  tree_step p s (MakeDirIn i) Done folder place h at other = placed_apart s.namespace folder place i.spot i.path Dir s.entries at (away i.spot place (c.fills (MakeDirIn i) i.spot refl (or_nothing (asks (MakeDirIn i)) h)) other)
  tree_step p s (MakeFileIn i) Done folder place h at other = placed_apart s.namespace folder place i.spot i.path (Piece []) s.entries at (away i.spot place (c.fills (MakeFileIn i) i.spot refl (or_nothing (asks (MakeFileIn i)) h)) other)
  tree_step p s (AppendIn i piece) Done folder place h at other = placed_apart s.namespace folder place i.spot i.path (Piece piece) s.entries at (away i.spot place (c.fills (AppendIn i piece) i.spot refl (or_nothing (asks (AppendIn i piece)) h)) other)
  tree_step p s (AppendIn i piece) (Refused e left) folder place h at other = by (left == 0)
    where
      by : (b : Bool) → entries_in folder (s.entries ++ option_to_list (cond b None (placed (folder_at s.namespace i.spot) i.path (Piece (take left piece))))) ≡ entries_in folder s.entries
      by true = ap (entries_in folder) (append-nil s.entries)
      by false = placed_apart s.namespace folder place i.spot i.path (Piece (take left piece)) s.entries at (away i.spot place (c.fills (AppendIn i piece) i.spot refl (or_nothing (asks (AppendIn i piece)) h)) other)
  tree_step p s (RemoveFileIn i) Done folder place h at other = removed_apart s.namespace folder place i.spot i.path s.entries at (away i.spot place (c.fills (RemoveFileIn i) i.spot refl (or_nothing (asks (RemoveFileIn i)) h)) other)
  tree_step p s (RemoveDirIn i) Done folder place h at other = removed_apart s.namespace folder place i.spot i.path s.entries at (away i.spot place (c.fills (RemoveDirIn i) i.spot refl (or_nothing (asks (RemoveDirIn i)) h)) other)
  tree_step p s request reply folder place h at other = ap (entries_in folder) (append-nil s.entries)

  pub trees_all : (me : ℕ) (s : DirState) (es : List Event) → AllByRecursion (λ e. e.process ≡ me) es → AllByRecursion (λ e. (is_foreign me e || in_process asks e.request) ≡ true) es →
      (folder : ℕ) (place : Spot) → IsPlace folder place s.namespace → touched place ≡ false → entries_in folder (states_next s es).entries ≡ entries_in folder s.entries
  trees_all me s [] own asked folder place at other = refl
  trees_all me s (e ∷ es) own asked folder place at other =
      let h = own_asked touched asks c me e own.0 asked.0 in
      trees_all me (state_next s e) es own.1 asked.1 folder place (place_step touched asks c e.process s.namespace e.request e.reply folder place h at other) other
      ∙ tree_step e.process s e.request e.reply folder place h at other

-- what others have open
module _ (me : ℕ) where
  abbrev is_others : Opening → Bool
  is_others o = not (o.process == me)

  others_locked : (handle : Handle) (mode : Mode) (xs : List Opening) → filter is_others (map (locked me handle mode) xs) ≡ filter is_others xs
  others_locked handle mode [] = refl
  others_locked handle mode (o ∷ os) = by (o.process == me) (o.handle.number == handle.number) refl refl (others_locked handle mode os)
    where
      by : (a b : Bool) → (o.process == me) ≡ a → (o.handle.number == handle.number) ≡ b → filter is_others (map (locked me handle mode) os) ≡ filter is_others os →
          filter is_others (cond (a && b) (record o { lock = Some mode }) o ∷ map (locked me handle mode) os) ≡ cond (not a) (o ∷ filter is_others os) (filter is_others os)
      by true true e f go = rw e go
      by true false e f go = rw e go
      by false b e f go = rw e (ap (λ (l : List Opening). o ∷ l) go)

  closed_keeps : (handle : Handle) (o : Opening) → is_others o ≡ true → not (is_handle me handle o) ≡ true
  closed_keeps handle o h = by (o.process == me) h
    where
      by : (b : Bool) → not b ≡ true → not (b && (o.handle.number == handle.number)) ≡ true
      by true k = cc
      by false k = refl

  others_step : (w : Namespace) (request : Request) (reply : Reply) → filter is_others (namespace_replied w me request reply).openings ≡ filter is_others w.openings
  others_step w (OpenArea area) (Opened handle) = filter_past is_others w.openings (opened_gate me handle area) (ap not (same_self me))
  others_step w (OpenArea area) reply = refl
  others_step w (Open spot which) (Opened handle) = filter_past is_others w.openings (opened w me handle spot which) (ap not (same_self me))
  others_step w (Open spot which) reply = refl
  others_step w (TryLock handle mode) Done = others_locked handle mode w.openings
  others_step w (TryLock handle mode) reply = refl
  others_step w (Close handle) Done = filter_twice is_others (λ o. not (is_handle me handle o)) (closed_keeps handle) w.openings
  others_step w (Close handle) reply = refl
  others_step w Finish Done = filter_twice is_others is_others (λ o h. h) w.openings
  others_step w Finish reply = refl
  others_step w Kill Done = filter_twice is_others is_others (λ o h. h) w.openings
  others_step w Kill reply = refl
  others_step w request reply = ap (filter is_others) (same_openings me w request reply refl (λ handle. refl))

  others_all : (s : DirState) (es : List Event) → AllByRecursion (λ e. e.process ≡ me) es → others_openings me (states_next s es) ≡ others_openings me s
  others_all s [] own = refl
  others_all s (e ∷ es) own =
      others_all (state_next s e) es own.1
      ∙ subst (λ (q : ℕ). filter is_others (namespace_replied s.namespace q e.request e.reply).openings ≡ filter is_others s.namespace.openings) (sym own.0) (others_step s.namespace e.request e.reply)

pub leaves_beside : (touched : Spot → Bool) (asks : Request → Bool) → ChangesAt touched asks → {me : ℕ} {old new : List Event} → Extends (in_process asks) me old new → Quiet me old new → LeavesBeside touched me (state_after old) (state_after new)
leaves_beside touched asks c {me} {old} {new} ext quiet = record {
  places = places_beside touched asks c ext quiet;
  trees = λ folder place at other.
      subst (λ (s : DirState). entries_in folder s.entries ≡ entries_in folder (state_after old).entries) (sym here) (trees_all touched asks c me (state_after old) ext.more own ext.asked folder place at other);
  others = subst (λ (s : DirState). others_openings me s ≡ others_openings me (state_after old)) (sym here) (others_all me (state_after old) ext.more own);
}
  where
    own : AllByRecursion (λ e. e.process ≡ me) ext.more
    own = subst (λ (l : List Event). AllByRecursion (λ e. e.process ≡ me) l) (same_rest old quiet.more ext.more (sym quiet.grown ∙ ext.grown)) quiet.own

    here : state_after new ≡ states_next (state_after old) ext.more
    here = ap state_after ext.grown ∙ states_next-append empty_state old ext.more
