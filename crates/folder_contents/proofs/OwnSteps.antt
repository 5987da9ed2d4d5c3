-- What a maker's own step is to the folder that it makes.
use Rattle.std.proofs.Common.{◌≡◌, inl, inr, ℕ, Bool, true, false, ◌&&◌, ◌||◌, ◌==◌, cond, bytes_eq, Option, Some, None, option_to_list, List, [], ◌∷◌, ◌++◌, length, take, append-nil, refl, sym, ap, subst, ◌∙◌}
use Rattle.std.proofs.lemmas.Bool.{and_parts}
use Rattle.plain_laws.proofs.Booleans.{clash}
use Rattle.dir_model.specs.declared.area.Area.{Area}
use Rattle.dir_model.specs.declared.area.Area.TheVariants as area
use Rattle.dir_model.specs.declared.item.Inner.{Inner}
use Rattle.dir_model.specs.declared.spot.Spot.{Spot}
use Rattle.dir_model.specs.declared.tree.TreeNode.{TreeNode}
use Rattle.dir_model.specs.declared.tree.TreeNode.TheVariants.{Dir, Piece}
use Rattle.dir_model.specs.declared.request.DirError.{DirError}
use Rattle.dir_model.specs.declared.request.DirError.TheVariants.{Exists}
use Rattle.dir_model.specs.declared.request.Request.{Request}
use Rattle.dir_model.specs.declared.request.Request.TheVariants.{MakeFolder, MoveFolder, ListArea, ListIn, MakeDirIn, MakeFileIn, AppendIn, SyncIn, RemoveFileIn, RemoveDirIn, RemoveFolder}
use Rattle.dir_model.specs.declared.request.Reply.{Reply}
use Rattle.dir_model.specs.declared.request.Reply.TheVariants.{Done, Opened, Names, Items, Refused}
use Rattle.dir_model.specs.Areas.{is_stage}
use Rattle.dir_model.specs.State.{DirState, folder_at, stands, spot_eq}
use Rattle.dir_model.specs.Trace.{state_next, placed}
use Rattle.dir_model.specs.Replies.{is_reply}
use Rattle.dir_model.specs.Calls.{event}
use Rattle.dir_rules.specs.declared.seen.Entry.{Entry}
use Rattle.dir_rules.specs.declared.seen.Making.{Making}
use Rattle.dir_rules.specs.declared.seen.Seen.{Seen}
use Rattle.dir_rules.specs.Marks.{parent}
use Rattle.dir_rules.specs.Seen.{learned, makes_at, is_making_area, making_changed, making_with_entry, with_path_synced, spoilt}
use Rattle.dir_rules.specs.Standing.{draws, holds_own}
use Rattle.dir_rules.specs.LockRules.{lock_rules_allow, may_move_by_locks, locks_allow_move, may_remove}
use Rattle.dir_rules.specs.Rules.{allows, may_move_by_contents, contents_allow_move, may_append_in, has_file_among, makes_here, spares_deleted_pod}
use Rattle.dir_rules.specs.Conforms.{seen_replied}
use Rattle.dir_model.proofs.Lists.{and_left, and_right}
use Rattle.dir_model.proofs.Spots.{spot_self}
use Rattle.lifecycle.proofs.Handles.{Sound, none_refused, refused_if}
use Rattle.lifecycle.proofs.Linked.{Linked}
use Rattle.lifecycle.proofs.Places.{made_there, moved_there, none_stands, spot_turn}
use Rattle.lifecycle.proofs.Step.{stands_from}
use Rattle.folder_contents.specs.Entries.{entries_in, SameNames}
use Rattle.folder_contents.specs.Makers.{guards, is_guarded, StandsAsKnown}
use Rattle.folder_contents.specs.UnderGate.{is_taken_from}
use Rattle.folder_contents.proofs.Places.{untaken, stands_there}
use Rattle.folder_contents.proofs.Names.{names_pushed, names_again}
use Rattle.folder_contents.proofs.Entries.{placed_here, placed_away, removed_away}
use Rattle.folder_contents.proofs.Spots.{is_changeable, apart, one_location}
use Rattle.folder_contents.proofs.Untouched.{Site, dir_site, make_site, append_site, removal_area}
use Rattle.folder_contents.proofs.Knowledge.{FitsIn, is_make}
use Rattle.folder_contents.proofs.Guards.{guard_before, guarded_area}

-- the process knows its folder, while it guards it
abbrev pub KnownOf : DirState → Seen → Option Making → Type 0
KnownOf st g None = Unit {0}
KnownOf st g (Some m) = is_guarded g m ≡ true → StandsAsKnown st m

abbrev pub with_making : Seen → Option Making → Seen
with_making s o = record s { making = o }

-- a folder that was just made
pub made_known : (st : DirState) (p : ℕ) (spot : Spot) → is_reply st p (MakeFolder spot) Done ≡ true →
    entries_in (length st.namespace.folders) st.entries ≡ [] →
    StandsAsKnown (state_next st (event p (MakeFolder spot) Done)) (record { spot = spot; clean = true; entries = []; unsynced = [] })
made_known st p spot is empty = record {
  folder = length st.namespace.folders;
  there = made_there st.namespace spot spot (none_stands st.namespace spot
      (refused_if (stands st.namespace spot) Exists (none_refused st p (MakeFolder spot) refl is))) (spot_self spot);
  names = subst (λ (l : List Entry). SameNames l []) (sym (ap (entries_in (length st.namespace.folders)) (append-nil st.entries) ∙ empty)) (λ path. (refl, refl));
  same = λ clean. ap (entries_in (length st.namespace.folders)) (append-nil st.entries) ∙ empty;
}

-- where the entries of a folder are others, equal ones have the same names
pub names_same : (xs ys ms : List Entry) → xs ≡ ys → SameNames ys ms → SameNames xs ms
names_same xs ys ms is same = subst (λ (l : List Entry). SameNames l ms) (sym is) same

-- an append is to a file that it made there
appends : (g : Seen) (m : Making) (i : Inner) (piece : List ℕ) → is_making_area i.spot.area ≡ true →
    allows (record g { making = Some m }) (AppendIn i piece) ≡ true → has_file_among i.path m.entries ≡ true
appends g m i piece making may = by i.spot.area making
    (and_left (may_append_in s i i.spot.area) (spares_deleted_pod s i) (and_right (lock_rules_allow s.standing (AppendIn i piece)) (may_append_in s i i.spot.area && spares_deleted_pod s i) may))
  where
    s : Seen
    s = record g { making = Some m }

    by : (a : Area) → is_making_area a ≡ true → may_append_in s i a ≡ true → has_file_among i.path m.entries ≡ true
    by area.Embryo on h = and_right (makes_here s i.spot area.Embryo) (has_file_among i.path m.entries) h
    by area.Prepare on h = and_right (makes_here s i.spot area.Prepare) (has_file_among i.path m.entries) h
    by area.Incoming on h = and_right (makes_here s i.spot area.Incoming) (has_file_among i.path m.entries) h
    by a on h = cc

module _ (st : DirState) (p : ℕ) (s : Seen) (m : Making) (sound : Sound st.namespace)
    (linked : Linked p st.namespace s.standing) (fits : FitsIn s.standing m.spot.name m.spot.area)
    (known : is_guarded (with_making s (Some m)) m ≡ true → StandsAsKnown st m) where
  abbrev g : Seen
  g = with_making s (Some m)

  abbrev After : Request → Reply → Type 0
  After request reply =
      KnownOf (state_next st (event p request reply)) (seen_replied g request reply) (learned g request reply).making

  -- the folder stays, and its entries are again what is known
  on : (request : Request) (reply : Reply) (clean : Bool) (entries : List Entry) (unsynced : List (List ℕ)) →
      is_reply st p request reply ≡ true → allows g request ≡ true → is_make request ≡ false →
      (is_changeable m.spot.area ≡ false → is_taken_from m.spot request reply ≡ false)
      → ((k : ℕ) → folder_at st.namespace m.spot ≡ Some k → is_changeable m.spot.area ≡ false →
      SameNames (entries_in k st.entries) m.entries →
      SameNames (entries_in k (state_next st (event p request reply)).entries) entries)
      → ((k : ℕ) → folder_at st.namespace m.spot ≡ Some k → is_changeable m.spot.area ≡ false →
      (m.clean ≡ true → entries_in k st.entries ≡ m.entries) → clean ≡ true →
      entries_in k (state_next st (event p request reply)).entries ≡ entries)
      → is_guarded (seen_replied g request reply) m ≡ true →
      StandsAsKnown (state_next st (event p request reply))
      (record { spot = m.spot; clean = clean; entries = entries; unsynced = unsynced })
  on request reply clean entries unsynced is may off free named change guarded =
      let before : guards g m.spot.name m.spot.area ≡ true =
      guard_before st p g sound linked m.spot.name m.spot.area request reply off fits is may guarded in
      let quiet = guarded_area g m.spot.name m.spot.area before in
      let w = known before in record {
        folder = w.folder;
        there = untaken st p request reply m.spot is (stands_there st.namespace m.spot w.folder w.there) (free quiet) ∙ w.there;
        names = named w.folder w.there quiet w.names;
        same = change w.folder w.there quiet w.same;
      }

  -- nothing changes in it
  still : (request : Request) (reply : Reply) → is_reply st p request reply ≡ true → allows g request ≡ true →
      is_make request ≡ false → (is_changeable m.spot.area ≡ false → is_taken_from m.spot request reply ≡ false)
      → ((k : ℕ) → entries_in k (state_next st (event p request reply)).entries ≡ entries_in k st.entries)
      → is_guarded (seen_replied g request reply) m ≡ true → StandsAsKnown (state_next st (event p request reply)) m
  still request reply is may off free same guarded =
      on request reply m.clean m.entries m.unsynced is may off free
      (λ k at quiet was. names_same (entries_in k (state_next st (event p request reply)).entries) (entries_in k st.entries) m.entries (same k) was)
      (λ k at quiet was clean. same k ∙ was clean) guarded

  unmade : (k : ℕ) → entries_in k (st.entries ++ []) ≡ entries_in k st.entries
  unmade k = ap (entries_in k) (append-nil st.entries)

  -- where the change is, as to this folder
  site : (spot : Spot) → (b : Bool) → makes_at (Some m) spot ≡ b → Site g spot → is_changeable m.spot.area ≡ false → b ≡ false →
      spot_eq m.spot spot ≡ false
  site spot b is (inl at) quiet off = clash (makes_at (Some m) spot) at (is ∙ off)
  site spot b is (inr there) quiet off = apart m.spot spot quiet there

  -- an entry more, in this folder or in another
  pushed : (request : Request) (i : Inner) (node : TreeNode) (directory : List ℕ) → is_reply st p request Done ≡ true →
      allows g request ≡ true → is_make request ≡ false → is_taken_from m.spot request Done ≡ false → Site g i.spot
      → ((k : ℕ) → entries_in k (state_next st (event p request Done)).entries ≡
      entries_in k (st.entries ++ option_to_list (placed (folder_at st.namespace i.spot) i.path node)))
      → KnownOf (state_next st (event p request Done)) (seen_replied g request Done)
      (making_changed i.spot (making_with_entry i.path node directory) (Some m))
  pushed request i node directory is may off free at grown = by (makes_at (Some m) i.spot) refl
    where
      by : (b : Bool) → makes_at (Some m) i.spot ≡ b →
          KnownOf (state_next st (event p request Done)) (seen_replied g request Done)
          (cond b (Some (making_with_entry i.path node directory m)) (Some m))
      by true e = λ guarded.
          on request Done m.clean (m.entries ++ record { path = i.path; node = node } ∷ []) (directory ∷ m.unsynced) is may off
          (λ quiet. free)
          (λ k there quiet was. subst (λ (l : List Entry). SameNames l (m.entries ++ record { path = i.path; node = node } ∷ []))
          (sym (grown k ∙ placed_here st.namespace k m.spot i.spot i.path node st.entries there (and_left (spot_eq m.spot i.spot) _ e)))
          (names_pushed (entries_in k st.entries) m.entries (record { path = i.path; node = node }) was))
          (λ k there quiet was clean. grown k
          ∙ (placed_here st.namespace k m.spot i.spot i.path node st.entries there (and_left (spot_eq m.spot i.spot) _ e)
          ∙ ap (λ (l : List Entry). l ++ record { path = i.path; node = node } ∷ []) (was clean)))
          guarded
      by false e = λ guarded.
          on request Done m.clean m.entries m.unsynced is may off (λ quiet. free)
          (λ k there quiet was. names_same (entries_in k (state_next st (event p request Done)).entries) (entries_in k st.entries) m.entries
          (grown k ∙ placed_away st.namespace k m.spot i.spot i.path node st.entries there (site i.spot false e at quiet refl)) was)
          (λ k there quiet was clean. grown k
          ∙ (placed_away st.namespace k m.spot i.spot i.path node st.entries there (site i.spot false e at quiet refl)
          ∙ was clean))
          guarded

  -- a change that is refused
  spoils : (request : Request) (error : DirError) (left : ℕ) (i : Inner) → is_reply st p request (Refused error left) ≡ true →
      allows g request ≡ true → is_make request ≡ false → is_taken_from m.spot request (Refused error left) ≡ false
      → ((k : ℕ) → folder_at st.namespace m.spot ≡ Some k → (spot_eq m.spot i.spot ≡ false) →
      entries_in k (state_next st (event p request (Refused error left))).entries ≡ entries_in k st.entries)
      → (is_changeable m.spot.area ≡ false → makes_at (Some m) i.spot ≡ false → spot_eq m.spot i.spot ≡ false)
      → ((k : ℕ) → folder_at st.namespace m.spot ≡ Some k → makes_at (Some m) i.spot ≡ true →
      SameNames (entries_in k st.entries) m.entries →
      SameNames (entries_in k (state_next st (event p request (Refused error left))).entries) m.entries)
      → KnownOf (state_next st (event p request (Refused error left))) (seen_replied g request (Refused error left))
      (making_changed i.spot spoilt (Some m))
  spoils request error left i is may off free same away here = by (makes_at (Some m) i.spot) refl
    where
      by : (b : Bool) → makes_at (Some m) i.spot ≡ b →
          KnownOf (state_next st (event p request (Refused error left))) (seen_replied g request (Refused error left))
          (cond b (Some (spoilt m)) (Some m))
      by true e = λ guarded.
          on request (Refused error left) false m.entries m.unsynced is may off (λ quiet. free)
          (λ k there quiet was. here k there e was)
          (λ k there quiet was clean. clash false clean refl) guarded
      by false e = λ guarded.
          on request (Refused error left) m.clean m.entries m.unsynced is may off (λ quiet. free)
          (λ k there quiet was. names_same (entries_in k (state_next st (event p request (Refused error left))).entries) (entries_in k st.entries) m.entries
          (same k there (away quiet e)) was)
          (λ k there quiet was clean. same k there (away quiet e) ∙ was clean) guarded

  synced : (i : Inner) → is_reply st p (SyncIn i) Done ≡ true → allows g (SyncIn i) ≡ true → After (SyncIn i) Done
  synced i is may = by (makes_at (Some m) i.spot)
    where
      by : (b : Bool) → KnownOf (state_next st (event p (SyncIn i) Done)) (seen_replied g (SyncIn i) Done)
          (cond b (Some (with_path_synced i.path m)) (Some m))
      by true = λ guarded. on (SyncIn i) Done m.clean m.entries (with_path_synced i.path m).unsynced is may refl (λ quiet. refl)
          (λ k there quiet was. names_same (entries_in k (st.entries ++ [])) (entries_in k st.entries) m.entries (unmade k) was)
          (λ k there quiet was clean. unmade k ∙ was clean) guarded
      by false = still (SyncIn i) Done is may refl (λ quiet. refl) unmade

  unsynced : (i : Inner) (error : DirError) (left : ℕ) → is_reply st p (SyncIn i) (Refused error left) ≡ true →
      allows g (SyncIn i) ≡ true → After (SyncIn i) (Refused error left)
  unsynced i error left is may = by (makes_at (Some m) i.spot)
    where
      by : (b : Bool) → KnownOf (state_next st (event p (SyncIn i) (Refused error left)))
          (seen_replied g (SyncIn i) (Refused error left)) (cond b (Some (spoilt m)) (Some m))
      by true = λ guarded. on (SyncIn i) (Refused error left) false m.entries m.unsynced is may refl (λ quiet. refl)
          (λ k there quiet was. names_same (entries_in k (st.entries ++ [])) (entries_in k st.entries) m.entries (unmade k) was)
          (λ k there quiet was clean. clash false clean refl) guarded
      by false = still (SyncIn i) (Refused error left) is may refl (λ quiet. refl) unmade

  -- a refused append leaves the first bytes of its piece, at most
  left_piece : (i : Inner) (piece : List ℕ) (left k : ℕ) → folder_at st.namespace m.spot ≡ Some k →
      spot_eq m.spot i.spot ≡ false → entries_in k (st.entries ++ option_to_list
      (cond (left == 0) None (placed (folder_at st.namespace i.spot) i.path (Piece (take left piece))))) ≡ entries_in k st.entries
  left_piece i piece left k there off = by (left == 0)
    where
      by : (b : Bool) → entries_in k (st.entries ++ option_to_list
          (cond b None (placed (folder_at st.namespace i.spot) i.path (Piece (take left piece))))) ≡ entries_in k st.entries
      by true = unmade k
      by false = placed_away st.namespace k m.spot i.spot i.path (Piece (take left piece)) st.entries there off

  left_here : (i : Inner) (piece : List ℕ) (left k : ℕ) → allows g (AppendIn i piece) ≡ true → folder_at st.namespace m.spot ≡ Some k →
      makes_at (Some m) i.spot ≡ true → SameNames (entries_in k st.entries) m.entries →
      SameNames (entries_in k (st.entries ++ option_to_list
      (cond (left == 0) None (placed (folder_at st.namespace i.spot) i.path (Piece (take left piece)))))) m.entries
  left_here i piece left k may there at was = by (left == 0)
    where
      by : (b : Bool) → SameNames (entries_in k (st.entries ++ option_to_list
          (cond b None (placed (folder_at st.namespace i.spot) i.path (Piece (take left piece)))))) m.entries
      by true = names_same (entries_in k (st.entries ++ [])) (entries_in k st.entries) m.entries (unmade k) was
      by false = subst (λ (l : List Entry). SameNames l m.entries)
          (sym (placed_here st.namespace k m.spot i.spot i.path (Piece (take left piece)) st.entries there (and_left (spot_eq m.spot i.spot) (is_making_area i.spot.area) at)))
          (names_again (entries_in k st.entries) m.entries i.path (take left piece)
          ((was i.path).0 ∙ appends g m i piece (and_right (spot_eq m.spot i.spot) (is_making_area i.spot.area) at) may) was)

  -- a removal is in another folder
  removed : (request : Request) (i : Inner) → is_reply st p request Done ≡ true → allows g request ≡ true →
      is_make request ≡ false → is_taken_from m.spot request Done ≡ false → may_remove s.standing i.spot ≡ true
      → ((k : ℕ) → folder_at st.namespace m.spot ≡ Some k → spot_eq m.spot i.spot ≡ false →
      entries_in k (state_next st (event p request Done)).entries ≡ entries_in k st.entries)
      → is_guarded (seen_replied g request Done) m ≡ true → StandsAsKnown (state_next st (event p request Done)) m
  removed request i is may off free rule same guarded =
      on request Done m.clean m.entries m.unsynced is may off (λ quiet. free)
      (λ k there quiet was. names_same (entries_in k (state_next st (event p request Done)).entries) (entries_in k st.entries) m.entries
      (same k there (apart m.spot i.spot quiet (removal_area s.standing i.spot rule))) was)
      (λ k there quiet was clean. same k there (apart m.spot i.spot quiet (removal_area s.standing i.spot rule)) ∙ was clean) guarded

  -- the folder is moved, or another
  guard_of_move : (from to : Spot) (a b : Area) → contents_allow_move g from to a b ≡ true →
      (is_stage a ≡ true → locks_allow_move s.standing from.name a b ≡ true) →
      guards (seen_replied g (MoveFolder from to) Done) to.name b ≡ true → guards g from.name a ≡ true
  guard_of_move from to area.Embryo area.Prepare bring ask guarded =
      and_left s.standing.embryo_under_lock (draws from.name s.standing)
      (and_left (s.standing.embryo_under_lock && draws from.name s.standing) (holds_own from.name s.standing) (ask refl))
  guard_of_move from to a area.Prepare bring ask guarded = cc
  guard_of_move from to a area.Embryo bring ask guarded = cc
  guard_of_move from to a area.Incoming bring ask guarded = cc
  guard_of_move from to a b bring ask guarded = cc

  moves : (from to : Spot) → is_reply st p (MoveFolder from to) Done ≡ true → allows g (MoveFolder from to) ≡ true →
      After (MoveFolder from to) Done
  moves from to is may = by (spot_eq m.spot from) refl
    where
      x : (may_move_by_locks s.standing from to ≡ true) × (may_move_by_contents g from to ≡ true)
      x = and_parts (may_move_by_locks s.standing from to) (may_move_by_contents g from to) may

      ask : is_stage from.area ≡ true → locks_allow_move s.standing from.name from.area to.area ≡ true
      ask stage = and_right (bytes_eq from.name to.name) (locks_allow_move s.standing from.name from.area to.area)
          (sym (ap (λ b. cond (b || is_stage to.area) (bytes_eq from.name to.name && locks_allow_move s.standing from.name from.area to.area) true) stage)
          ∙ x.0)

      goes : m.spot ≡ from → guards (seen_replied g (MoveFolder from to) Done) to.name to.area ≡ true →
          StandsAsKnown (state_next st (event p (MoveFolder from to) Done)) (record m { spot = to })
      goes same guarded =
          let before : guards g from.name from.area ≡ true =
          guard_of_move from to from.area to.area (and_left (contents_allow_move g from to from.area to.area) _ x.1) ask guarded in
          let w = known (subst (λ (z : Spot). guards g z.name z.area ≡ true) (sym same) before) in record {
            folder = w.folder;
            there = moved_there st.namespace to from to (none_stands st.namespace to (stands_from st p from to is).1) (spot_self to)
                ∙ subst (λ (z : Spot). folder_at st.namespace z ≡ Some w.folder) same w.there;
            names = names_same (entries_in w.folder (st.entries ++ [])) (entries_in w.folder st.entries) m.entries (unmade w.folder) w.names;
            same = λ clean. unmade w.folder ∙ w.same clean;
          }

      other : (c : Bool) → spot_eq m.spot from ≡ false → spot_eq from m.spot ≡ c → c ≡ false
      other false off e = refl
      other true off e = clash (spot_eq m.spot from) (spot_turn from m.spot e) off

      by : (b : Bool) → spot_eq m.spot from ≡ b →
          KnownOf (state_next st (event p (MoveFolder from to) Done)) (seen_replied g (MoveFolder from to) Done)
          (Some (cond b (record m { spot = to }) m))
      by true e = goes (one_location m.spot from e)
      by false e = still (MoveFolder from to) Done is may refl (λ quiet. other (spot_eq from m.spot) e refl) unmade

  gone : (spot : Spot) → is_reply st p (RemoveFolder spot) Done ≡ true → allows g (RemoveFolder spot) ≡ true →
      After (RemoveFolder spot) Done
  gone spot is may = still (RemoveFolder spot) Done is may refl (λ quiet. other quiet (spot_eq spot m.spot) refl) unmade
    where
      other : is_changeable m.spot.area ≡ false → (c : Bool) → spot_eq spot m.spot ≡ c → c ≡ false
      other quiet false e = refl
      other quiet true e = clash (spot_eq m.spot spot) (spot_turn spot m.spot e)
          (apart m.spot spot quiet (removal_area s.standing spot (and_left (may_remove s.standing spot) _ may)))

  pub own_step : (request : Request) (reply : Reply) → is_reply st p request reply ≡ true → allows g request ≡ true →
      entries_in (length st.namespace.folders) st.entries ≡ [] → After request reply
  own_step (MakeFolder spot) Done is may empty = λ guarded. made_known st p spot is empty
  own_step (MoveFolder from to) Done is may empty = moves from to is may
  own_step (MakeDirIn i) Done is may empty =
      pushed (MakeDirIn i) i Dir (parent i.path) is may refl refl (dir_site g i may) (λ k. refl)
  own_step (MakeFileIn i) Done is may empty =
      pushed (MakeFileIn i) i (Piece []) (parent i.path) is may refl refl (make_site g i may) (λ k. refl)
  own_step (AppendIn i piece) Done is may empty =
      pushed (AppendIn i piece) i (Piece piece) i.path is may refl refl (append_site g i piece may) (λ k. refl)
  own_step (SyncIn i) Done is may empty = synced i is may
  own_step (RemoveFileIn i) Done is may empty =
      removed (RemoveFileIn i) i is may refl refl (and_left (may_remove s.standing i.spot) _ may)
      (λ k there off. removed_away st.namespace k m.spot i.spot i.path st.entries there off)
  own_step (RemoveDirIn i) Done is may empty =
      removed (RemoveDirIn i) i is may refl refl (and_left (may_remove s.standing i.spot) _ may)
      (λ k there off. removed_away st.namespace k m.spot i.spot i.path st.entries there off)
  own_step (RemoveFolder spot) Done is may empty = gone spot is may
  own_step (MakeDirIn i) (Refused error left) is may empty =
      spoils (MakeDirIn i) error left i is may refl refl (λ k there off. unmade k)
      (λ quiet e. site i.spot false e (dir_site g i may) quiet refl)
      (λ k there at was. names_same (entries_in k (st.entries ++ [])) (entries_in k st.entries) m.entries (unmade k) was)
  own_step (MakeFileIn i) (Refused error left) is may empty =
      spoils (MakeFileIn i) error left i is may refl refl (λ k there off. unmade k)
      (λ quiet e. site i.spot false e (make_site g i may) quiet refl)
      (λ k there at was. names_same (entries_in k (st.entries ++ [])) (entries_in k st.entries) m.entries (unmade k) was)
  own_step (AppendIn i piece) (Refused error left) is may empty =
      spoils (AppendIn i piece) error left i is may refl refl (λ k there off. left_piece i piece left k there off)
      (λ quiet e. site i.spot false e (append_site g i piece may) quiet refl)
      (λ k there at was. left_here i piece left k may there at was)
  own_step (SyncIn i) (Refused error left) is may empty = unsynced i error left is may
  own_step (MakeFolder spot) (Refused error left) is may empty = λ guarded. record {
    folder = (known guarded).folder;
    there = (known guarded).there;
    names = names_same (entries_in (known guarded).folder (st.entries ++ [])) (entries_in (known guarded).folder st.entries) m.entries
        (unmade (known guarded).folder) (known guarded).names;
    same = λ clean. unmade (known guarded).folder ∙ (known guarded).same clean;
  }
  own_step (MakeFolder spot) (Opened handle) is may empty = λ guarded. record {
    folder = (known guarded).folder;
    there = (known guarded).there;
    names = names_same (entries_in (known guarded).folder (st.entries ++ [])) (entries_in (known guarded).folder st.entries) m.entries
        (unmade (known guarded).folder) (known guarded).names;
    same = λ clean. unmade (known guarded).folder ∙ (known guarded).same clean;
  }
  own_step (MakeFolder spot) (Names names) is may empty = λ guarded. record {
    folder = (known guarded).folder;
    there = (known guarded).there;
    names = names_same (entries_in (known guarded).folder (st.entries ++ [])) (entries_in (known guarded).folder st.entries) m.entries
        (unmade (known guarded).folder) (known guarded).names;
    same = λ clean. unmade (known guarded).folder ∙ (known guarded).same clean;
  }
  own_step (MakeFolder spot) (Items items) is may empty = λ guarded. record {
    folder = (known guarded).folder;
    there = (known guarded).there;
    names = names_same (entries_in (known guarded).folder (st.entries ++ [])) (entries_in (known guarded).folder st.entries) m.entries
        (unmade (known guarded).folder) (known guarded).names;
    same = λ clean. unmade (known guarded).folder ∙ (known guarded).same clean;
  }
  own_step (MakeFolder spot) reply is may empty = λ guarded. record {
    folder = (known guarded).folder;
    there = (known guarded).there;
    names = names_same (entries_in (known guarded).folder (st.entries ++ [])) (entries_in (known guarded).folder st.entries) m.entries
        (unmade (known guarded).folder) (known guarded).names;
    same = λ clean. unmade (known guarded).folder ∙ (known guarded).same clean;
  }
  own_step request Done is may empty = still request Done is may refl (λ quiet. refl) unmade
  own_step request (Refused error left) is may empty = still request (Refused error left) is may refl (λ quiet. refl) unmade
  own_step request (Opened handle) is may empty = still request (Opened handle) is may refl (λ quiet. refl) unmade
  own_step (ListIn i) (Items items) is may empty = still (ListIn i) (Items items) is may refl (λ quiet. refl) unmade
  own_step request (Items items) is may empty = still request (Items items) is may refl (λ quiet. refl) unmade
  own_step (ListArea a) (Names names) is may empty = still (ListArea a) (Names names) is may refl (λ quiet. refl) unmade
  own_step request (Names names) is may empty = still request (Names names) is may refl (λ quiet. refl) unmade
  own_step request reply is may empty = still request reply is may refl (λ quiet. refl) unmade
