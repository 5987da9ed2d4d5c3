-- A plan carried out, entry by entry.
use Rattle.std.proofs.Common.{◌≡◌, ℕ, ◌+◌, ◌<◌, Bool, true, false, not, bytes_eq, List, [], ◌∷◌, ◌++◌, filter, take, drop, length, get_or, refl, sym, ap, subst, ◌∙◌, append_assoc, append-nil, arith}
use Rattle.std.specs.List.{list_all}
use Rattle.std.proofs.lemmas.List.{take_more, drop_more, take-append-drop, length-take-le}
use Rattle.dir_model.specs.declared.spot.Spot.{Spot}
use Rattle.dir_model.specs.Paths.{is_empty, is_path}
use Rattle.dir_model.proofs.Lists.{and_left, and_right, and_both, or_last}
use Rattle.dir_rules.specs.declared.seen.Entry.{Entry}
use Rattle.dir_rules.specs.declared.seen.Making.{Making}
use Rattle.dir_rules.specs.declared.seen.Seen.{Seen}
use Rattle.dir_rules.specs.Rules.{has_path_among, is_new_path, is_in_order, may_make_entry, may_sync_entry}
use Rattle.dir_trait.specs.DirCalls.{DirAt}
use Rattle.dir_trait.specs.Knowledge.{Knows}
use Rattle.folder_building.specs.declared.plan.PlanEntry.{PlanEntry}
use Rattle.folder_building.specs.declared.plan.Content.{Content}
use Rattle.folder_building.specs.declared.plan.Content.TheVariants.{Directory, Given, Copied}
use Rattle.folder_building.specs.Plans.{is_file, has_origin, planned_entries, may_follow_entries, is_plan, is_in_turn, are_in_turn, piece_at, directory_entry, pieces_at, file_in_pieces, AreMade, is_in_plan, is_owed}
use Rattle.folder_building.specs.Sources.{SourceAt, Same, UnlikeContent, UnlikeAt, LikeContent, AreLike}
use Rattle.folder_building.specs.Making.{inner_at, with_making, Grown, with_pieces, IsSpoilt, HasAdded, AddsPlanEntry, Tries, IsMakingEmpty, IsFilledByPlan, FillsWith, HasBegunPlan, BeginsPlan, making_built, CarriesOut}
use Rattle.folder_building.specs.Changes.{with_new, Makes, SyncsPath, Unsyncs, MakesGivenFile, MakesCopiedFile, SyncsAll, UnsyncsAll, SyncedTo}
use Rattle.folder_building.proofs.Steps.{site_kept}
use Rattle.folder_building.proofs.Pieces.{pieces_spot, pieces_clean, pieces_entries, pieces_owed, may_same}
use Rattle.folder_building.proofs.Copying.{content_same, like_same}
use Rattle.folder_building.proofs.Entries.{made_more, new_outline, turn_outline, follows_at, turn_at, among_at, path_made, owed_more, owed_path, owed_parent, all_wider, owed_less, owed_none}

-- an entry that was made
pub dir_adds : {observed : Bool} {source : SourceAt} {spot : Spot} {path : List ℕ} {old new : DirAt} → (observed ≡ true → Makes spot path false old new) → AddsPlanEntry observed source spot (record { path = path; content = Directory }) old new
dir_adds {observed} {source} {spot} {path} f = record {
  chunk = directory_entry path ∷ [];
  made = refl;
  builds = λ t s m k site may. record {
    making = with_new path false m;
    is = record { spot = refl; clean = refl; entries = refl; owed = λ test at up rest. and_both _ _ up rest };
    knows = f t s m k site may.1;
  };
}

file_added : (path : List ℕ) (content : Content) (ps : List (List ℕ)) (m : Making) → HasAdded (record { path = path; content = content }) (file_in_pieces path ps) m (with_pieces path ps (with_new path true m))
file_added path content ps m = record {
  spot = pieces_spot path ps (with_new path true m);
  clean = pieces_clean path ps (with_new path true m);
  entries = pieces_entries path ps (with_new path true m) ∙ append_assoc m.entries (piece_at path [] ∷ []) (pieces_at path ps);
  owed = λ test at up rest. pieces_owed test path at ps (with_new path true m) (and_both _ _ up rest);
}

pub given_adds : {observed : Bool} {source : SourceAt} {spot : Spot} {path bytes : List ℕ} {old new : DirAt} → MakesGivenFile observed spot path bytes old new → AddsPlanEntry observed source spot (record { path = path; content = Given bytes }) old new
given_adds {observed} {source} {spot} {path} {bytes} g = record {
  chunk = file_in_pieces path g.pieces;
  made = record { pieces = g.pieces; is = refl; fits = g.whole };
  builds = λ t s m k site may. record {
    making = with_pieces path g.pieces (with_new path true m);
    is = file_added path (Given bytes) g.pieces m;
    knows = g.makes t s m refl k site may.1;
  };
}

pub copied_adds : {observed : Bool} {source : SourceAt} {spot : Spot} {path : List ℕ} {origin : _} {size : ℕ} {sha : List ℕ} {old new : DirAt} → MakesCopiedFile observed source spot path size sha old new → AddsPlanEntry observed source spot (record { path = path; content = Copied origin size sha }) old new
copied_adds {observed} {source} {spot} {path} {origin} {size} {sha} g = record {
  chunk = file_in_pieces path g.pieces;
  made = record { pieces = g.pieces; is = refl; fits = (g.sized, g.hashed) };
  builds = λ t s m k site may. record {
    making = with_pieces path g.pieces (with_new path true m);
    is = file_added path (Copied origin size sha) g.pieces m;
    knows = g.makes t s m may.0 k site may.1;
  };
}

-- the next entry may be made
may_next : (spot : Spot) (before : List PlanEntry) (e : PlanEntry) (es : List Entry) (s : Seen) (m : Making) → AreMade before es → m.entries ≡ es → may_follow_entries before e ≡ true → is_in_turn s spot.area before e ≡ true → may_make_entry s (is_file e.content) (inner_at spot e.path) m ≡ true
may_next spot before e es s m are holds f turn =
    and_both _ _
    (ap (is_new_path e.path) holds ∙ new_outline before es are e.path ∙ and_left _ _ (and_right _ _ f))
    (ap (is_in_order s spot.area (is_file e.content) e.path) holds ∙ turn_outline before es are s spot.area (is_file e.content) e.path ∙ turn)

module _ (observed : Bool) (source : SourceAt) (spot : Spot) (plan : List PlanEntry) where
  pub fills_none : {d : DirAt} → FillsWith observed source spot plan [] d d
  fills_none = record {
    entries = [];
    made = refl;
    fills = λ t s m k site may. record { making = m; is = record { stands = refl; clean = may.fresh.clean; holds = may.fresh.entries; owes = ap (list_all (is_owed [])) may.fresh.unsynced }; knows = k };
  }

  module _ (i : ℕ) (e : PlanEntry) (within : i < length plan) (is : e ≡ get_or plan i e) (well : is_plan plan ≡ true) where
    taken : take (i + 1) plan ≡ take i plan ++ e ∷ []
    taken = take_more plan i e within ∙ ap (λ x. take i plan ++ x ∷ []) (sym is)

    pub following : may_follow_entries (take i plan) e ≡ true
    following = subst (λ (x : PlanEntry). may_follow_entries (take i plan) x ≡ true) (sym is) (follows_at [] plan i e within well)

    turning : (s : Seen) → are_in_turn s spot.area [] plan ≡ true → is_in_turn s spot.area (take i plan) e ≡ true
    turning s h = subst (λ (x : PlanEntry). is_in_turn s spot.area (take i plan) x ≡ true) (sym is) (turn_at s spot.area [] plan i e within h)

    pub fills_next : {next : SourceAt} {a b c : DirAt} → Same source next → FillsWith observed source spot plan (take i plan) a b → AddsPlanEntry observed next spot e b c → FillsWith observed source spot plan (take (i + 1) plan) a c
    fills_next {next} {a} {b} {c} same f g = record {
      entries = f.entries ++ g.chunk;
      made = subst (λ (xs : List PlanEntry). AreMade xs (f.entries ++ g.chunk)) (sym taken) (made_more (take i plan) f.entries e g.chunk f.made g.made);
      fills = λ t s m k site may.
          let x = f.fills t s m k site may in
          let y = g.builds t s x.making x.knows (site_kept x.is.stands site) (may_same s.standing same may.may, may_next spot (take i plan) e f.entries s x.making f.made x.is.holds following (turning s may.turn)) in
          record {
            making = y.making;
            is = record {
              stands = y.is.spot ∙ x.is.stands;
              clean = y.is.clean ∙ x.is.clean;
              holds = y.is.entries ∙ ap (λ (es : List Entry). es ++ g.chunk) x.is.holds;
              owes = subst (λ (xs : List PlanEntry). list_all (is_owed xs) y.making.unsynced ≡ true) (sym taken)
                  (y.is.owed (is_owed (take i plan ++ e ∷ [])) (owed_path (take i plan) e) (owed_parent (take i plan) e following)
                  (all_wider (is_owed (take i plan)) (is_owed (take i plan ++ e ∷ [])) (owed_more (take i plan) e) x.making.unsynced x.is.owes));
            };
            knows = y.knows;
          };
    }

    pub begins_next : {next : SourceAt} {a b c : DirAt} → observed ≡ true → Same source next → FillsWith observed source spot plan (take i plan) a b → Tries next spot e b c → BeginsPlan source spot plan a c
    begins_next {next} {a} {b} {c} t same f g s m k site may =
        let x = f.fills t s m k site may in
        let y = g s x.making x.knows (site_kept x.is.stands site) (may_same s.standing same may.may, may_next spot (take i plan) e f.entries s x.making f.made x.is.holds following (turning s may.turn)) in
        record {
          making = y.making;
          is = record {
            stands = y.is.spot ∙ x.is.stands;
            begun = record {
              before = take i plan;
              rest = drop i plan;
              is = sym (take-append-drop i plan);
              made = f.entries;
              are = f.made;
              path = e.path;
              part = y.is.part;
              next = y.is.at;
              holds = y.is.entries ∙ ap (λ (es : List Entry). es ++ y.is.part) x.is.holds;
            };
          };
          knows = y.knows;
        }

-- everything was made, and not everything is synced
given_up : (spot : Spot) (plan : List PlanEntry) (path : List ℕ) (m : Making) (entries : List Entry) → AreMade plan entries → IsFilledByPlan m.spot plan plan entries m → (x : Making) → x.spot ≡ m.spot → x.entries ≡ m.entries → {s : Seen} {c : DirAt} → Grown (IsSpoilt path x) s c → Grown (HasBegunPlan m.spot plan) s c
given_up spot plan path m entries are filled x same_spot same_entries {s} {c} g = record {
  making = g.making;
  is = record {
    stands = g.is.spot ∙ same_spot;
    begun = record {
      before = plan;
      rest = [];
      is = sym (append-nil plan);
      made = entries;
      are = are;
      path = path;
      part = g.is.part;
      next = g.is.at;
      holds = g.is.entries ∙ ap (λ (es : List Entry). es ++ g.is.part) (same_entries ∙ filled.holds);
    };
  };
  knows = g.knows;
}

-- the rest is synced, entry by entry
next_item : (xs : List PlanEntry) (i : ℕ) (x : PlanEntry) → i < length xs → x ≡ get_or xs i x → drop i xs ≡ x ∷ drop (i + 1) xs
next_item xs i x within is = drop_more xs i x within ∙ ap (λ y. y ∷ drop (i + 1) xs) (sym is)

module _ (spot : Spot) (plan : List PlanEntry) where
  pub synced_none : (d : DirAt) → SyncedTo spot plan plan d d
  synced_none d s m entries k site are filled = record { unsynced = m.unsynced; owes = filled.owes; knows = k }

  -- it is known that this one was made
  may_sync : (i : ℕ) (e : PlanEntry) → i < length plan → e ≡ get_or plan i e → (m : Making) (entries : List Entry) → AreMade plan entries → m.entries ≡ entries → may_sync_entry (inner_at spot e.path) m ≡ true
  may_sync i e within is m entries are holds =
      or_last (is_empty e.path) (has_path_among e.path m.entries) (ap (has_path_among e.path) holds ∙ path_made plan entries are e.path (subst (λ (x : PlanEntry). is_in_plan x.path plan ≡ true) (sym is) (among_at plan i e within)))

  module _ (i : ℕ) (e : PlanEntry) (within : i < length plan) (is : e ≡ get_or plan i e) where
    pub synced_next : (a b c : DirAt) → SyncedTo spot plan (drop i plan) a b → SyncsPath spot e.path b c → SyncedTo spot plan (drop (i + 1) plan) a c
    synced_next a b c f g s m entries k site are filled =
        let x = f s m entries k site are filled in
        let owes = subst (λ (xs : List PlanEntry). list_all (is_owed xs) x.unsynced ≡ true) (next_item plan i e within is) x.owes in
        record {
          unsynced = filter (λ p. not (bytes_eq p e.path)) x.unsynced;
          owes = owed_less e (drop (i + 1) plan) x.unsynced owes;
          knows = g s (record m { unsynced = x.unsynced }) x.knows (site_kept refl site) (may_sync i e within is (record m { unsynced = x.unsynced }) entries are filled.holds);
        }

    pub unsynced_next : (a b c : DirAt) → SyncedTo spot plan (drop i plan) a b → Unsyncs spot e.path b c → UnsyncsAll spot plan a c
    unsynced_next a b c f g s m entries k site are filled =
        let x = f s m entries k site are filled in
        given_up spot plan e.path m entries are filled (record m { unsynced = x.unsynced }) refl refl
        (g s (record m { unsynced = x.unsynced }) x.knows (site_kept refl site) (may_sync i e within is (record m { unsynced = x.unsynced }) entries are filled.holds))

  -- the folder itself comes last
  pub synced_all : (a b c : DirAt) (left : List PlanEntry) → left ≡ [] → SyncedTo spot plan left a b → SyncsPath spot [] b c → SyncsAll spot plan a c
  synced_all a b c left none f g s m entries k site are filled =
      let x = f s m entries k site are filled in
      let owes = subst (λ (xs : List PlanEntry). list_all (is_owed xs) x.unsynced ≡ true) none x.owes in
      subst (λ (u : List (List ℕ)). Knows c (with_making s (record m { unsynced = u }))) (owed_none x.unsynced owes)
      (g s (record m { unsynced = x.unsynced }) x.knows (site_kept refl site) refl)

  pub unsynced_all : (a b c : DirAt) (left : List PlanEntry) → SyncedTo spot plan left a b → Unsyncs spot [] b c → UnsyncsAll spot plan a c
  unsynced_all a b c left f g s m entries k site are filled =
      let x = f s m entries k site are filled in
      given_up spot plan [] m entries are filled (record m { unsynced = x.unsynced }) refl refl
      (g s (record m { unsynced = x.unsynced }) x.knows (site_kept refl site) refl)

-- the whole
module _ (observed : Bool) (source : SourceAt) (spot : Spot) (plan : List PlanEntry) where
  same_making : (m x : Making) (entries : List Entry) → IsMakingEmpty m → IsFilledByPlan m.spot plan plan entries x → record x { unsynced = [] } ≡ making_built m entries
  same_making m x entries fresh filled =
      ap (λ (p : Spot). let r : Making = record { spot = p; clean = x.clean; entries = x.entries; unsynced = [] } in r) filled.stands
      ∙ ap (λ (b : Bool). let r : Making = record { spot = m.spot; clean = b; entries = x.entries; unsynced = [] } in r) (filled.clean ∙ sym fresh.clean)
      ∙ ap (λ (es : List Entry). let r : Making = record { spot = m.spot; clean = m.clean; entries = es; unsynced = [] } in r) filled.holds
      ∙ ap (λ (u : List (List ℕ)). let r : Making = record { spot = m.spot; clean = m.clean; entries = entries; unsynced = u } in r) (sym fresh.unsynced)

  as_its_own : (m x : Making) (entries : List Entry) → IsFilledByPlan m.spot plan plan entries x → IsFilledByPlan x.spot plan plan entries x
  as_its_own m x entries filled = record { stands = refl; clean = filled.clean; holds = filled.holds; owes = filled.owes }

  pub carries_out : (a b c : DirAt) → FillsWith observed source spot plan plan a b → (observed ≡ true → SyncsAll spot plan b c) → CarriesOut observed source spot plan a c
  carries_out a b c f g = record {
    entries = f.entries;
    made = f.made;
    knows = λ t s m k site may.
        let x = f.fills t s m k site may in
        subst (λ (y : Making). Knows c (with_making s y)) (same_making m x.making f.entries may.fresh x.is)
        (g t s x.making f.entries x.knows (site_kept x.is.stands site) f.made (as_its_own m x.making f.entries x.is));
  }

  pub begins_after : (a b c : DirAt) → observed ≡ true → FillsWith observed source spot plan plan a b → UnsyncsAll spot plan b c → BeginsPlan source spot plan a c
  begins_after a b c t f g s m k site may =
      let x = f.fills t s m k site may in
      let y = g s x.making f.entries x.knows (site_kept x.is.stands site) f.made (as_its_own m x.making f.entries x.is) in
      record { making = y.making; is = record { stands = y.is.stands ∙ x.is.stands; begun = y.is.begun }; knows = y.knows }

  pub begins_none : (a : DirAt) → BeginsPlan source spot plan a a
  begins_none a s m k site may = record {
    making = m;
    is = record { stands = refl; begun = record { before = []; rest = plan; is = refl; made = []; are = refl; path = []; part = []; next = refl; holds = may.fresh.entries } };
    knows = k;
  }

-- an entry whose content is known
pub adds_as : {observed : Bool} {source : SourceAt} {spot : Spot} {content : Content} {a b : DirAt} (e : PlanEntry) → e.content ≡ content → AddsPlanEntry observed source spot (record { path = e.path; content = content }) a b → AddsPlanEntry observed source spot e a b
adds_as {observed} {source} {spot} {content} {a} {b} e is h = subst (λ (x : Content). AddsPlanEntry observed source spot (record { path = e.path; content = x }) a b) (sym is) h

-- each path of a plan is one, and so is where a file is copied from
module _ (plan : List PlanEntry) (i : ℕ) (e : PlanEntry) (within : i < length plan) (is : e ≡ get_or plan i e) (well : is_plan plan ≡ true) where
  planned : may_follow_entries (take i plan) e ≡ true
  planned = subst (λ (x : PlanEntry). may_follow_entries (take i plan) x ≡ true) (sym is) (follows_at [] plan i e within well)

  pub planned_path : is_path e.path ≡ true
  planned_path = and_left (is_path e.path) _ planned

  pub planned_origin : has_origin e.content ≡ true
  planned_origin = and_right (is_new_path e.path (planned_entries (take i plan))) (has_origin e.content) (and_right (is_path e.path) _ planned)

-- the entry whose file is unlike what the plan asks for
pub unlike_at : (source next : SourceAt) (plan : List PlanEntry) (i : ℕ) (e : PlanEntry) → i < length plan → e ≡ get_or plan i e → (n : ℕ) → n ≡ i → Same source next → UnlikeContent next e.content → UnlikeAt source plan n
unlike_at source next plan i e within is n at same unlike = record {
  before = take i plan;
  entry = e;
  rest = drop (i + 1) plan;
  is = sym (take-append-drop i plan) ∙ ap (λ (xs : List PlanEntry). take i plan ++ xs) (next_item plan i e within is);
  place = length-take-le i plan (omega (arith, within)) ∙ sym at;
  unlike = content_same source next e.content same unlike;
}

-- one more is what the plan asks for
like_push : (source : SourceAt) (xs : List PlanEntry) (e : PlanEntry) → AreLike source xs → LikeContent source e.content → AreLike source (xs ++ e ∷ [])
like_push source [] e are is = (is, tt)
like_push source (x ∷ xs) e are is = (are.0, like_push source xs e are.1 is)

pub like_next : (source next : SourceAt) (plan : List PlanEntry) (i : ℕ) (e : PlanEntry) → i < length plan → e ≡ get_or plan i e → Same source next → AreLike source (take i plan) → LikeContent next e.content → AreLike source (take (i + 1) plan)
like_next source next plan i e within is same are like = subst (λ (xs : List PlanEntry). AreLike source xs) (sym (take_more plan i e within ∙ ap (λ (x : PlanEntry). take i plan ++ x ∷ []) (sym is))) (like_push source (take i plan) e are (like_same source next e.content same like))
