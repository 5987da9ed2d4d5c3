-- One change in the folder that is made, and what the process then knows.
use Rattle.std.proofs.Common.{◌≡◌, ℕ, Bool, true, false, ◌&&◌, Some, List, [], ◌∷◌, Ok, Err, refl, sym, ap, subst, ◌∙◌, append-nil}
use Rattle.dir_model.specs.declared.area.Area.{Area}
use Rattle.dir_model.specs.declared.area.Area.TheVariants.{Prepare, Run, Incoming}
use Rattle.dir_model.specs.declared.item.Inner.{Inner}
use Rattle.dir_model.specs.declared.spot.Spot.{Spot}
use Rattle.dir_model.specs.declared.request.DirError.{DirError}
use Rattle.dir_model.specs.declared.request.Request.TheVariants.{MakeDirIn, MakeFileIn, AppendIn, SyncIn}
use Rattle.dir_model.specs.declared.request.Reply.TheVariants.{Done, Refused}
use Rattle.dir_model.specs.State.{spot_eq}
use Rattle.dir_model.proofs.Lists.{and_left, and_both}
use Rattle.dir_rules.specs.declared.seen.Making.{Making}
use Rattle.dir_rules.specs.declared.seen.Seen.{Seen}
use Rattle.dir_rules.specs.Standing.{is_in, holds_own}
use Rattle.dir_rules.specs.Seen.{makes_at, is_making_area, spoilt, with_path_synced}
use Rattle.dir_rules.specs.Rules.{makes_here, has_file_among, may_make_entry, may_make_file_in, may_append_in, may_sync_in, may_sync_entry, allows}
use Rattle.dir_rules.specs.Conforms.{seen_replied}
use Rattle.dir_trait.specs.DirCalls.{DirAt, DirCall, AppendCall}
use Rattle.dir_trait.specs.Knowledge.{Knows}
use Rattle.dir_trait.proofs.Knowing.{knows_call}
use Rattle.folder_building.specs.Making.{inner_at, with_making, IsSite, IsSpoilt, Appends, Spoils, with_piece}
use Rattle.folder_building.specs.Changes.{with_new, Makes, RefusesEntry, SyncsPath, Unsyncs}
use Rattle.folder_building.proofs.Working.{append_call}

-- the folder stands where the process makes it, and no pod in run does
at_site : (s : Seen) (m : Making) (spot : Spot) (area : Area) → makes_here (with_making s m) spot area ≡ true → makes_at (Some m) spot ≡ true
at_site s m spot Prepare h = and_left _ _ h
at_site s m spot Incoming h = and_left _ _ h
at_site s m spot _ h = cc

not_run : (s : Seen) (spot : Spot) (area : Area) → makes_here s spot area ≡ true → is_in area Run ≡ false
not_run s spot Prepare h = refl
not_run s spot Incoming h = refl
not_run s spot _ h = cc

here_same : (s : Seen) (m new : Making) (spot : Spot) (area : Area) → new.spot ≡ m.spot → makes_here (with_making s new) spot area ≡ makes_here (with_making s m) spot area
here_same s m new spot Prepare e = ap (λ (x : Spot). (spot_eq x spot && is_making_area spot.area) && holds_own spot.name s.standing) e
here_same s m new spot Incoming e = ap (λ (x : Spot). (spot_eq x spot && is_making_area spot.area) && s.image_under_lock) e
here_same s m new spot _ e = refl

-- a change in the folder keeps its place
pub site_kept : {spot : Spot} {s : Seen} {m new : Making} → new.spot ≡ m.spot → IsSite spot s m → IsSite spot s new
site_kept {spot} {s} {m} {new} e site = record { here = here_same s m new spot spot.area e ∙ site.here; spared = site.spared }

module _ (spot : Spot) (path : List ℕ) (s : Seen) (m : Making) (site : IsSite spot s m) where
  inner : Inner
  inner = inner_at spot path

  at : makes_at (Some m) spot ≡ true
  at = at_site s m spot spot.area site.here

  run : is_in spot.area Run ≡ false
  run = not_run (with_making s m) spot spot.area site.here

  -- nothing more is there, and what was had may be spoilt
  pub is_spoilt : IsSpoilt path m (spoilt m)
  is_spoilt = record { spot = refl; part = []; at = refl; entries = sym (append-nil m.entries) }

  module _ (may : may_make_entry s false (inner_at spot path) m ≡ true) where
    dir_allowed : allows (with_making s m) (MakeDirIn (inner_at spot path)) ≡ true
    dir_allowed = and_both _ _ (and_both _ _ site.here may) site.spared

    pub dir_seen : seen_replied (with_making s m) (MakeDirIn (inner_at spot path)) Done ≡ with_making s (with_new path false m)
    dir_seen = rw (dir_allowed, at) refl

    pub dir_unseen : (e : DirError) → seen_replied (with_making s m) (MakeDirIn (inner_at spot path)) (Refused e 0) ≡ with_making s (spoilt m)
    dir_unseen e = rw (dir_allowed, at) refl

  module _ (may : may_make_entry s true (inner_at spot path) m ≡ true) where
    by_file : (area : Area) → makes_here (with_making s m) spot area ≡ true → may_make_file_in (with_making s m) (inner_at spot path) area ≡ true
    by_file Prepare h = and_both _ _ h may
    by_file Incoming h = and_both _ _ h may
    by_file _ h = cc

    file_allowed : allows (with_making s m) (MakeFileIn (inner_at spot path)) ≡ true
    file_allowed = and_both _ _ (by_file spot.area site.here) site.spared

    pub file_seen : seen_replied (with_making s m) (MakeFileIn (inner_at spot path)) Done ≡ with_making s (with_new path true m)
    file_seen = rw (file_allowed, at, run) refl

    pub file_unseen : (e : DirError) → seen_replied (with_making s m) (MakeFileIn (inner_at spot path)) (Refused e 0) ≡ with_making s (spoilt m)
    file_unseen e = rw (file_allowed, at, run) refl

  module _ (piece : List ℕ) (file : has_file_among path m.entries ≡ true) where
    by_append : (area : Area) → makes_here (with_making s m) spot area ≡ true → may_append_in (with_making s m) (inner_at spot path) area ≡ true
    by_append Prepare h = and_both _ _ h file
    by_append Incoming h = and_both _ _ h file
    by_append _ h = cc

    append_allowed : allows (with_making s m) (AppendIn (inner_at spot path) piece) ≡ true
    append_allowed = and_both _ _ (by_append spot.area site.here) site.spared

    pub append_seen : seen_replied (with_making s m) (AppendIn (inner_at spot path) piece) Done ≡ with_making s (with_piece path piece m)
    append_seen = rw (append_allowed, at) refl

    pub append_unseen : (e : DirError) (left : ℕ) → seen_replied (with_making s m) (AppendIn (inner_at spot path) piece) (Refused e left) ≡ with_making s (spoilt m)
    append_unseen e left = rw (append_allowed, at) refl

  module _ (may : may_sync_entry (inner_at spot path) m ≡ true) where
    by_sync : (area : Area) → makes_here (with_making s m) spot area ≡ true → may_sync_in (with_making s m) (inner_at spot path) area ≡ true
    by_sync Prepare h = and_both _ _ h may
    by_sync Incoming h = and_both _ _ h may
    by_sync _ h = cc

    sync_allowed : allows (with_making s m) (SyncIn (inner_at spot path)) ≡ true
    sync_allowed = and_both _ _ (by_sync spot.area site.here) site.spared

    pub sync_seen : seen_replied (with_making s m) (SyncIn (inner_at spot path)) Done ≡ with_making s (with_path_synced path m)
    sync_seen = rw (sync_allowed, at) refl

    pub sync_unseen : (e : DirError) → seen_replied (with_making s m) (SyncIn (inner_at spot path)) (Refused e 0) ≡ with_making s (spoilt m)
    sync_unseen e = rw (sync_allowed, at) refl

-- one call, and what is known after it
module _ {observed : Bool} {old new : DirAt} (spot : Spot) (path : List ℕ) (t : observed ≡ true) where
  pub dir_makes : DirCall observed old (MakeDirIn (inner_at spot path)) Done new → Makes spot path false old new
  dir_makes c s m k site may = subst (λ (x : Seen). Knows new x) (dir_seen spot path s m site may) (knows_call t k refl refl c)

  pub dir_refuses : (e : DirError) → DirCall observed old (MakeDirIn (inner_at spot path)) (Refused e 0) new → RefusesEntry spot path false old new
  dir_refuses e c s m k site may = record { making = spoilt m; is = is_spoilt spot path s m site; knows = subst (λ (x : Seen). Knows new x) (dir_unseen spot path s m site may e) (knows_call t k refl refl c) }

  pub file_makes : DirCall observed old (MakeFileIn (inner_at spot path)) Done new → Makes spot path true old new
  file_makes c s m k site may = subst (λ (x : Seen). Knows new x) (file_seen spot path s m site may) (knows_call t k refl refl c)

  pub file_refuses : (e : DirError) → DirCall observed old (MakeFileIn (inner_at spot path)) (Refused e 0) new → RefusesEntry spot path true old new
  file_refuses e c s m k site may = record { making = spoilt m; is = is_spoilt spot path s m site; knows = subst (λ (x : Seen). Knows new x) (file_unseen spot path s m site may e) (knows_call t k refl refl c) }

  pub syncs : DirCall observed old (SyncIn (inner_at spot path)) Done new → SyncsPath spot path old new
  syncs c s m k site may = subst (λ (x : Seen). Knows new x) (sync_seen spot path s m site may) (knows_call t k refl refl c)

  pub unsyncs : (e : DirError) → DirCall observed old (SyncIn (inner_at spot path)) (Refused e 0) new → Unsyncs spot path old new
  unsyncs e c s m k site may = record { making = spoilt m; is = is_spoilt spot path s m site; knows = subst (λ (x : Seen). Knows new x) (sync_unseen spot path s m site may e) (knows_call t k refl refl c) }

  pub appends : (piece : List ℕ) (done : Unit {0}) → AppendCall observed old (AppendIn (inner_at spot path) piece) (Ok done) new → Appends spot path (piece ∷ []) old new
  appends piece done c s m k site file = subst (λ (x : Seen). Knows new x) (append_seen spot path s m site piece file) (knows_call t k refl refl (append_call (inner_at spot path) piece (Ok done) t c).1)

  pub spoils : (piece : List ℕ) (e : DirError) → AppendCall observed old (AppendIn (inner_at spot path) piece) (Err e) new → Spoils spot path old new
  spoils piece e c s m k site file =
      let call = append_call (inner_at spot path) piece (Err e) t c in
      record { making = spoilt m; is = is_spoilt spot path s m site; knows = subst (λ (x : Seen). Knows new x) (append_unseen spot path s m site piece file e call.0) (knows_call t k refl refl call.1) }
