-- While every process keeps the rules no import is answered as if its folder weren't its own, and none sees an image go.
use Rattle.std.proofs.Common.{◌≡◌, ◌⊎◌, inl, inr, ℕ, Bool, true, false, not, ◌&&◌, ◌||◌, ◌==◌, cond, Some, None, List, [], ◌∷◌, ◌++◌, append_assoc, append-nil, refl, sym, ap, subst, ◌∙◌}
use Rattle.std.specs.Prelude.{IfErr, Result, Ok, Err}
use Rattle.std.specs.List.{AllByRecursion}
use Rattle.plain_laws.proofs.Booleans.{clash}
use Rattle.ac_types.specs.declared.store_key.StoreKey.{StoreKey}
use Rattle.dir_model.specs.declared.area.Area.{Area}
use Rattle.dir_model.specs.declared.area.Area.TheVariants as area
use Rattle.dir_model.specs.declared.event.Event.{Event}
use Rattle.dir_model.specs.declared.spot.Spot.{Spot}
use Rattle.dir_model.specs.declared.request.DirError.TheVariants.{Missing, Exists}
use Rattle.dir_model.specs.declared.request.Request.{Request}
use Rattle.dir_model.specs.declared.request.Request.TheVariants.{MakeFolder, MoveFolder, MakeDirIn, MakeFileIn, AppendIn, SyncIn, ReadIn, ListIn, RemoveFolder}
use Rattle.dir_model.specs.declared.request.Reply.{Reply}
use Rattle.dir_model.specs.declared.request.Reply.TheVariants.{Done, Opened, Refused}
use Rattle.dir_model.specs.Calls.{CallStep, TookPlace, LeftNothing, event, is_begin, is_foreign, is_kill}
use Rattle.dir_model.specs.State.{Namespace, DirState, empty_state, folder_at, stands, lives, spot_eq}
use Rattle.dir_model.specs.Trace.{namespace_replied, state_after}
use Rattle.dir_model.proofs.Allowed.{allowed_reply}
use Rattle.dir_model.proofs.Chains.{states_next-append, state_after-push}
use Rattle.dir_model.proofs.Lists.{and_left, and_right, all_left, all_right, all_weaker, or_map, same_rest}
use Rattle.dir_model.proofs.Moments.{some_number}
use Rattle.dir_rules.specs.declared.seen.Seen.{Seen}
use Rattle.dir_rules.specs.declared.standing.Standing.{Standing}
use Rattle.dir_rules.specs.Anomalies.{loses_own}
use Rattle.dir_rules.specs.Seen.{makes_at}
use Rattle.dir_rules.specs.Standing.{is_in, shares_area, excludes_area, standing_replied}
use Rattle.dir_rules.specs.LockRules.{lock_rules_allow}
use Rattle.dir_rules.specs.Rules.{allows, contents_allow_move, may_read_area, has_done, is_all_done}
use Rattle.dir_rules.specs.Conforms.{seen_of, seen_after, seen_replied, seen_after_event, nothing_seen}
use Rattle.dir_rules.proofs.Tied.{seen_after-append}
use Rattle.dir_laws.proofs.Living.{lived_first}
use Rattle.dir_laws.proofs.Refusals.{exists_by}
use Rattle.dir_trait.specs.DirCalls.{DirAt}
use Rattle.lifecycle.specs.Executions.{IsConforming}
use Rattle.lifecycle.proofs.Draws.{conforming_left}
use Rattle.folder_contents.specs.UnderGate.{is_taken_from, is_taken_by, KnowsAlong, StaysAlong}
use Rattle.folder_contents.proofs.Along.{Happens, happens, one_of}
use Rattle.folder_contents.proofs.Handed.{brought}
use Rattle.folder_contents.proofs.Known.{alive_at}
use Rattle.folder_contents.proofs.Spots.{in_area, one_location}
use Rattle.folder_contents.proofs.UnderGate.{images_stay_shared, images_stay_closed}
use Rattle.gate_reading.proofs.OwnSteps.{own_is}
use Rattle.impossible_replies.proofs.Alongside.{steps}
use Rattle.impossible_replies.proofs.Citing.{never_lost_change}
use Rattle.impossible_replies.proofs.MakersReplies.{makers_reply}
use Rattle.image_reading.specs.declared.error.StoreError.{StoreError}
use Rattle.image_reading.specs.declared.error.StoreError.TheVariants as store_error
use Rattle.image_reading.specs.Looks.{reads_image}
use Rattle.image_reading.specs.Places.{image_spot}
use Rattle.bundle_image.specs.declared.refusal.BundleRefusal.{BundleRefusal}
use Rattle.bundle_image.specs.declared.refusal.BundleRefusal.TheVariants as bundle
use Rattle.image_store.specs.Causes.{Source, WasStrayImport, Vanishes, StrayCause, is_refused_move}
use Rattle.image_store.specs.Imports.{IsImportRefused}
use Rattle.image_store.specs.Refusals.{bundle_refusal}
use Rattle.image_store.specs.Requests.{is_of_incoming, is_stray_reply}

-- a change in incoming isn't one in run
off_run : (a : Area) → is_in area.Incoming a ≡ true → not (is_in area.Run a) ≡ true
off_run area.Incoming h = refl
off_run a h = cc

-- who may move from incoming to images makes that folder
makes_moved : (s : Seen) (from to : Spot) → is_in area.Incoming from.area ≡ true → is_in area.Images to.area ≡ true → allows s (MoveFolder from to) ≡ true → makes_at s.making from ≡ true
makes_moved s from to out into may =
    let b = subst (λ (a : Area). contents_allow_move s from to area.Incoming a ≡ true) (sym (in_area area.Images to.area into))
    (subst (λ (a : Area). contents_allow_move s from to a to.area ≡ true) (sym (in_area area.Incoming from.area out)) (brought s from to may)) in
    and_left (makes_at s.making from) _ (and_left (has_done is_all_done s from) s.image_under_lock b)

module _ {me : ℕ} {old new : List Event} (conforming : IsConforming new) where
  not_made : (spot : Spot) (left : ℕ) → CallStep me old (MakeFolder spot) (Refused Exists left) new → is_in area.Incoming spot.area ≡ true → ⊥
  not_made spot left c inside = by c.own
    where
      by : TookPlace c.before me (MakeFolder spot) (Refused Exists left) new ⊎ LeftNothing c.before me (MakeFolder spot) (Refused Exists left) new → ⊥
      by (inl took) = clash (is_in area.Incoming spot.area) inside ((makers_reply new conforming).another c.before (event me (MakeFolder spot) (Refused Exists left)) [] took.grown refl)
      by (inr late) = let l = and_right (left == 0) false late.late in cc

  not_moved : (from to : Spot) (left : ℕ) → CallStep me old (MoveFolder from to) (Refused Missing left) new → is_of_incoming (MoveFolder from to) ≡ true → ⊥
  not_moved from to left c inside = by c.own
    where
      by : TookPlace c.before me (MoveFolder from to) (Refused Missing left) new ⊎ LeftNothing c.before me (MoveFolder from to) (Refused Missing left) new → ⊥
      by (inl took) =
          let e : Event = event me (MoveFolder from to) (Refused Missing left) in
          let s : Seen = seen_of me c.before in
          let x = steps c.before e (subst IsConforming took.grown conforming) refl refl in
          let makes = makes_moved s from to (and_left (is_in area.Incoming from.area) (is_in area.Images to.area) inside) (and_right (is_in area.Incoming from.area) (is_in area.Images to.area) inside) x.may in
          let lost : loses_own s (MoveFolder from to) (Refused Missing left) ≡ true = rw makes refl in
          clash (loses_own s (MoveFolder from to) (Refused Missing left)) lost ((makers_reply new conforming).own c.before e [] took.grown refl makes)
      by (inr late) = let l = and_right (left == 0) false late.late in cc

  -- the stray answers of an import
  not_stray : (request : Request) (reply : Reply) → CallStep me old request reply new → is_of_incoming request ≡ true → is_stray_reply request reply ≡ true → ⊥
  not_stray (MakeFolder spot) (Refused Exists left) c inside stray = not_made spot left c inside
  not_stray (MakeFolder spot) reply c inside stray = cc
  not_stray (MoveFolder from to) (Refused Missing left) c inside stray = not_moved from to left c inside
  not_stray (MoveFolder from to) reply c inside stray = cc
  not_stray (MakeDirIn i) (Refused Missing left) c inside stray = never_lost_change (MakeDirIn i) (Refused Missing left) c conforming refl refl
  not_stray (MakeDirIn i) (Refused Exists left) c inside stray = never_lost_change (MakeDirIn i) (Refused Exists left) c conforming refl refl
  not_stray (MakeDirIn i) reply c inside stray = cc
  not_stray (MakeFileIn i) (Refused Missing left) c inside stray = never_lost_change (MakeFileIn i) (Refused Missing left) c conforming (off_run i.spot.area inside) refl
  not_stray (MakeFileIn i) (Refused Exists left) c inside stray = never_lost_change (MakeFileIn i) (Refused Exists left) c conforming (off_run i.spot.area inside) refl
  not_stray (MakeFileIn i) reply c inside stray = cc
  not_stray (AppendIn i piece) (Refused Missing left) c inside stray = never_lost_change (AppendIn i piece) (Refused Missing left) c conforming (off_run i.spot.area inside) refl
  not_stray (AppendIn i piece) reply c inside stray = cc
  not_stray (SyncIn i) (Refused Missing left) c inside stray = never_lost_change (SyncIn i) (Refused Missing left) c conforming (off_run i.spot.area inside) refl
  not_stray (SyncIn i) reply c inside stray = cc
  not_stray request reply c inside stray = cc

none_stray : {old new : DirAt} → IsConforming new.trace → WasStrayImport old new → ⊥
none_stray {old} {new} conforming w =
    let last = conforming_left w.last.trace w.later (subst IsConforming w.ends conforming) in
    let a = w.told in
    not_stray last a.request a.reply a.step (and_left (is_of_incoming a.request) (is_stray_reply a.request a.reply) a.so) (and_right (is_of_incoming a.request) (is_stray_reply a.request a.reply) a.so)

-- a read of an image leaves what the process holds, and who lives
read_standing : (key : StoreKey) (s : Standing) (request : Request) (reply : Reply) → reads_image key request ≡ true → standing_replied s request reply ≡ s
read_standing key s (ReadIn inner at room) Done h = refl
read_standing key s (ReadIn inner at room) (Opened handle) h = refl
read_standing key s (ReadIn inner at room) reply h = refl
read_standing key s (ListIn inner) Done h = refl
read_standing key s (ListIn inner) (Opened handle) h = refl
read_standing key s (ListIn inner) reply h = refl
read_standing key s request reply h = cc

read_namespace : (key : StoreKey) (n : Namespace) (p : ℕ) (request : Request) (reply : Reply) → reads_image key request ≡ true → namespace_replied n p request reply ≡ n
read_namespace key n p (ReadIn inner at room) Done h = refl
read_namespace key n p (ReadIn inner at room) (Opened handle) h = refl
read_namespace key n p (ReadIn inner at room) reply h = refl
read_namespace key n p (ListIn inner) Done h = refl
read_namespace key n p (ListIn inner) (Opened handle) h = refl
read_namespace key n p (ListIn inner) reply h = refl
read_namespace key n p request reply h = cc

begins_not : (key : StoreKey) (request : Request) → reads_image key request ≡ true → not (is_begin request) ≡ true
begins_not key (ReadIn inner at room) h = refl
begins_not key (ListIn inner) h = refl
begins_not key request h = cc

takes_not : (key : StoreKey) (spot : Spot) (request : Request) (reply : Reply) → reads_image key request ≡ true → is_taken_from spot request reply ≡ false
takes_not key spot (ReadIn inner at room) reply h = refl
takes_not key spot (ListIn inner) reply h = refl
takes_not key spot request reply h = cc

-- and is allowed under the lock of images alone
look_at : (s : Seen) (key : StoreKey) (spot : Spot) → spot_eq spot (image_spot key) ≡ true → may_read_area s spot.area ≡ true → may_read_area s area.Images ≡ true
look_at s key spot is may = subst (λ (x : Spot). may_read_area s x.area ≡ true) (one_location spot (image_spot key) is) may

looks : (s : Seen) (key : StoreKey) (request : Request) → reads_image key request ≡ true → allows s request ≡ true → may_read_area s area.Images ≡ true
looks s key (ReadIn inner at room) h may = look_at s key inner.spot h (and_right (lock_rules_allow s.standing (ReadIn inner at room)) (may_read_area s inner.spot.area) may)
looks s key (ListIn inner) h may = look_at s key inner.spot (and_left (spot_eq inner.spot (image_spot key)) _ h) (and_right (lock_rules_allow s.standing (ListIn inner)) (may_read_area s inner.spot.area) may)
looks s key request h may = cc

module _ (me : ℕ) (key : StoreKey) where
  abbrev Reads : List Event → Type 0
  Reads es = AllByRecursion (λ e. (is_foreign me e || reads_image key e.request) ≡ true) es

  standing_after : (s : Seen) (es : List Event) → Reads es → (seen_after me s es).standing ≡ s.standing
  standing_after s [] all = refl
  standing_after s (e ∷ es) all = standing_after (seen_after_event me s e) es all.1 ∙ by (is_foreign me e) all.0
    where
      by : (b : Bool) → (b || reads_image key e.request) ≡ true → (cond b s (seen_replied s e.request e.reply)).standing ≡ s.standing
      by true x = refl
      by false x = read_standing key s.standing e.request e.reply x

  module _ (mid x rest new : List Event) (step : Event) (whole : new ≡ ((mid ++ x) ++ step ∷ []) ++ rest) (own : is_foreign me step ≡ false)
      (asked : Reads (x ++ step ∷ [])) (conforming : IsConforming new) where
    abbrev stretch : List Event
    stretch = x ++ step ∷ []

    up_to : new ≡ (mid ++ stretch) ++ rest
    up_to = whole ∙ ap (λ (h : List Event). h ++ rest) (append_assoc mid x (step ∷ []))

    now : Happens (mid ++ x) step
    now = happens (mid ++ x) step (conforming_left ((mid ++ x) ++ step ∷ []) rest (subst IsConforming whole conforming))

    reads : reads_image key step.request ≡ true
    reads = ap (λ b. b || reads_image key step.request) (sym own) ∙ one_of (λ e. (is_foreign me e || reads_image key e.request) ≡ true) x step [] asked

    begins : is_begin step.request ≡ false
    begins = by (is_begin step.request) (begins_not key step.request reads)
      where
        by : (b : Bool) → not b ≡ true → b ≡ false
        by true h = cc
        by false h = refl

    may : may_read_area (seen_of me (mid ++ x)) area.Images ≡ true
    may = looks (seen_of me (mid ++ x)) key step.request reads
        (subst (λ (p : ℕ). allows (seen_of p (mid ++ x)) step.request ≡ true) (own_is me step own).0 (now.may (own_is me step own).1))

    lives_then : lives (state_after (mid ++ stretch)).namespace me ≡ true
    lives_then =
        subst (λ (h : List Event). lives (state_after h).namespace me ≡ true) (append_assoc mid x (step ∷ []))
        (subst (λ (s : DirState). lives s.namespace me ≡ true) (sym (state_after-push (mid ++ x) step))
        (subst (λ (n : Namespace). lives n me ≡ true) (sym (read_namespace key (state_after (mid ++ x)).namespace step.process step.request step.reply reads))
        (subst (λ (p : ℕ). lives (state_after (mid ++ x)).namespace p ≡ true) (own_is me step own).0 (alive_at (mid ++ x) step now begins))))

    lives_at : (u v : List Event) → stretch ≡ u ++ v → lives (state_after (mid ++ u)).namespace me ≡ true
    lives_at u v split =
        lived_first me (state_after (mid ++ u)) v
        (all_weaker (λ e. (is_foreign me e || reads_image key e.request) ≡ true) (λ e. (is_foreign me e || not (is_begin e.request)) ≡ true)
        (λ e. or_map (is_foreign me e) (reads_image key e.request) (not (is_begin e.request)) (begins_not key e.request)) v
        (all_right _ u v (subst Reads split asked)))
        (subst (λ (s : DirState). lives s.namespace me ≡ true) (ap state_after (ap (λ (h : List Event). mid ++ h) split ∙ sym (append_assoc mid u v)) ∙ states_next-append empty_state (mid ++ u) v) lives_then)

    standing_at : (u v : List Event) → stretch ≡ u ++ v → (seen_of me (mid ++ u)).standing ≡ (seen_of me mid).standing
    standing_at u v split =
        ap (λ (s : Seen). s.standing) (seen_after-append me nothing_seen mid u) ∙ standing_after (seen_of me mid) u (all_left _ u v (subst Reads split asked))

    -- what it holds at the look it holds all along
    knows_along : (test : Standing → Bool) → test (seen_of me (mid ++ x)).standing ≡ true → KnowsAlong (λ s. test s.standing) me mid stretch
    knows_along test held u v split = (
      lives_at u v split,
      ap test (standing_at u v split ∙ sym (standing_at x (step ∷ []) refl)) ∙ held,
    )

    taken_not : (spot : Spot) → AllByRecursion (λ e. is_taken_by me spot e ≡ false) stretch
    taken_not spot =
        all_weaker (λ e. (is_foreign me e || reads_image key e.request) ≡ true) (λ e. is_taken_by me spot e ≡ false)
        (λ e. by e (e.process == me) (is_kill e.request) refl) stretch asked
      where
        kills_not : (request : Request) (reply : Reply) → is_kill request ≡ true → is_taken_from spot request reply ≡ false
        kills_not (MoveFolder from to) reply h = cc
        kills_not (RemoveFolder gone) reply h = cc
        kills_not request reply h = refl

        by : (e : Event) (own kill : Bool) → is_kill e.request ≡ kill → ((not own || kill) || reads_image key e.request) ≡ true → (own && is_taken_from spot e.request e.reply) ≡ false
        by e false kill k h = refl
        by e true true k h = kills_not e.request e.reply k
        by e true false k h = takes_not key spot e.request e.reply h

    -- so an image that stood at first stands at the look
    stays : (folder : ℕ) → folder_at (state_after mid).namespace (image_spot key) ≡ Some folder → folder_at (state_after ((mid ++ x) ++ step ∷ [])).namespace (image_spot key) ≡ Some folder
    stays folder at =
        subst (λ (h : List Event). folder_at (state_after h).namespace (image_spot key) ≡ Some folder) (sym (append_assoc mid x (step ∷ [])))
        (by (shares_area area.Images (seen_of me (mid ++ x)).standing) (excludes_area area.Images (seen_of me (mid ++ x)).standing) refl refl may stretch [] (sym (append-nil stretch))).0
      where
        by : (shares closes : Bool) → shares_area area.Images (seen_of me (mid ++ x)).standing ≡ shares → excludes_area area.Images (seen_of me (mid ++ x)).standing ≡ closes → (shares || closes) ≡ true →
            StaysAlong mid stretch (image_spot key) folder
        by true closes s c h = images_stay_shared new conforming me mid stretch rest (image_spot key) folder up_to refl (knows_along (shares_area area.Images) s) at
        by false true s c h = images_stay_closed new conforming me mid stretch rest (image_spot key) folder up_to refl (knows_along (excludes_area area.Images) c) (taken_not (image_spot key)) at
        by false false s c h = cc

taken_stands : {me : ℕ} {old new : List Event} (key : StoreKey) (request : Request) (reply : Reply) → CallStep me old request reply new → is_refused_move key request reply ≡ true →
    (folder : ℕ) × (folder_at (state_after new).namespace (image_spot key) ≡ Some folder)
taken_stands {me} {old} {new} key (MoveFolder from to) (Refused Exists left) c is = by c.own
  where
    at : to ≡ image_spot key
    at = one_location to (image_spot key) is

    by : TookPlace c.before me (MoveFolder from to) (Refused Exists left) new ⊎ LeftNothing c.before me (MoveFolder from to) (Refused Exists left) new →
        (folder : ℕ) × (folder_at (state_after new).namespace (image_spot key) ≡ Some folder)
    by (inl took) =
        let s : DirState = state_after c.before in
        let e : Event = event me (MoveFolder from to) (Refused Exists left) in
        let told = and_right (left == 0) _ (allowed_reply s me (MoveFolder from to) (Refused Exists left) took.allowed) in
        let there : stands s.namespace to ≡ true = exists_by (stands s.namespace from) (stands s.namespace to) told in
        let found = some_number (folder_at s.namespace (image_spot key)) (subst (λ (x : Spot). stands s.namespace x ≡ true) at there) in (
          found.0,
          subst (λ (h : List Event). folder_at (state_after h).namespace (image_spot key) ≡ Some found.0) (sym took.grown)
              (subst (λ (t : DirState). folder_at t.namespace (image_spot key) ≡ Some found.0) (sym (state_after-push c.before e)) found.1),
        )
    by (inr late) = let l = and_right (left == 0) false late.late in cc
taken_stands {me} {old} {new} key (MoveFolder from to) reply c is = cc
taken_stands {me} {old} {new} key request reply c is = cc

none_vanishes : {key : StoreKey} {old new : DirAt} → IsConforming new.trace → Vanishes key old new → ⊥
none_vanishes {key} {old} {new} conforming v =
    let mid = v.between.trace in
    let at = v.gone in
    let stood = taken_stands key v.taken.request v.taken.reply v.taken.step v.taken.so in
    let whole : new.trace ≡ ((mid ++ at.later) ++ at.step ∷ []) ++ at.rest = at.ends ∙ ap (λ (h : List Event). (h ++ at.step ∷ []) ++ at.rest) at.begins in
    let split : v.reads.more ≡ (at.later ++ at.step ∷ []) ++ at.rest = same_rest mid v.reads.more ((at.later ++ at.step ∷ []) ++ at.rest) (sym v.reads.grown ∙ (whole ∙ simp append_assoc)) in
    let asked = all_left _ (at.later ++ at.step ∷ []) at.rest (subst (λ (l : List Event). AllByRecursion (λ e. (is_foreign v.between.process e || reads_image key e.request) ≡ true) l) split v.reads.asked) in
    let there = stays v.between.process key mid at.later at.rest new.trace at.step whole at.own asked conforming stood.0 stood.1 in
    let gone = ap (λ (h : List Event). folder_at (state_after (h ++ at.step ∷ [])).namespace (image_spot key)) (sym at.begins) ∙ at.holds in
    let same : Some stood.0 ≡ None = sym there ∙ gone in
    cc

pub no_stray_cause : {key : StoreKey} {old new : DirAt} → IsConforming new.trace → StrayCause key old new → ⊥
no_stray_cause conforming (inl w) = none_stray conforming w
no_stray_cause conforming (inr v) = none_vanishes (conforming_left v.last.trace v.later (subst IsConforming v.ends conforming)) v.told

bundle_lawful : (refusal : BundleRefusal) → store_error.Stray ≡ bundle_refusal refusal → ⊥
bundle_lawful (bundle.NoFile path) is = cc
bundle_lawful (bundle.Manifest fault) is = cc
bundle_lawful (bundle.Id bad) is = cc
bundle_lawful (bundle.Listing error) is = cc
bundle_lawful (bundle.BadKind path) is = cc
bundle_lawful bundle.BundleFault is = cc
bundle_lawful bundle.NoMemory is = cc

-- no import is refused so
pub never_stray : {observed : Bool} {source : Source} {e : StoreError} {old new : DirAt} → IsImportRefused observed source e old new → e ≡ store_error.Stray → observed ≡ true → IsConforming new.trace → ⊥
never_stray {observed} {source} {e} (inl r) is t conforming = bundle_lawful r.0 (sym is ∙ r.1)
never_stray {observed} {source} {e} (inr x) is t conforming = no_stray_cause conforming (x.2.stray is t)

-- what is known of each error is known of the one that came
pub of_error : (P : StoreError → Type 0) (r : Result Bool StoreError) (e : StoreError) → r ≡ Err e → IfErr r P → P e
of_error P (Ok there) e is h = cc
of_error P (Err other) e is h = let same : other ≡ e = cc in subst P same h
