-- What the names and items of a listing tell of the time that it took.
use Rattle.std.proofs.Common.{◌≡◌, ◌⊎◌, inl, inr, ℕ, Bool, true, false, not, ◌==◌, cond, Option, Some, None, List, [], ◌∷◌, ◌++◌, append-nil, append_assoc, find, refl, sym, ap, subst, ◌∙◌}
use Rattle.std.specs.List.{AllByRecursion}
use Rattle.dir_model.specs.declared.area.Area.{Area}
use Rattle.dir_model.specs.declared.event.Event.{Event}
use Rattle.dir_model.specs.declared.item.Inner.{Inner}
use Rattle.dir_model.specs.declared.item.Item.{Item}
use Rattle.dir_model.specs.declared.tree.Listed.TheVariants as listed
use Rattle.dir_model.specs.declared.tree.OpenListing.{OpenListing}
use Rattle.dir_model.specs.declared.request.Request.{Request}
use Rattle.dir_model.specs.declared.request.Request.TheVariants.{ListArea, ListIn}
use Rattle.dir_model.specs.declared.request.Reply.{Reply}
use Rattle.dir_model.specs.declared.request.Reply.TheVariants.{Begun, Names, Items}
use Rattle.dir_model.specs.State.{DirState, empty_state, lives, Namespace, has_begun, folder_at}
use Rattle.dir_model.specs.Trace.{state_next, states_next, state_after, listings_replied}
use Rattle.dir_model.specs.Trees.{names_in, items_in, has_dir}
use Rattle.dir_model.specs.Listings.{is_listing_of, is_listing, begun_at, listing_of, has_name, has_named, has_item, shows_area, shows_inside}
use Rattle.dir_model.specs.Replies.{is_apps_request, is_any_reply, is_late_reply}
use Rattle.dir_model.specs.Paths.{is_well_formed}
use Rattle.dir_model.specs.Calls.{TookPlace, Listing, ListStep, IsRun, is_begin, event}
use Rattle.dir_model.proofs.Lists.{and_right, not_true, same_self}
use Rattle.dir_model.proofs.Chains.{states_next-append, state_after-push, run-left, run_from-right}
use Rattle.dir_model.proofs.Allowed.{allowed_step, allowed_reply}
use Rattle.dir_laws.specs.Stretches.{Throughout, Sometime, StandsInArea, StandsNamed, StandsInside}
use Rattle.dir_laws.proofs.Areas.{area_begins, shows_throughout, shows_only}
use Rattle.dir_laws.proofs.Directories.{item_name, inside_now, inside_begins, items_throughout, items_only}
use Rattle.dir_laws.proofs.Open.{open_along, find_own}
use Rattle.dir_laws.proofs.Living.{apart}
use Rattle.std.specs.Prelude.{Result, Ok, Err, IfOk}
use Rattle.dir_model.specs.declared.request.DirError.{DirError}
use Rattle.dir_model.specs.Replies.{names_reply, items_reply}
use Rattle.dir_trait.specs.DirCalls.{DirAt, ListCall}
use Rattle.dir_trait.proofs.Calls.{took}
use Rattle.dir_files.specs.Listed.{Stretch, ShowsArea, ShowsAreaBetween, ShowsInside, ShowsDirectory, ShowsDirectoryBetween}

-- at the first moment of a stretch
at_first : (P : DirState → Type 0) (s : DirState) (es : List Event) → Throughout P s es → P s
at_first P s [] h = h
at_first P s (e ∷ es) h = h.0

from_first : (P : DirState → Type 0) (s : DirState) (es : List Event) → P s → Sometime P s es
from_first P s [] h = h
from_first P s (e ∷ es) h = inl h

module _ (me : ℕ) (old new : List Event) (request : Request) (reply : Reply) (l : Listing me old request reply new) (listing : is_begin request ≡ false) (early : is_late_reply request Begun ≡ false) (timely : is_late_reply request reply ≡ false) where
  abbrev others : List Event
  others = l.ends.meanwhile.others

  abbrev first : DirState
  first = state_after l.between

  pub began : TookPlace l.begins.before me request Begun l.between
  began = took early l.begins.own

  pub ended : TookPlace l.ends.before me request reply new
  ended = took timely l.ends.own

  first_is : first ≡ state_next (state_after l.begins.before) (event me request Begun)
  first_is = ap state_after began.grown ∙ state_after-push l.begins.before (event me request Begun)

  pub last_is : state_after l.ends.before ≡ states_next first others
  last_is = ap state_after l.ends.meanwhile.grown ∙ states_next-append empty_state l.between others

  alive : lives (states_next first others).namespace me ≡ true
  alive = subst (λ (s : DirState). lives s.namespace me ≡ true) last_is (living (is_begin request) listing (and_right (is_well_formed request) (cond (is_begin request) (not (has_begun (state_after l.ends.before).namespace me)) (lives (state_after l.ends.before).namespace me)) (allowed_step (state_after l.ends.before) me request reply ended.allowed)))
    where
      living : (b : Bool) → b ≡ false → cond b (not (has_begun (state_after l.ends.before).namespace me)) (lives (state_after l.ends.before).namespace me) ≡ true → lives (state_after l.ends.before).namespace me ≡ true
      living true off h = cc
      living false off h = h

  pub of_others : AllByRecursion (λ e. (e.process == me) ≡ false) others
  of_others =
      let whole : IsRun (l.between ++ others) = subst IsRun l.ends.meanwhile.grown (run-left l.ends.before (event me request reply ∷ []) (subst IsRun ended.grown l.ends.run)) in
      apart me first others (run_from-right empty_state l.between others whole) l.ends.meanwhile.foreign alive

  abbrev stretch : Stretch me old new request reply
  stretch = record {
    begun = l.between;
    earlier = l.begins.meanwhile.others ++ event me request Begun ∷ [];
    others = others;
    begins = began.grown ∙ (ap (λ h. h ++ event me request Begun ∷ []) l.begins.meanwhile.grown ∙ append_assoc old l.begins.meanwhile.others (event me request Begun ∷ []));
    before = l.begins.meanwhile.others;
    opens = began.grown ∙ ap (λ h. h ++ event me request Begun ∷ []) l.begins.meanwhile.grown;
    ends = ended.grown ∙ ap (λ h. h ++ event me request reply ∷ []) l.ends.meanwhile.grown;
  }

  -- the listing that it began is open
  pub opened : is_listing (state_after l.begins.before) me ≡ false → (x : OpenListing) → find (is_listing_of me) (listings_replied (state_after l.begins.before) me request Begun) ≡ Some x → find (is_listing_of me) first.listings ≡ Some x
  opened none x is = ap (λ (s : DirState). find (is_listing_of me) s.listings) first_is ∙ is

  pub same_namespace : first.namespace ≡ (state_next (state_after l.begins.before) (event me request Begun)).namespace
  same_namespace = ap (λ (s : DirState). s.namespace) first_is

  same_entries : first.entries ≡ (state_next (state_after l.begins.before) (event me request Begun)).entries
  same_entries = ap (λ (s : DirState). s.entries) first_is

-- of an area
module _ (me : ℕ) (old new : List Event) (area : Area) (names : List (List ℕ)) (l : Listing me old (ListArea area) (Names names) new) where
  abbrev Start : DirState
  Start = state_after l.begins.before

  abbrev Then : DirState
  Then = state_after l.between

  abbrev Others : List Event
  Others = l.ends.meanwhile.others

  none_open : is_listing Start me ≡ false
  none_open = not_true (is_listing Start me) (allowed_reply Start me (ListArea area) Begun (began me old new (ListArea area) (Names names) l refl refl refl).allowed)

  abbrev Known : List (List ℕ)
  Known = names_in area Start.namespace.folders

  open_now : find (is_listing_of me) Then.listings ≡ Some (record { process = me; listed = listed.Area area Known [] })
  open_now = opened me old new (ListArea area) (Names names) l refl refl refl none_open _ (area_begins Start me area none_open)

  known_then : Known ≡ names_in area Then.namespace.folders
  known_then = ap (λ (n : Namespace). names_in area n.folders) (sym (same_namespace me old new (ListArea area) (Names names) l refl refl refl))

  shown : shows_area area names (listing_of (states_next Then Others) me) ≡ true
  shown = subst (λ (s : DirState). shows_area area names (listing_of s me) ≡ true) (last_is me old new (ListArea area) (Names names) l refl refl refl) (allowed_reply (state_after l.ends.before) me (ListArea area) (Names names) (ended me old new (ListArea area) (Names names) l refl refl refl).allowed)

  abbrev apart_now : AllByRecursion (λ e. (e.process == me) ≡ false) Others
  apart_now = of_others me old new (ListArea area) (Names names) l refl refl refl

  pub area_shown : ShowsArea me old new area names
  area_shown = record {
    stretch = stretch me old new (ListArea area) (Names names) l refl refl refl;
    all = λ name h. shows_throughout Then Others me me area (Known, []) names apart_now open_now shown name (subst (λ (ns : List (List ℕ)). has_name ns name ≡ true) (sym known_then) (at_first (StandsInArea area name) Then Others h)) h;
    only = λ name h. by name (shows_only Then Others me me area (Known, []) names apart_now open_now shown name h);
  }
    where
      by : (name : List ℕ) → (has_name (Known ++ []) name ≡ true) ⊎ Sometime (StandsInArea area name) Then Others → Sometime (StandsInArea area name) Then Others
      by name (inl k) = from_first (StandsInArea area name) Then Others (subst (λ (ns : List (List ℕ)). has_name ns name ≡ true) (append-nil Known ∙ known_then) k)
      by name (inr k) = k

pub lists_area : {me : ℕ} {old new : List Event} {area : Area} {names : List (List ℕ)} → ListStep me old (ListArea area) (Names names) new → ShowsArea me old new area names
lists_area {me} {old} {new} {area} {names} (inl l) = area_shown me old new area names l
lists_area (inr u) = let e : false ≡ true = u.late.late in cc

-- of a directory
module _ (me : ℕ) (old new : List Event) (inner : Inner) (items : List Item) (l : Listing me old (ListIn inner) (Items items) new) where
  abbrev Before : DirState
  Before = state_after l.begins.before

  abbrev Now : DirState
  Now = state_after l.between

  abbrev Meanwhile : List Event
  Meanwhile = l.ends.meanwhile.others

  none_listing : is_listing Before me ≡ false
  none_listing = not_true (is_listing Before me) (by (is_apps_request Before (ListIn inner)) (allowed_reply Before me (ListIn inner) Begun (began me old new (ListIn inner) (Items items) l refl refl refl).allowed))
    where
      by : (b : Bool) → cond b (not (is_listing Before me)) (not (is_listing Before me)) ≡ true → not (is_listing Before me) ≡ true
      by true h = h
      by false h = h

  abbrev Begins : Option ℕ → OpenListing
  Begins o = record { process = me; listed = begun_at Before inner o }

  begins_open : find (is_listing_of me) Now.listings ≡ Some (Begins (folder_at Before.namespace inner.spot))
  begins_open = opened me old new (ListIn inner) (Items items) l refl refl refl none_listing _ (find_own me Before.listings (Begins (folder_at Before.namespace inner.spot)) none_listing (same_self me))

  abbrev apart_meanwhile : AllByRecursion (λ e. (e.process == me) ≡ false) Meanwhile
  apart_meanwhile = of_others me old new (ListIn inner) (Items items) l refl refl refl

  shown_inside : is_apps_request (state_after (l.between ++ Meanwhile)) (ListIn inner) ≡ false → shows_inside inner items (listing_of (states_next Now Meanwhile) me) ≡ true
  shown_inside plain =
      let here : is_apps_request (state_after l.ends.before) (ListIn inner) ≡ false = subst (λ (h : List Event). is_apps_request (state_after h) (ListIn inner) ≡ false) (sym l.ends.meanwhile.grown) plain in
      subst (λ (s : DirState). shows_inside inner items (listing_of s me) ≡ true) (last_is me old new (ListIn inner) (Items items) l refl refl refl)
      (by (is_apps_request (state_after l.ends.before) (ListIn inner)) here (allowed_reply (state_after l.ends.before) me (ListIn inner) (Items items) (ended me old new (ListIn inner) (Items items) l refl refl refl).allowed))
    where
      by : (b : Bool) → b ≡ false → cond b (is_any_reply (state_after l.ends.before) me (ListIn inner) (Items items)) (shows_inside inner items (listing_of (state_after l.ends.before) me)) ≡ true → shows_inside inner items (listing_of (state_after l.ends.before) me) ≡ true
      by true off h = cc
      by false off h = h

  -- nothing is shown of a directory that wasn't there
  not_missing : find (is_listing_of me) Now.listings ≡ Some (record { process = me; listed = listed.Missing inner }) → shows_inside inner items (listing_of (states_next Now Meanwhile) me) ≡ true → ⊥
  not_missing open_now shown =
      let at_end = open_along item_name (inside_now 0 []) (λ through ever. listed.Missing inner) (λ s through ever. refl) Now Meanwhile me me ([], []) apart_meanwhile open_now in
      let e : false ≡ true = sym (ap (shows_inside inner items) at_end) ∙ shown in
      cc

  module _ (shown : shows_inside inner items (listing_of (states_next Now Meanwhile) me) ≡ true) (folder : ℕ) (here : folder_at Before.namespace inner.spot ≡ Some folder) (there : has_dir Before.entries folder inner.path ≡ true) where
    abbrev KnownItems : List Item
    KnownItems = items_in folder inner.path Before.entries

    inside_open : find (is_listing_of me) Now.listings ≡ Some (record { process = me; listed = listed.Inside inner folder KnownItems [] })
    inside_open = opened me old new (ListIn inner) (Items items) l refl refl refl none_listing _ (inside_begins Before me folder inner none_listing here there)

    entries_then : Now.entries ≡ Before.entries
    entries_then = same_entries me old new (ListIn inner) (Items items) l refl refl refl ∙ append-nil Before.entries

    known_items : KnownItems ≡ items_in folder inner.path Now.entries
    known_items = ap (items_in folder inner.path) (sym entries_then)

    inside_shown : ShowsInside me old new inner items (stretch me old new (ListIn inner) (Items items) l refl refl refl)
    inside_shown = record {
      folder = folder;
      here = ap (λ (n : Namespace). folder_at n inner.spot) (same_namespace me old new (ListIn inner) (Items items) l refl refl refl) ∙ here;
      there = ap (λ es. has_dir es folder inner.path) entries_then ∙ there;
      all = λ item h. items_throughout Now Meanwhile me me folder inner (KnownItems, []) items apart_meanwhile inside_open shown item (subst (λ (is : List Item). has_named is item ≡ true) (sym known_items) (at_first (StandsNamed folder inner.path item) Now Meanwhile h)) h;
      only = λ item h. by item (items_only Now Meanwhile me me folder inner (KnownItems, []) items apart_meanwhile inside_open shown item h);
    }
      where
        by : (item : Item) → (has_item (KnownItems ++ []) item ≡ true) ⊎ Sometime (StandsInside folder inner.path item) Now Meanwhile → Sometime (StandsInside folder inner.path item) Now Meanwhile
        by item (inl k) = from_first (StandsInside folder inner.path item) Now Meanwhile (subst (λ (is : List Item). has_item is item ≡ true) (append-nil KnownItems ∙ known_items) k)
        by item (inr k) = k

  shows_by : shows_inside inner items (listing_of (states_next Now Meanwhile) me) ≡ true → ShowsInside me old new inner items (stretch me old new (ListIn inner) (Items items) l refl refl refl)
  shows_by shown = by (folder_at Before.namespace inner.spot) refl begins_open
    where
      there_or_not : (folder : ℕ) → folder_at Before.namespace inner.spot ≡ Some folder → (b : Bool) → has_dir Before.entries folder inner.path ≡ b → find (is_listing_of me) Now.listings ≡ Some (record { process = me; listed = cond b (listed.Inside inner folder (items_in folder inner.path Before.entries) []) (listed.Missing inner) }) → ShowsInside me old new inner items (stretch me old new (ListIn inner) (Items items) l refl refl refl)
      there_or_not folder here true there open_now = inside_shown shown folder here there
      there_or_not folder here false there open_now = absurd (not_missing open_now shown)

      by : (o : Option ℕ) → folder_at Before.namespace inner.spot ≡ o → find (is_listing_of me) Now.listings ≡ Some (Begins o) → ShowsInside me old new inner items (stretch me old new (ListIn inner) (Items items) l refl refl refl)
      by None here open_now = absurd (not_missing open_now shown)
      by (Some folder) here open_now = there_or_not folder here (has_dir Before.entries folder inner.path) refl open_now

  pub directory_shown : ShowsDirectory me old new inner items
  directory_shown = record { stretch = stretch me old new (ListIn inner) (Items items) l refl refl refl; shows = λ plain. shows_by (shown_inside plain) }

pub lists_directory : {me : ℕ} {old new : List Event} {inner : Inner} {items : List Item} → ListStep me old (ListIn inner) (Items items) new → ShowsDirectory me old new inner items
lists_directory {me} {old} {new} {inner} {items} (inl l) = directory_shown me old new inner items l
lists_directory (inr u) = let e : false ≡ true = u.late.late in cc

-- as the calls tell it
pub tells_area : {observed : Bool} {old new : DirAt} {area : Area} (result : Result (List (List ℕ)) DirError) → ListCall observed old (ListArea area) (names_reply result) new → IfOk result (λ names. observed ≡ true → ShowsAreaBetween old new area names)
tells_area (Ok names) c = λ t. lists_area (c.step t)
tells_area (Err error) c = tt

pub tells_directory : {observed : Bool} {old new : DirAt} {inner : Inner} (result : Result (List Item) DirError) → ListCall observed old (ListIn inner) (items_reply result) new → IfOk result (λ items. observed ≡ true → ShowsDirectoryBetween old new inner items)
tells_directory (Ok items) c = λ t. lists_directory (c.step t)
tells_directory (Err error) c = tt
