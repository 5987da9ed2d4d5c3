-- Listings of the stretch: each as one that began at a moment of it.
use Rattle.std.proofs.Common.{◌≡◌, ℕ, Bool, true, false, ◌||◌, Some, is_some, List, [], ◌∷◌, ◌++◌, append_assoc, append-nil, refl, sym, ap, subst, ◌∙◌}
use Rattle.std.specs.List.{AllByRecursion}
use Rattle.dir_model.specs.declared.area.Area.TheVariants.{Images}
use Rattle.dir_model.specs.declared.event.Event.{Event}
use Rattle.dir_model.specs.declared.item.Item.{Item}
use Rattle.dir_model.specs.declared.request.Request.{Request}
use Rattle.dir_model.specs.declared.request.Request.TheVariants.{ListArea, ListIn}
use Rattle.dir_model.specs.declared.request.Reply.{Reply}
use Rattle.dir_model.specs.declared.request.Reply.TheVariants.{Begun, Names, Items}
use Rattle.dir_model.specs.declared.spot.Spot.{Spot}
use Rattle.dir_model.specs.State.{Namespace, DirState, folder_at, lives}
use Rattle.dir_model.specs.Trace.{state_after}
use Rattle.dir_model.specs.Calls.{AtOwnStep, is_kill, is_foreign, event}
use Rattle.dir_model.specs.Listings.{has_name}
use Rattle.dir_model.proofs.Chains.{state_after-push}
use Rattle.dir_model.proofs.Lists.{all_left, all_right, same_self}
use Rattle.dir_rules.specs.declared.seen.Seen.{Seen}
use Rattle.dir_rules.specs.Standing.{is_in}
use Rattle.dir_rules.specs.Conforms.{seen_of}
use Rattle.dir_trait.specs.DirCalls.{DirAt}
use Rattle.dir_files.specs.Reads.{inner_at}
use Rattle.dir_files.specs.Listed.{Stretch, ShowsArea, ShowsDirectory}
use Rattle.folder_contents.specs.Entries.{entries_in}
use Rattle.folder_contents.specs.UnderGate.{keeps_handles, shares_images, KnowsAlong}
use Rattle.gate_reading.specs.Areas.{is_image}
use Rattle.gate_reading.specs.Gate.{HasGate, GoesOnUnderLock}
use Rattle.gate_reading.specs.Listings.{ShowsEntries}
use Rattle.gate_reading.proofs.AreaNames.{areas_tell}
use Rattle.gate_reading.proofs.ImageItems.{listings_tell}
use Rattle.gate_reading.proofs.PlainPaths.{plain_own}
use Rattle.standing_images.proofs.LastSteps.{LastOwn, fits_before}
use Rattle.standing_images.proofs.AtEnd.{end, stretch, gate_to, knows_all, stays_on, up_to}

parted : (m o : List Event) (a b : Event) → ((m ++ a ∷ []) ++ o) ++ b ∷ [] ≡ m ++ (a ∷ (o ++ b ∷ []))
parted m o a b = simp append_assoc

gone_on : (m o w : List Event) (a b : Event) → (m ++ a ∷ o) ++ b ∷ w ≡ m ++ ((a ∷ (o ++ b ∷ [])) ++ w)
gone_on m o w a b = simp append_assoc

parts : (m o w : List Event) (a b : Event) → ((m ++ a ∷ o) ++ w) ++ b ∷ [] ≡ (m ++ a ∷ []) ++ ((o ++ w) ++ b ∷ [])
parts m o w a b = simp append_assoc

moved_in : (old m w : List Event) (a : Event) → old ++ ((m ++ a ∷ []) ++ w) ≡ ((old ++ m) ++ a ∷ []) ++ w
moved_in old m w a = simp append_assoc

-- a listing began at an own event, and from there to a later event the process has the gate
pub record BeganAt (request : Request) (me : ℕ) (old before : List Event) (step : Event) (P : DirState → Type 0) : Type 0 where
  pub at : AtOwnStep me old before P
  pub is : at.step ≡ event me request Begun
  pub gate : KnowsAlong shares_images me (at.before ++ at.step ∷ []) (at.rest ++ step ∷ [])

-- by where it lies
module _ (old : List Event) {first last new : List Event} (earlier later : List Event) (begins : first ≡ old ++ earlier) (ends : new ≡ last ++ later)
    (me : ℕ) (request : Request) (reply : Reply) (st : Stretch me first last request reply) where
  abbrev pub start : Event
  start = event me request Begun

  abbrev pub finish : Event
  finish = event me request reply

  -- the events before it, and its own
  abbrev pub lead : List Event
  lead = earlier ++ st.before

  abbrev pub mid : List Event
  mid = old ++ lead

  abbrev pub tail : List Event
  tail = start ∷ (st.others ++ finish ∷ [])

  pub begun_is : st.begun ≡ mid ++ start ∷ []
  begun_is =
      st.opens
      ∙ (ap (λ (h : List Event). (h ++ st.before) ++ start ∷ []) begins
      ∙ ap (λ (h : List Event). h ++ start ∷ []) (append_assoc old earlier st.before))

  pub last_is : last ≡ mid ++ tail
  last_is = st.ends ∙ (ap (λ (h : List Event). (h ++ st.others) ++ finish ∷ []) begun_is ∙ parted mid st.others start finish)

  pub inside : new ≡ mid ++ (tail ++ later)
  inside = ends ∙ (ap (λ (h : List Event). h ++ later) last_is ∙ append_assoc mid tail later)

  -- its end is an own event
  pub ends_own : new ≡ (old ++ (lead ++ start ∷ st.others)) ++ finish ∷ later
  ends_own = inside ∙ (sym (gone_on mid st.others later start finish) ∙ ap (λ (h : List Event). h ++ finish ∷ later) (append_assoc old lead (start ∷ st.others)))

  pub whole_at : new ≡ ((mid ++ []) ++ tail) ++ later
  whole_at = inside ∙ (sym (append_assoc mid tail later) ∙ ap (λ (h : List Event). (h ++ tail) ++ later) (sym (append-nil mid)))

  -- the same from just before it on
  abbrev pub from_there : Stretch me (mid ++ []) ((mid ++ []) ++ tail) request reply
  from_there = record {
    begun = st.begun;
    earlier = start ∷ [];
    others = st.others;
    begins = begun_is ∙ ap (λ (h : List Event). h ++ start ∷ []) (sym (append-nil mid));
    before = [];
    opens = begun_is ∙ ap (λ (h : List Event). h ++ start ∷ []) (sym (append-nil mid) ∙ sym (append-nil (mid ++ [])));
    ends = ap (λ (h : List Event). h ++ tail) (append-nil mid) ∙ (sym last_is ∙ st.ends);
  }

  -- its beginning changes no place
  pub same_names : (state_after (mid ++ start ∷ [])).namespace ≡ (state_after mid).namespace
  same_names = ap (λ (z : DirState). z.namespace) (state_after-push mid start)

module _ {asks : Request → Bool} {s : Seen} {old new : DirAt} (g : GoesOnUnderLock asks s old new) (l : LastOwn old.process g.extends.more)
    {first last : List Event} (earlier later : List Event) (begins : first ≡ old.trace ++ earlier) (ends : new.trace ≡ last ++ later) where
  module _ (request : Request) (reply : Reply) (alive : is_kill request ≡ false) (st : Stretch old.process first last request reply) where
    abbrev opening : Event
    opening = start old.trace earlier later begins ends old.process request reply st

    abbrev closing : Event
    closing = finish old.trace earlier later begins ends old.process request reply st

    abbrev front : List Event
    front = lead old.trace earlier later begins ends old.process request reply st

    abbrev moment : List Event
    moment = mid old.trace earlier later begins ends old.process request reply st

    abbrev listing : List Event
    listing = tail old.trace earlier later begins ends old.process request reply st

    after : (w : List Event) × (stretch g l ≡ (front ++ opening ∷ st.others) ++ closing ∷ w)
    after = up_to g l (front ++ opening ∷ st.others) later closing (ends_own old.trace earlier later begins ends old.process request reply st)
        (rw (same_self old.process) alive)

    split : stretch g l ≡ front ++ (listing ++ after.0)
    split = after.1 ∙ gone_on front st.others after.0 opening closing

    gate_there : HasGate old.process moment listing
    gate_there = record {
      shares = (knows_all g l front (listing ++ after.0) split).1;
      keeps = all_left (λ e. (is_foreign old.process e || keeps_handles e.request) ≡ true) listing after.0
          (all_right (λ e. (is_foreign old.process e || keeps_handles e.request) ≡ true) front (listing ++ after.0)
          (subst (λ (es : List Event). AllByRecursion (λ e. (is_foreign old.process e || keeps_handles e.request) ≡ true) es) split
          (gate_to g l).keeps));
    }

    -- its beginning is an own event before the last one, and from the one to the other the process has the gate
    since : (w : List Event) × (l.before ≡ (front ++ opening ∷ st.others) ++ w)
    since = fits_before l.before (front ++ opening ∷ st.others) after.0 l.step closing after.1

    abbrev between : List Event
    between = st.others ++ since.0

    knows_since : KnowsAlong shares_images old.process (moment ++ opening ∷ []) (between ++ l.step ∷ [])
    knows_since a b is =
        let all : stretch g l ≡ ((front ++ opening ∷ []) ++ a) ++ b =
        ap (λ (h : List Event). h ++ l.step ∷ []) since.1
        ∙ (parts front st.others since.0 opening l.step
        ∙ (ap (λ (h : List Event). (front ++ opening ∷ []) ++ h) is ∙ sym (append_assoc (front ++ opening ∷ []) a b))) in
        subst (λ (h : List Event). (lives (state_after h).namespace old.process ≡ true) × (shares_images (seen_of old.process h) ≡ true))
        (moved_in old.trace front a opening) (knows_all g l ((front ++ opening ∷ []) ++ a) b all)

    began_at : (P : DirState → Type 0) → P (state_after (moment ++ opening ∷ [])) → BeganAt request old.process old.trace (old.trace ++ l.before) l.step P
    began_at P holds = record {
      at = record {
        before = moment;
        step = opening;
        later = front;
        rest = between;
        begins = refl;
        ends = ap (λ (h : List Event). old.trace ++ h) since.1 ∙ simp append_assoc;
        own = rw (same_self old.process) alive;
        holds = holds;
      };
      is = refl;
      gate = knows_since;
    }

  -- a listing of an image shows what stands in it at the end
  pub items_last : (spot : Spot) (items : List Item) → is_in Images spot.area ≡ true →
      ShowsDirectory old.process first last (inner_at spot []) items →
      (folder : ℕ) × (folder_at (state_after (end g l)).namespace spot ≡ Some folder) ×
      ShowsEntries (entries_in folder (state_after (end g l)).entries) items
  items_last spot items is d =
      let request : Request = ListIn (inner_at spot []) in
      let reply : Reply = Items items in
      let i = d.shows (plain_own (d.stretch.begun ++ d.stretch.others) (inner_at spot []) refl) in
      let there : folder_at (state_after (moment request reply refl d.stretch)).namespace spot ≡ Some i.folder =
      ap (λ (n : Namespace). folder_at n spot)
      (sym (same_names old.trace earlier later begins ends old.process request reply d.stretch)
      ∙ ap (λ (h : List Event). (state_after h).namespace) (sym (begun_is old.trace earlier later begins ends old.process request reply d.stretch)))
      ∙ i.here in
      let shown = listings_tell new.trace g.conforms old.process (moment request reply refl d.stretch) [] (listing request reply refl d.stretch)
      later spot i.folder items (whole_at old.trace earlier later begins ends old.process request reply d.stretch) is
      (gate_there request reply refl d.stretch) there
      (record {
        stretch = from_there old.trace earlier later begins ends old.process request reply d.stretch;
        shows = λ own. record { folder = i.folder; here = i.here; there = i.there; all = i.all; only = i.only };
      }) in
      let stays = stays_on g l (front request reply refl d.stretch)
      (listing request reply refl d.stretch ++ (after request reply refl d.stretch).0) (split request reply refl d.stretch) spot i.folder is there in
      (i.folder, stays.0, subst (λ es. ShowsEntries es items) (sym stays.1) shown)

  -- when a listing of the area had begun, each image that stood was one of its names
  pub names_whole : (names : List (List ℕ)) (d : ShowsArea old.process first last Images names) → (P : DirState → Type 0)
      → ((z : DirState) → ((name : List ℕ) → is_image z name ≡ true → has_name names name ≡ true) → P z)
      → BeganAt (ListArea Images) old.process old.trace (old.trace ++ l.before) l.step P
  names_whole names d P holds =
      let request : Request = ListArea Images in
      let reply : Reply = Names names in
      let told = areas_tell new.trace g.conforms old.process (moment request reply refl d.stretch) [] (listing request reply refl d.stretch)
      later names (whole_at old.trace earlier later begins ends old.process request reply d.stretch) (gate_there request reply refl d.stretch)
      (record { stretch = from_there old.trace earlier later begins ends old.process request reply d.stretch; all = d.all; only = d.only }) in
      began_at request reply refl d.stretch P
      (holds (state_after (moment request reply refl d.stretch ++ opening request reply refl d.stretch ∷ []))
      (λ name there. told.all name
      (ap (λ (n : Namespace). is_some (folder_at n (record { area = Images; name = name })))
      (sym (same_names old.trace earlier later begins ends old.process request reply d.stretch)) ∙ there)))
