-- A listing of a folder itself tells whether the folder stood there when it began.
use Rattle.std.proofs.Common.{◌≡◌, inl, inr, ℕ, Bool, true, false, ◌==◌, cond, Option, Some, None, List, [], ◌∷◌, ◌++◌, append_assoc, find, refl, sym, ap, subst, ◌∙◌, codes}
use Rattle.std.specs.List.{AllByRecursion}
use Rattle.dir_model.specs.declared.event.Event.{Event}
use Rattle.dir_model.specs.declared.item.Inner.{Inner}
use Rattle.dir_model.specs.declared.item.Item.{Item}
use Rattle.dir_model.specs.declared.spot.Spot.{Spot}
use Rattle.dir_model.specs.declared.tree.Listed.TheVariants as listed
use Rattle.dir_model.specs.declared.tree.OpenListing.{OpenListing}
use Rattle.dir_model.specs.declared.request.DirError.TheVariants.{Missing}
use Rattle.dir_model.specs.declared.request.Request.TheVariants.{ListIn}
use Rattle.dir_model.specs.declared.request.Reply.{Reply}
use Rattle.dir_model.specs.declared.request.Reply.TheVariants.{Begun, Items, Refused}
use Rattle.dir_model.specs.State.{DirState, Namespace, folder_at}
use Rattle.dir_model.specs.Trace.{states_next, state_after}
use Rattle.dir_model.specs.Trees.{items_in}
use Rattle.dir_model.specs.Listings.{is_listing_of, is_listing, begun_at, listing_of, shows_inside, shows_missing}
use Rattle.dir_model.specs.Replies.{is_apps_inner, is_any_reply, is_late_reply, is_reply, is_state_reply}
use Rattle.dir_model.specs.Calls.{Listing, ListStep, AtOwnStep, event}
use Rattle.dir_model.proofs.Lists.{not_true, same_self}
use Rattle.dir_model.proofs.Allowed.{allowed_reply}
use Rattle.dir_laws.proofs.Directories.{item_name, inside_now}
use Rattle.dir_laws.proofs.Open.{open_along, find_own}
use Rattle.dir_trait.specs.DirCalls.{DirAt, ListCall, HeldBetween}
use Rattle.dir_files.specs.Reads.{inner_at}
use Rattle.dir_files.proofs.Listings.{began, ended, of_others, last_is, opened, same_namespace}
use Rattle.dir_laws.proofs.Apps.{not_apps_own}

-- a started app's root is never the folder itself
pub not_own : (spot : Spot) (h : List Event) → is_apps_inner (state_after h) (Some (inner_at spot [])) ≡ false
not_own spot h = not_apps_own (codes "stage1/") (λ app rest. refl) h (inner_at spot []) refl

module _ (me : ℕ) (old new : List Event) (spot : Spot) (reply : Reply) (l : Listing me old (ListIn (inner_at spot [])) reply new) (timely : is_late_reply (ListIn (inner_at spot [])) reply ≡ false) where
  abbrev root : Inner
  root = inner_at spot []

  abbrev Before : DirState
  Before = state_after l.begins.before

  abbrev Now : DirState
  Now = state_after l.between

  abbrev Meanwhile : List Event
  Meanwhile = l.ends.meanwhile.others

  -- the replies are the state's
  by_state : (h : List Event) (r : Reply) → is_reply (state_after h) me (ListIn root) r ≡ true → is_state_reply (state_after h) me (ListIn root) r ≡ true
  by_state h r allowed = by (is_apps_inner (state_after h) (Some root)) (not_own spot h) allowed
    where
      by : (b : Bool) → b ≡ false → cond b (is_any_reply (state_after h) me (ListIn root) r) (is_state_reply (state_after h) me (ListIn root) r) ≡ true → is_state_reply (state_after h) me (ListIn root) r ≡ true
      by true off a = cc
      by false off a = a

  none_listing : is_listing Before me ≡ false
  none_listing = not_true (is_listing Before me) (by_state l.begins.before Begun (allowed_reply Before me (ListIn root) Begun (began me old new (ListIn root) reply l refl refl timely).allowed))

  abbrev Begins : Option ℕ → OpenListing
  Begins o = record { process = me; listed = begun_at Before root o }

  begins_open : find (is_listing_of me) Now.listings ≡ Some (Begins (folder_at Before.namespace spot))
  begins_open = opened me old new (ListIn root) reply l refl refl timely none_listing _ (find_own me Before.listings (Begins (folder_at Before.namespace spot)) none_listing (same_self me))

  abbrev apart_meanwhile : AllByRecursion (λ e. (e.process == me) ≡ false) Meanwhile
  apart_meanwhile = of_others me old new (ListIn root) reply l refl refl timely

  says : is_state_reply (states_next Now Meanwhile) me (ListIn root) reply ≡ true
  says = subst (λ (s : DirState). is_state_reply s me (ListIn root) reply ≡ true) (last_is me old new (ListIn root) reply l refl refl timely) (by_state l.ends.before reply (allowed_reply (state_after l.ends.before) me (ListIn root) reply (ended me old new (ListIn root) reply l refl refl timely).allowed))

  same_folder : folder_at Now.namespace spot ≡ folder_at Before.namespace spot
  same_folder = ap (λ (n : Namespace). folder_at n spot) (same_namespace me old new (ListIn root) reply l refl refl timely)

  -- its beginning is an own step
  at_begin : (P : DirState → Type 0) → P Now → AtOwnStep me old new P
  at_begin P here =
      let b = began me old new (ListIn root) reply l refl refl timely in
      let e = ended me old new (ListIn root) reply l refl refl timely in
      record {
        before = l.begins.before;
        step = event me (ListIn root) Begun;
        later = l.begins.meanwhile.others;
        rest = Meanwhile ++ event me (ListIn root) reply ∷ [];
        begins = l.begins.meanwhile.grown;
        ends = e.grown ∙ (ap (λ h. h ++ event me (ListIn root) reply ∷ []) (l.ends.meanwhile.grown ∙ ap (λ h. h ++ Meanwhile) b.grown) ∙ append_assoc (l.begins.before ++ event me (ListIn root) Begun ∷ []) Meanwhile (event me (ListIn root) reply ∷ []));
        own = rw (same_self me) refl;
        holds = subst (λ (h : List Event). P (state_after h)) b.grown here;
      }

  missing_at_end : folder_at Before.namespace spot ≡ None → listing_of (states_next Now Meanwhile) me ≡ Some (record { process = me; listed = listed.Missing root })
  missing_at_end none = open_along item_name (inside_now 0 []) (λ through ever. listed.Missing root) (λ s through ever. refl) Now Meanwhile me me ([], []) apart_meanwhile (begins_open ∙ ap (λ o. Some (Begins o)) none)

  -- some items of it are open at the end
  inside_at_end : (folder : ℕ) → folder_at Before.namespace spot ≡ Some folder → shows_missing root (listing_of (states_next Now Meanwhile) me) ≡ false
  inside_at_end folder some = ap (shows_missing root) (open_along item_name (inside_now folder []) (λ through ever. listed.Inside root folder through ever) (λ s through ever. refl) Now Meanwhile me me (items_in folder [] Before.entries, []) apart_meanwhile (begins_open ∙ ap (λ o. Some (Begins o)) some))

-- a folder that was shown stood there
pub lists_present : {me : ℕ} {old new : List Event} {spot : Spot} {items : List Item} → ListStep me old (ListIn (inner_at spot [])) (Items items) new → AtOwnStep me old new (λ s. (folder : ℕ) × (folder_at s.namespace spot ≡ Some folder))
lists_present {me} {old} {new} {spot} {items} (inr u) = let e : false ≡ true = u.late.late in cc
lists_present {me} {old} {new} {spot} {items} (inl l) = at_begin me old new spot (Items items) l refl (λ s. (folder : ℕ) × (folder_at s.namespace spot ≡ Some folder)) (by (folder_at (state_after l.begins.before).namespace spot) refl)
  where
    by : (o : Option ℕ) → folder_at (state_after l.begins.before).namespace spot ≡ o → (folder : ℕ) × (folder_at (state_after l.between).namespace spot ≡ Some folder)
    by (Some folder) is = (folder, same_folder me old new spot (Items items) l refl ∙ is)
    by None is = let e : false ≡ true = sym (ap (shows_inside (inner_at spot []) items) (missing_at_end me old new spot (Items items) l refl is)) ∙ says me old new spot (Items items) l refl in cc

-- and where it is told that none was there, none stood there
pub lists_absent : {me : ℕ} {old new : List Event} {spot : Spot} → ListStep me old (ListIn (inner_at spot [])) (Refused Missing 0) new → AtOwnStep me old new (λ s. folder_at s.namespace spot ≡ None)
lists_absent {me} {old} {new} {spot} (inr u) = let e : false ≡ true = u.late.late in cc
lists_absent {me} {old} {new} {spot} (inl l) = at_begin me old new spot (Refused Missing 0) l refl (λ s. folder_at s.namespace spot ≡ None) (by (folder_at (state_after l.begins.before).namespace spot) refl)
  where
    by : (o : Option ℕ) → folder_at (state_after l.begins.before).namespace spot ≡ o → folder_at (state_after l.between).namespace spot ≡ None
    by None is = same_folder me old new spot (Refused Missing 0) l refl ∙ is
    by (Some folder) is = let e : false ≡ true = sym (inside_at_end me old new spot (Refused Missing 0) l refl folder is) ∙ says me old new spot (Refused Missing 0) l refl in cc

-- as the calls tell it
pub tells_present : {observed : Bool} {old new : DirAt} {spot : Spot} {items : List Item} → observed ≡ true → ListCall observed old (ListIn (inner_at spot [])) (Items items) new → HeldBetween old new (λ s. (folder : ℕ) × (folder_at s.namespace spot ≡ Some folder))
tells_present t c = lists_present (c.step t)

pub tells_absent : {observed : Bool} {old new : DirAt} {spot : Spot} → observed ≡ true → ListCall observed old (ListIn (inner_at spot [])) (Refused Missing 0) new → HeldBetween old new (λ s. folder_at s.namespace spot ≡ None)
tells_absent t c = lists_absent (c.step t)
