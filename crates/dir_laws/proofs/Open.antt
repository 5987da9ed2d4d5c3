-- The listing that a process has open, while others step.
use Rattle.std.proofs.Common.{◌≡◌, ℕ, Bool, true, false, not, ◌||◌, ◌==◌, cond, Option, Some, List, [], ◌∷◌, ◌++◌, find, option_map, option_to_list, refl, ap, ◌∙◌, append-nil}
use Rattle.std.specs.List.{list_any, AllByRecursion}
use Rattle.dir_model.specs.declared.event.Event.{Event}
use Rattle.dir_model.specs.declared.tree.Listed.{Listed}
use Rattle.dir_model.specs.declared.tree.OpenListing.{OpenListing}
use Rattle.dir_model.specs.declared.request.Request.{Request}
use Rattle.dir_model.specs.declared.request.Request.TheVariants.{ListArea, ListIn, Finish, Kill}
use Rattle.dir_model.specs.declared.request.Reply.{Reply}
use Rattle.dir_model.specs.declared.request.Reply.TheVariants.{Done, Begun, Opened, Names, Items, Read, Refused}
use Rattle.dir_model.specs.State.{DirState}
use Rattle.dir_model.specs.Trace.{changes_names, listings_replied, state_next, states_next}
use Rattle.dir_model.specs.Listings.{is_listing_request, is_listing_of, listing_noted, noted_by, noted_all, listing_begun, without_listing, listing_of}
use Rattle.dir_model.proofs.Lists.{apart_clash}
use Rattle.dir_laws.proofs.Ends.{note, noted_along}

pub noted_found : (s : DirState) (p : ℕ) (ls : List OpenListing) → find (is_listing_of p) (noted_all s ls) ≡ option_map (noted_by s) (find (is_listing_of p) ls)
noted_found s p [] = refl
noted_found s p (l ∷ ls) = by (is_listing_of p l) (noted_found s p ls)
  where
    by : (b : Bool) → find (is_listing_of p) (noted_all s ls) ≡ option_map (noted_by s) (find (is_listing_of p) ls) → cond b (Some (noted_by s l)) (find (is_listing_of p) (noted_all s ls)) ≡ option_map (noted_by s) (cond b (Some l) (find (is_listing_of p) ls))
    by true rest = refl
    by false rest = rest

pub find_cond : (b : Bool) (t : OpenListing → Bool) (xs ys : List OpenListing) → find t (cond b xs ys) ≡ cond b (find t xs) (find t ys)
find_cond true t xs ys = refl
find_cond false t xs ys = refl

pub find_without : (p me : ℕ) (ls : List OpenListing) → (p == me) ≡ false → find (is_listing_of me) (without_listing p ls) ≡ find (is_listing_of me) ls
find_without p me [] apart = refl
find_without p me (l ∷ ls) apart = find_cond (not (l.process == p)) (is_listing_of me) (l ∷ without_listing p ls) (without_listing p ls) ∙ by (l.process == p) (l.process == me) (λ a b. apart_clash l.process p me a b apart) (find_without p me ls apart)
  where
    by : (a b : Bool) → (a ≡ true → b ≡ true → ⊥) → find (is_listing_of me) (without_listing p ls) ≡ find (is_listing_of me) ls → cond (not a) (cond b (Some l) (find (is_listing_of me) (without_listing p ls))) (find (is_listing_of me) (without_listing p ls)) ≡ cond b (Some l) (find (is_listing_of me) ls)
    by true true never rest = absurd (never refl refl)
    by true false never rest = rest
    by false b never rest = ap (λ o. cond b (Some l) o) rest

pub find_past : (me : ℕ) (ls : List OpenListing) (l : OpenListing) → is_listing_of me l ≡ false → find (is_listing_of me) (ls ++ l ∷ []) ≡ find (is_listing_of me) ls
find_past me [] l other = rw other refl
find_past me (x ∷ xs) l other = ap (λ o. cond (is_listing_of me x) (Some x) o) (find_past me xs l other)

pub find_begun : (s : DirState) (p me : ℕ) (request : Request) (ls : List OpenListing) → (p == me) ≡ false → find (is_listing_of me) (ls ++ option_to_list (listing_begun s p request)) ≡ find (is_listing_of me) ls
find_begun s p me (ListArea area) ls apart = find_past me ls _ apart
find_begun s p me (ListIn inner) ls apart = find_past me ls _ apart
find_begun s p me _ ls apart = ap (find (is_listing_of me)) (append-nil ls)

-- an event that changes what stands somewhere
abbrev pub is_change : Event → Bool
is_change e = changed e.request e.reply
  where
    changed : Request → Reply → Bool
    changed request Done = changes_names request
    changed request _ = false

-- A listing of this shape notes what stands in its place.
module _ {X : Type 0} (name_of : X → List ℕ) (now : DirState → List X) (shape : List X → List X → Listed) (notes_now : (s : DirState) (through ever : List X) → listing_noted s (shape through ever) ≡ shape (note name_of now s (through, ever)).0 (note name_of now s (through, ever)).1) where
  abbrev pub open_with : ℕ → List X × List X → Option OpenListing
  open_with q l = Some (record { process = q; listed = shape l.0 l.1 })

  noted_open : (s : DirState) (q : ℕ) (l : List X × List X) → option_map (noted_by s) (open_with q l) ≡ open_with q (note name_of now s l)
  noted_open s q l = ap (λ (d : Listed). Some (record { process = q; listed = d })) (notes_now s l.0 l.1)

  module _ (s : DirState) (p me q : ℕ) (l : List X × List X) (apart : (p == me) ≡ false) (open_now : find (is_listing_of me) s.listings ≡ open_with q l) where
    abbrev Next : Bool → List OpenListing → Type 0
    Next b ls = find (is_listing_of me) ls ≡ open_with q (cond b (note name_of now s l) l)

    same : Next false s.listings
    same = open_now

    gone : Next false (without_listing p s.listings)
    gone = find_without p me s.listings apart ∙ open_now

    changed : Next true (noted_all s s.listings)
    changed = noted_found s me s.listings ∙ (ap (option_map (noted_by s)) open_now ∙ noted_open s q l)

    by_change : (b : Bool) → Next b (cond b (noted_all s s.listings) s.listings)
    by_change true = changed
    by_change false = same

    by_end : (b : Bool) → Next false (cond b (without_listing p s.listings) s.listings)
    by_end true = gone
    by_end false = same

    pub next_open : (request : Request) (reply : Reply) → Next (is_change (record { process = p; request = request; reply = reply })) (listings_replied s p request reply)
    next_open Finish Done = gone
    next_open Kill Done = gone
    next_open request Done = by_change (changes_names request)
    next_open request Begun = find_begun s p me request s.listings apart ∙ open_now
    next_open request (Opened handle) = same
    next_open request (Names names) = by_end (is_listing_request request)
    next_open request (Items items) = by_end (is_listing_request request)
    next_open request (Read bytes) = same
    next_open request (Refused error left) = by_end (is_listing_request request)

  -- while only others step, it notes what stands before each change
  pub open_along : (s : DirState) (es : List Event) (me q : ℕ) (l : List X × List X) → AllByRecursion (λ e. (e.process == me) ≡ false) es → find (is_listing_of me) s.listings ≡ open_with q l → listing_of (states_next s es) me ≡ open_with q (noted_along name_of now s es is_change l)
  open_along s [] me q l others open_now = noted_found s me s.listings ∙ (ap (option_map (noted_by s)) open_now ∙ noted_open s q l)
  open_along s (e ∷ es) me q l others open_now = open_along (state_next s e) es me q (cond (is_change e) (note name_of now s l) l) others.1 (next_open s e.process me q l others.0 open_now e.request e.reply)

-- a process that has none open has the one that begins
pub find_own : (me : ℕ) (ls : List OpenListing) (l : OpenListing) → list_any (is_listing_of me) ls ≡ false → is_listing_of me l ≡ true → find (is_listing_of me) (ls ++ l ∷ []) ≡ Some l
find_own me [] l none own = rw own refl
find_own me (x ∷ xs) l none own = by (is_listing_of me x) (λ left. find_own me xs l left own) none
  where
    by : (b : Bool) → (list_any (is_listing_of me) xs ≡ false → find (is_listing_of me) (xs ++ l ∷ []) ≡ Some l) → (b || list_any (is_listing_of me) xs) ≡ false → cond b (Some x) (find (is_listing_of me) (xs ++ l ∷ [])) ≡ Some l
    by true rest none = cc
    by false rest none = rest none
