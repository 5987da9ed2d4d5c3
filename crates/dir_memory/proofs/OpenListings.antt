-- The listing that a process has open, after the events of others and its own.
use Rattle.std.proofs.Common.{◌≡◌, ℕ, Bool, true, false, not, ◌||◌, ◌==◌, cond, is_some, Option, Some, None, List, [], ◌∷◌, ◌++◌, find, option_map, option_to_list, refl, ap, ◌∙◌, append-nil}
use Rattle.std.specs.List.{list_any}
use Rattle.dir_model.specs.declared.tree.Listed.{Listed}
use Rattle.dir_model.specs.declared.tree.Listed.TheVariants as listed
use Rattle.dir_model.specs.declared.tree.OpenListing.{OpenListing}
use Rattle.dir_model.specs.declared.request.Request.{Request}
use Rattle.dir_model.specs.declared.request.Request.TheVariants.{ListArea, ListIn, Finish, Kill}
use Rattle.dir_model.specs.declared.request.Reply.{Reply}
use Rattle.dir_model.specs.declared.request.Reply.TheVariants.{Done, Begun, Opened, Names, Items, Read, Refused}
use Rattle.dir_model.specs.State.{DirState}
use Rattle.dir_model.specs.Trace.{changes_names, listings_done, listings_ended, listings_replied}
use Rattle.dir_model.specs.Listings.{is_listing_request, is_listing_of, is_listing, listing_noted, noted_by, noted_all, listing_begun, without_listing, listing_of, is_about, is_open_listing}
use Rattle.dir_model.proofs.Lists.{or_left_false, or_right_false, or_none}
use Rattle.dir_laws.proofs.Open.{noted_found, find_without, find_begun}

-- the two are open alike: both or none, and about the same
pub record Alike (a b : Option OpenListing) : Type 0 where
  pub some : is_some a ≡ is_some b
  pub about : (r : Request) → is_open_listing r a ≡ is_open_listing r b

alike_self : (a b : Option OpenListing) → a ≡ b → Alike a b
alike_self a b same = record { some = ap is_some same; about = λ r. ap (is_open_listing r) same }

area_about : (r : Request) (s : DirState) (x : Listed) → is_about r (listing_noted s x) ≡ is_about r x
area_about (ListArea area) s (listed.Area here through ever) = refl
area_about (ListArea area) s (listed.Missing inner) = refl
area_about (ListArea area) s (listed.Inside inner folder through ever) = refl
area_about (ListIn inner) s (listed.Area here through ever) = refl
area_about (ListIn inner) s (listed.Missing other) = refl
area_about (ListIn inner) s (listed.Inside other folder through ever) = refl
area_about _ s x = refl

noted_alike : (s : DirState) (o : Option OpenListing) → Alike (option_map (noted_by s) o) o
noted_alike s None = record { some = refl; about = λ r. refl }
noted_alike s (Some l) = record { some = refl; about = λ r. area_about r s l.listed }

-- what is open now is about what it was when its end is judged
pub listing_about : (s : DirState) (p : ℕ) (r : Request) → is_open_listing r (listing_of s p) ≡ is_open_listing r (find (is_listing_of p) s.listings)
listing_about s p r = ap (is_open_listing r) (noted_found s p s.listings) ∙ (noted_alike s (find (is_listing_of p) s.listings)).about r

cond_alike : (b : Bool) (xs ys : List OpenListing) (t : OpenListing → Bool) (o : Option OpenListing) → Alike (find t xs) o → Alike (find t ys) o → Alike (find t (cond b xs ys)) o
cond_alike true xs ys t o a b = a
cond_alike false xs ys t o a b = b

-- another process's event
module _ (s : DirState) (p me : ℕ) (apart : (p == me) ≡ false) where
  abbrev mine : Option OpenListing
  mine = find (is_listing_of me) s.listings

  same : Alike mine mine
  same = alike_self mine mine refl

  without : Alike (find (is_listing_of me) (without_listing p s.listings)) mine
  without = alike_self _ _ (find_without p me s.listings apart)

  after_noted : Alike (find (is_listing_of me) (noted_all s s.listings)) mine
  after_noted = record {
    some = ap is_some (noted_found s me s.listings) ∙ (noted_alike s mine).some;
    about = λ r. ap (is_open_listing r) (noted_found s me s.listings) ∙ (noted_alike s mine).about r;
  }

  done_alike : (request : Request) → Alike (find (is_listing_of me) (listings_done s p request)) mine
  done_alike Finish = without
  done_alike Kill = without
  done_alike request = cond_alike (changes_names request) (noted_all s s.listings) s.listings (is_listing_of me) mine after_noted same

  ended_alike : (request : Request) → Alike (find (is_listing_of me) (listings_ended s p request)) mine
  ended_alike request = cond_alike (is_listing_request request) (without_listing p s.listings) s.listings (is_listing_of me) mine without same

  pub others_alike : (request : Request) (reply : Reply) → Alike (find (is_listing_of me) (listings_replied s p request reply)) mine
  others_alike request Done = done_alike request
  others_alike request Begun = alike_self _ _ (find_begun s p me request s.listings apart)
  others_alike request (Opened handle) = same
  others_alike request (Names names) = ended_alike request
  others_alike request (Items items) = ended_alike request
  others_alike request (Read bytes) = same
  others_alike request (Refused error left) = ended_alike request

pub any_found : (p : ℕ) (ls : List OpenListing) → list_any (is_listing_of p) ls ≡ is_some (find (is_listing_of p) ls)
any_found p [] = refl
any_found p (l ∷ ls) = by (is_listing_of p l) (any_found p ls)
  where
    by : (b : Bool) → list_any (is_listing_of p) ls ≡ is_some (find (is_listing_of p) ls) → (b || list_any (is_listing_of p) ls) ≡ is_some (cond b (Some l) (find (is_listing_of p) ls))
    by true rest = refl
    by false rest = rest

-- where none of the process is open, none is after its own event that begins none

none_after_filter : (me p : ℕ) (ls : List OpenListing) → list_any (is_listing_of me) ls ≡ false → list_any (is_listing_of me) (without_listing p ls) ≡ false
none_after_filter me p [] none = refl
none_after_filter me p (l ∷ ls) none = by (l.process == p) (or_left_false (is_listing_of me l) (list_any (is_listing_of me) ls) none) (none_after_filter me p ls (or_right_false (is_listing_of me l) (list_any (is_listing_of me) ls) none))
  where
    by : (b : Bool) → is_listing_of me l ≡ false → list_any (is_listing_of me) (without_listing p ls) ≡ false → list_any (is_listing_of me) (cond (not b) (l ∷ without_listing p ls) (without_listing p ls)) ≡ false
    by true other rest = rest
    by false other rest = or_none (is_listing_of me l) (list_any (is_listing_of me) (without_listing p ls)) other rest

pub none_without : (me : ℕ) (ls : List OpenListing) → list_any (is_listing_of me) (without_listing me ls) ≡ false
none_without me [] = refl
none_without me (l ∷ ls) = by (l.process == me) refl (none_without me ls)
  where
    by : (b : Bool) → (l.process == me) ≡ b → list_any (is_listing_of me) (without_listing me ls) ≡ false → list_any (is_listing_of me) (cond (not b) (l ∷ without_listing me ls) (without_listing me ls)) ≡ false
    by true is rest = rest
    by false is rest = or_none (is_listing_of me l) (list_any (is_listing_of me) (without_listing me ls)) is rest

none_noted : (s : DirState) (me : ℕ) (ls : List OpenListing) → list_any (is_listing_of me) ls ≡ false → list_any (is_listing_of me) (noted_all s ls) ≡ false
none_noted s me [] none = refl
none_noted s me (l ∷ ls) none = or_none (is_listing_of me l) (list_any (is_listing_of me) (noted_all s ls)) (or_left_false (is_listing_of me l) (list_any (is_listing_of me) ls) none) (none_noted s me ls (or_right_false (is_listing_of me l) (list_any (is_listing_of me) ls) none))

none_cond : (b : Bool) (me : ℕ) (xs ys : List OpenListing) → list_any (is_listing_of me) xs ≡ false → list_any (is_listing_of me) ys ≡ false → list_any (is_listing_of me) (cond b xs ys) ≡ false
none_cond true me xs ys a b = a
none_cond false me xs ys a b = b

none_done : (s : DirState) (me : ℕ) (request : Request) → is_listing s me ≡ false → list_any (is_listing_of me) (listings_done s me request) ≡ false
none_done s me Finish none = none_without me s.listings
none_done s me Kill none = none_without me s.listings
none_done s me request none = none_cond (changes_names request) me (noted_all s s.listings) s.listings (none_noted s me s.listings none) none

none_begun : (s : DirState) (me : ℕ) (request : Request) → is_listing_request request ≡ false → is_listing s me ≡ false → list_any (is_listing_of me) (s.listings ++ option_to_list (listing_begun s me request)) ≡ false
none_begun s me (ListArea area) plain none = cc
none_begun s me (ListIn inner) plain none = cc
none_begun s me _ plain none = ap (list_any (is_listing_of me)) (append-nil s.listings) ∙ none

none_ended : (s : DirState) (me : ℕ) (request : Request) → is_listing s me ≡ false → list_any (is_listing_of me) (listings_ended s me request) ≡ false
none_ended s me request none = none_cond (is_listing_request request) me (without_listing me s.listings) s.listings (none_without me s.listings) none

pub own_none : (s : DirState) (me : ℕ) (request : Request) (reply : Reply) → is_listing_request request ≡ false → is_listing s me ≡ false → list_any (is_listing_of me) (listings_replied s me request reply) ≡ false
own_none s me request Done plain none = none_done s me request none
own_none s me request Begun plain none = none_begun s me request plain none
own_none s me request (Opened handle) plain none = none
own_none s me request (Names names) plain none = none_ended s me request none
own_none s me request (Items items) plain none = none_ended s me request none
own_none s me request (Read bytes) plain none = none
own_none s me request (Refused error left) plain none = none_ended s me request none
