-- What the items tell that end the listing of a directory.
use Rattle.std.proofs.Common.{◌≡◌, ◌⊎◌, ℕ, Bool, true, false, ◌&&◌, ◌||◌, ◌==◌, cond, bytes_eq, Some, List, [], ◌∷◌, ◌++◌, find, refl, sym, ap, ◌∙◌}
use Rattle.std.specs.List.{list_all, list_any, AllByRecursion}
use Rattle.std.proofs.lemmas.Slice.Eq.{bytes_eq-Decides}
use Rattle.dir_model.specs.declared.event.Event.{Event}
use Rattle.dir_model.specs.declared.tree.Listed.TheVariants as listed
use Rattle.dir_model.specs.declared.request.Request.TheVariants.{ListIn}
use Rattle.dir_model.specs.declared.request.Reply.TheVariants.{Begun}
use Rattle.dir_model.specs.State.{DirState, folder_at}
use Rattle.dir_model.specs.Trace.{listings_replied, states_next}
use Rattle.dir_model.proofs.Lists.{and_left, and_right, same_self, same_number}
use Rattle.dir_model.specs.declared.item.Inner.{Inner}
use Rattle.dir_model.specs.declared.item.Item.{Item}
use Rattle.dir_model.specs.Trees.{has_dir, items_in}
use Rattle.dir_model.specs.Listings.{is_listing_of, is_listing, begun_at, listing_of, ascend, has_named, has_item, is_item, is_named, item_names, kind_number, shows_items, shows_inside}
use Rattle.dir_laws.specs.Stretches.{Throughout, Sometime, StandsNamed, StandsInside}
use Rattle.dir_laws.proofs.Ends.{all_called, noted_along, end_holds, end_only}
use Rattle.dir_laws.proofs.Open.{is_change, open_along, find_own}

has_same : (xs : List Item) (x item : Item) → is_item item x ≡ true → has_item xs x ≡ has_item xs item
has_same xs x item same = ap (λ n. list_any (λ (y : Item). bytes_eq y.name n && (kind_number y.kind == kind_number x.kind)) xs) ((bytes_eq-Decides x.name item.name).0 (and_left (bytes_eq x.name item.name) (kind_number x.kind == kind_number item.kind) same)) ∙ ap (λ k. list_any (λ (y : Item). bytes_eq y.name item.name && (kind_number y.kind == k)) xs) (same_number (kind_number x.kind) (kind_number item.kind) (and_right (bytes_eq x.name item.name) (kind_number x.kind == kind_number item.kind) same))

all_items : (known items : List Item) (item : Item) → list_all (has_item known) items ≡ true → has_item items item ≡ true → has_item known item ≡ true
all_items known [] item all there = cc
all_items known (x ∷ xs) item all there = by (is_item item x) refl there (λ later. all_items known xs item (and_right (has_item known x) (list_all (has_item known) xs) all) later)
  where
    by : (b : Bool) → is_item item x ≡ b → (b || has_item xs item) ≡ true → (has_item xs item ≡ true → has_item known item ≡ true) → has_item known item ≡ true
    by true is there rest = sym (has_same known x item is) ∙ and_left (has_item known x) (list_all (has_item known) xs) all
    by false is there rest = rest there

abbrev pub item_name : Item → List ℕ
item_name item = item.name

abbrev pub inside_now : ℕ → List ℕ → DirState → List Item
inside_now folder path s = items_in folder path s.entries

-- a listing of a directory begins with the items that stand in it, and knows no other
pub inside_begins : (s : DirState) (me folder : ℕ) (inner : Inner) → is_listing s me ≡ false → folder_at s.namespace inner.spot ≡ Some folder → has_dir s.entries folder inner.path ≡ true → find (is_listing_of me) (listings_replied s me (ListIn inner) Begun) ≡ Some (record { process = me; listed = listed.Inside inner folder (items_in folder inner.path s.entries) [] })
inside_begins s me folder inner none here there = find_own me s.listings _ none (same_self me) ∙ (ap (λ o. Some (record { process = me; listed = begun_at s inner o })) here ∙ ap (λ b. Some (record { process = me; listed = cond b (listed.Inside inner folder (items_in folder inner.path s.entries) []) (listed.Missing inner) })) there)

-- what the items of an end say of a directory, where the listing began with these
module _ (s : DirState) (es : List Event) (me q folder : ℕ) (inner : Inner) (l : List Item × List Item) (items : List Item) (others : AllByRecursion (λ e. (e.process == me) ≡ false) es) (open_now : find (is_listing_of me) s.listings ≡ Some (record { process = q; listed = listed.Inside inner folder l.0 l.1 })) (shown : shows_inside inner items (listing_of (states_next s es) me) ≡ true) where
  abbrev last : List Item × List Item
  last = noted_along item_name (inside_now folder inner.path) s es is_change l

  ended : shows_items last.0 last.1 items ≡ true
  ended = and_right _ _ (sym (ap (shows_inside inner items) (open_along item_name (inside_now folder inner.path) (listed.Inside inner folder) (λ s through ever. refl) s es me q l others open_now)) ∙ shown)

  shows : (list_all (has_named items) last.0 && list_all (has_item (last.0 ++ last.1)) items) ≡ true
  shows = and_right (ascend (item_names items)) (list_all (has_named items) last.0 && list_all (has_item (last.0 ++ last.1)) items) ended

  -- where something of a name stood when the listing began and throughout, one of the name is shown
  pub items_throughout : (item : Item) → has_named l.0 item ≡ true → Throughout (StandsNamed folder inner.path item) s es → has_named items item ≡ true
  items_throughout item at_first there = all_called item_name (λ n. list_any (is_named n) items) last.0 item.name (and_left (list_all (has_named items) last.0) (list_all (has_item (last.0 ++ last.1)) items) shows) (end_holds item_name (inside_now folder inner.path) item.name s es is_change l at_first there)

  -- and each that is shown was known, with its kind, when it began, or stood at some moment since
  pub items_only : (item : Item) → has_item items item ≡ true → (has_item (l.0 ++ l.1) item ≡ true) ⊎ Sometime (StandsInside folder inner.path item) s es
  items_only item there = end_only item_name (inside_now folder inner.path) (is_item item) s es is_change l (all_items (last.0 ++ last.1) items item (and_right (list_all (has_named items) last.0) (list_all (has_item (last.0 ++ last.1)) items) shows) there)
