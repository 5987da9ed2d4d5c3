-- The end of a listing that the state gives.
use Rattle.std.proofs.Common.{◌≡◌, ℕ, Bool, true, false, ◌&&◌, ◌||◌, ◌==◌, cond, bytes_eq, Option, Some, None, List, [], ◌∷◌, ◌++◌, map, find, refl, sym, ap, ◌∙◌}
use Rattle.std.specs.List.{list_any, list_all}
use Rattle.std.proofs.lemmas.Slice.Eq.{bytes_eq-Decides}
use Rattle.plain_laws.proofs.Lists.{any_left}
use Rattle.plain_laws.proofs.Texts.{same_bytes}
use Rattle.plain_laws.proofs.Booleans.{cond_both}
use Rattle.dir_model.specs.declared.item.Item.{Item}
use Rattle.dir_model.specs.declared.item.ItemKind.{ItemKind}
use Rattle.dir_model.specs.declared.tree.Listed.{Listed}
use Rattle.dir_model.specs.declared.tree.Listed.TheVariants as listed
use Rattle.dir_model.specs.declared.tree.OpenListing.{OpenListing}
use Rattle.dir_model.specs.declared.request.DirError.{DirError}
use Rattle.dir_model.specs.declared.request.DirError.TheVariants.{Missing, Failed, NoMemory}
use Rattle.dir_model.specs.declared.request.Request.{Request}
use Rattle.dir_model.specs.declared.request.Request.TheVariants.{ListArea, ListIn}
use Rattle.dir_model.specs.declared.request.Reply.TheVariants.{Items, Refused}
use Rattle.dir_model.specs.Areas.{rank}
use Rattle.dir_model.specs.State.{DirState}
use Rattle.dir_model.specs.Listings.{is_listing_request, has_name, item_names, is_named, has_named, is_item, has_item, kind_number, listing_of, ascend, is_inner, shows_names, shows_items, shows_area, shows_inside, shows_missing, is_about, is_open_listing}
use Rattle.dir_model.specs.Replies.{is_reply, is_state_reply, is_any_reply, is_apps_request, is_fault}
use Rattle.dir_model.specs.Calls.{may_step, is_allowed, event}
use Rattle.dir_model.proofs.Lists.{and_both, and_left, and_right, or_true, same_self, any_of_map}
use Rattle.dir_state.specs.Answers.{inserted_in_order, kind_or_dir, item_named, items_in_order, shown, shown_or_refused, listing_answer}
use Rattle.dir_state.proofs.Turns.{allowed_by, end_turn}
use Rattle.dir_state.proofs.Orders.{in_order_ascends, in_order_all, in_order_has}

-- names

all_among : (names : List (List ℕ)) (ys : List (List ℕ)) (t : List ℕ → Bool) → ((name : List ℕ) → has_name ys name ≡ true → t name ≡ true) → ((name : List ℕ) → has_name names name ≡ true → has_name ys name ≡ true) → list_all t names ≡ true
all_among [] ys t passes among = refl
all_among (x ∷ xs) ys t passes among =
    and_both (t x) (list_all t xs) (passes x (among x (rw (same_bytes x) refl)))
    (all_among xs ys t passes (λ name there. among name (rw there (or_true (bytes_eq x name)))))

pub names_shown : (through ever : List (List ℕ)) → shows_names through ever (inserted_in_order [] through) ≡ true
names_shown through ever =
    and_both (ascend (inserted_in_order [] through)) (list_all (has_name (inserted_in_order [] through)) through && list_all (has_name (through ++ ever)) (inserted_in_order [] through)) (in_order_ascends [] through refl)
    (and_both (list_all (has_name (inserted_in_order [] through)) through) (list_all (has_name (through ++ ever)) (inserted_in_order [] through)) (in_order_has [] through)
    (in_order_all (has_name (through ++ ever)) [] through refl (all_among through through (has_name (through ++ ever)) (λ name there. any_left (λ n. bytes_eq n name) through ever there) (λ name there. there))))

-- items

names_of : (items : List Item) (names : List (List ℕ)) → item_names (map (item_named items) names) ≡ names
names_of items [] = refl
names_of items (x ∷ xs) = ap (λ l. x ∷ l) (names_of items xs)

has_named_is : (items : List Item) (names : List (List ℕ)) (item : Item) → has_named (map (item_named items) names) item ≡ has_name names item.name
has_named_is items names item = any_of_map (item_named items) (is_named item.name) names

all_named : (items : List Item) (names : List (List ℕ)) (xs : List Item) → list_all (has_name names) (item_names xs) ≡ true → list_all (has_named (map (item_named items) names)) xs ≡ true
all_named items names [] h = refl
all_named items names (x ∷ xs) h =
    and_both (has_named (map (item_named items) names) x) (list_all (has_named (map (item_named items) names)) xs)
    (has_named_is items names x ∙ and_left (has_name names x.name) (list_all (has_name names) (item_names xs)) h)
    (all_named items names xs (and_right (has_name names x.name) (list_all (has_name names) (item_names xs)) h))

same_kind : (kind : ItemKind) → (kind_number kind == kind_number kind) ≡ true
same_kind kind = same_self (kind_number kind)

-- the first item of a name is among them, with that name and its kind
found_item : (items : List Item) (name : List ℕ) → list_any (is_named name) items ≡ true → has_item items (item_named items name) ≡ true
found_item items name there = go items there
  where
    go : (xs : List Item) → list_any (is_named name) xs ≡ true → has_item xs (record { name = name; kind = kind_or_dir (find (is_named name) xs) }) ≡ true
    go [] there = cc
    go (x ∷ xs) there = by (is_named name x) refl (λ later. go xs later) there
      where
        by : (b : Bool) → is_named name x ≡ b → (list_any (is_named name) xs ≡ true → has_item xs (record { name = name; kind = kind_or_dir (find (is_named name) xs) }) ≡ true) → (b || list_any (is_named name) xs) ≡ true
            → (is_item (record { name = name; kind = kind_or_dir (cond b (Some x) (find (is_named name) xs)) }) x || list_any (is_item (record { name = name; kind = kind_or_dir (cond b (Some x) (find (is_named name) xs)) })) xs) ≡ true
        by true is later there = rw (is, same_kind x.kind) refl
        by false is later there = rw is (later there)

all_items : (items ever : List Item) (names : List (List ℕ)) → ((name : List ℕ) → has_name names name ≡ true → list_any (is_named name) items ≡ true) → list_all (has_item (items ++ ever)) (map (item_named items) names) ≡ true
all_items items ever [] among = refl
all_items items ever (x ∷ xs) among =
    and_both (has_item (items ++ ever) (item_named items x)) (list_all (has_item (items ++ ever)) (map (item_named items) xs))
    (any_left (is_item (item_named items x)) items ever (found_item items x (among x (rw (same_bytes x) refl))))
    (all_items items ever xs (λ name there. among name (rw there (or_true (bytes_eq x name)))))

named_any : (items : List Item) (name : List ℕ) → list_any (is_named name) items ≡ has_name (item_names items) name
named_any items name = sym (any_of_map (λ item. item.name) (λ n. bytes_eq n name) items)

all_has : (t : List ℕ → Bool) (ys : List (List ℕ)) (name : List ℕ) → list_all t ys ≡ true → has_name ys name ≡ true → t name ≡ true
all_has t [] name all there = cc
all_has t (y ∷ ys) name all there = by (bytes_eq y name) refl there (λ later. all_has t ys name (and_right (t y) (list_all t ys) all) later)
  where
    by : (b : Bool) → bytes_eq y name ≡ b → (b || has_name ys name) ≡ true → (has_name ys name ≡ true → t name ≡ true) → t name ≡ true
    by true is there rest = ap t (sym ((bytes_eq-Decides y name).0 is)) ∙ and_left (t y) (list_all t ys) all
    by false is there rest = rest there

-- what stands in order stood in the list
in_order_from : (names : List (List ℕ)) (name : List ℕ) → has_name (inserted_in_order [] names) name ≡ true → has_name names name ≡ true
in_order_from names name there =
    all_has (has_name names) (inserted_in_order [] names) name
    (in_order_all (has_name names) [] names refl (all_among names names (has_name names) (λ n h. h) (λ n h. h))) there

pub items_shown : (through ever : List Item) → shows_items through ever (items_in_order through) ≡ true
items_shown through ever =
    let names : List (List ℕ) = inserted_in_order [] (item_names through) in
    and_both (ascend (item_names (items_in_order through))) (list_all (has_named (items_in_order through)) through && list_all (has_item (through ++ ever)) (items_in_order through))
    (ap ascend (names_of through names) ∙ in_order_ascends [] (item_names through) refl)
    (and_both (list_all (has_named (items_in_order through)) through) (list_all (has_item (through ++ ever)) (items_in_order through))
    (all_named through names through (in_order_has [] (item_names through)))
    (all_items through ever names (λ name there. named_any through name ∙ in_order_from (item_names through) name there)))

-- the end

-- only a request for a listing is about one
other_request : (r : Request) (X : Type 0) → is_listing_request r ≡ false → (x : Listed) → is_about r x ≡ true → X
other_request (ListArea area) X other x about = absurd (by other)
  where
    by : true ≡ false → ⊥
    by h = cc
other_request (ListIn inner) X other x about = absurd (by other)
  where
    by : true ≡ false → ⊥
    by h = cc
other_request _ X other x about = absurd (by about)
  where
    by : false ≡ true → ⊥
    by h = cc

pub items_ascend : (items : List Item) → ascend (item_names (items_in_order items)) ≡ true
items_ascend items = ap ascend (names_of items (inserted_in_order [] (item_names items))) ∙ in_order_ascends [] (item_names items) refl

module _ (s : DirState) (p : ℕ) where
  shown_by : (request : Request) (q : ℕ) (x : Listed) → listing_of s p ≡ Some (record { process = q; listed = x }) → is_about request x ≡ true → is_reply s p request (shown x) ≡ true
  shown_by (ListArea area) q (listed.Area here through ever) is about =
      ap (shows_area area (inserted_in_order [] through)) is
      ∙ and_both (rank here == rank area) (shows_names through ever (inserted_in_order [] through)) about (names_shown through ever)
  shown_by (ListIn inner) q (listed.Missing here) is about =
      cond_both (is_apps_request s (ListIn inner)) (is_any_reply s p (ListIn inner) (Refused Missing 0)) (is_state_reply s p (ListIn inner) (Refused Missing 0))
      (ap (is_open_listing (ListIn inner)) is ∙ about) (ap (shows_missing inner) is ∙ about)
  shown_by (ListIn inner) q (listed.Inside here folder through ever) is about =
      cond_both (is_apps_request s (ListIn inner)) (is_any_reply s p (ListIn inner) (Items (items_in_order through))) (is_state_reply s p (ListIn inner) (Items (items_in_order through)))
      (and_both (ascend (item_names (items_in_order through))) (is_open_listing (ListIn inner) (listing_of s p)) (items_ascend through) (ap (is_open_listing (ListIn inner)) is ∙ about))
      (ap (shows_inside inner (items_in_order through)) is
      ∙ and_both (is_inner here inner) (shows_items through ever (items_in_order through)) about (items_shown through ever))
  shown_by request q x is about = cc

  shown_reply : (request : Request) (o : Option OpenListing) → listing_of s p ≡ o → is_open_listing request o ≡ true → is_reply s p request (shown_or_refused o) ≡ true
  shown_reply request None is about = cc
  shown_reply request (Some l) is about = shown_by request l.process l.listed is about

  -- the end of the open listing that a request asks for
  pub end_is_reply : (request : Request) → is_open_listing request (listing_of s p) ≡ true → is_reply s p request (listing_answer s p) ≡ true
  end_is_reply request about = shown_reply request (listing_of s p) refl about

  pub end_allowed : (request : Request) → may_step s p request ≡ true → is_open_listing request (listing_of s p) ≡ true → is_allowed s (event p request (listing_answer s p)) ≡ true
  end_allowed request may about = allowed_by s p request (listing_answer s p) may (end_turn s p request (listing_of s p) about) (end_is_reply request about)

  fails_by : (request : Request) (error : DirError) (o : Option OpenListing) → listing_of s p ≡ o → is_fault error ≡ true → is_open_listing request o ≡ true → is_reply s p request (Refused error 0) ≡ true
  fails_by (ListArea area) error o is fault about = and_both (is_fault error) (is_open_listing (ListArea area) (listing_of s p)) fault (ap (is_open_listing (ListArea area)) is ∙ about)
  fails_by (ListIn inner) Failed o is fault about = cond_both (is_apps_request s (ListIn inner)) (is_any_reply s p (ListIn inner) (Refused Failed 0)) (is_state_reply s p (ListIn inner) (Refused Failed 0)) (ap (is_open_listing (ListIn inner)) is ∙ about) (ap (is_open_listing (ListIn inner)) is ∙ about)
  fails_by (ListIn inner) NoMemory o is fault about = cond_both (is_apps_request s (ListIn inner)) (is_any_reply s p (ListIn inner) (Refused NoMemory 0)) (is_state_reply s p (ListIn inner) (Refused NoMemory 0)) (ap (is_open_listing (ListIn inner)) is ∙ about) (ap (is_open_listing (ListIn inner)) is ∙ about)
  fails_by (ListIn inner) _ o is fault about = cc
  fails_by request error None is fault about = cc
  fails_by request error (Some l) is fault about = other_request request (is_reply s p request (Refused error 0) ≡ true) refl l.listed about

  -- and a listing may fail at its end
  pub end_fails : (request : Request) (error : DirError) → may_step s p request ≡ true → is_fault error ≡ true → is_open_listing request (listing_of s p) ≡ true → is_allowed s (event p request (Refused error 0)) ≡ true
  end_fails request error may fault about = allowed_by s p request (Refused error 0) may (end_turn s p request (listing_of s p) about) (fails_by request error (listing_of s p) refl fault about)
