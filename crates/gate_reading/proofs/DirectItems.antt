-- What a listing of the folder itself shows, from the folder's entries.
use Rattle.std.proofs.Common.{◌≡◌, ℕ, Bool, true, false, not, ◌&&◌, ◌||◌, ◌==◌, cond, bytes_eq, nat_le, Some, None, List, [], ◌∷◌, map, filter, length, refl, sym, ap, ◌∙◌}
use Rattle.std.specs.List.{list_any, list_all, cons_option}
use Rattle.std.specs.Str.{is_utf8}
use Rattle.std.proofs.lemmas.Bool.{and_parts}
use Rattle.plain_laws.proofs.Texts.{same_text}
use Rattle.dir_model.specs.declared.item.Item.{Item}
use Rattle.dir_model.specs.declared.tree.TreeEntry.{TreeEntry}
use Rattle.dir_model.specs.Names.{is_file_byte}
use Rattle.dir_model.specs.Paths.{is_slash, is_file_name, lies_below, is_directly_in}
use Rattle.dir_model.specs.Trees.{items_in}
use Rattle.dir_model.specs.Listings.{is_named, has_named, is_item, has_item}
use Rattle.dir_model.proofs.Lists.{and_left, and_right, and_both, and_false, or_none, not_true}
use Rattle.dir_rules.specs.declared.seen.Entry.{Entry}
use Rattle.dir_laws.proofs.Paths.{below_root}
use Rattle.folder_contents.specs.Entries.{is_inside, entry_of, entries_in}
use Rattle.gate_reading.specs.Listings.{has_direct, shown_item_of, has_direct_item}

-- a file name is a path of one name
pub no_slash : (bs : List ℕ) → list_all is_file_byte bs ≡ true → list_any is_slash bs ≡ false
no_slash [] h = refl
no_slash (b ∷ bs) h =
    or_none (is_slash b) (list_any is_slash bs)
    (not_true (b == 47) (and_left (not (b == 47)) (not (b == 0)) (and_left (is_file_byte b) (list_all is_file_byte bs) h)))
    (no_slash bs (and_right (is_file_byte b) (list_all is_file_byte bs) h))

one_name : (path : List ℕ) → (is_directly_in [] path && is_file_name path) ≡ is_file_name path
one_name [] = and_false (is_directly_in [] [])
one_name (b ∷ bs) = by (is_file_name (b ∷ bs)) refl
  where
    by : (c : Bool) → is_file_name (b ∷ bs) ≡ c → (is_directly_in [] (b ∷ bs) && c) ≡ c
    by false e = and_false (is_directly_in [] (b ∷ bs))
    by true e =
        let rest = (and_parts (nat_le (length (b ∷ bs)) 255) (list_all is_file_byte (b ∷ bs) && is_utf8 (b ∷ bs)) e).1 in
        let plain = (and_parts (list_all is_file_byte (b ∷ bs)) (is_utf8 (b ∷ bs)) rest).0 in
        let there : is_directly_in [] (b ∷ bs) ≡ true =
        and_both (lies_below (b ∷ bs) []) (not (list_any is_slash (b ∷ bs))) (below_root b bs) (ap not (no_slash (b ∷ bs) plain)) in
        and_both (is_directly_in [] (b ∷ bs)) true there refl

-- a test of what a listing shows is one of the entries with one name
module _ (t : Item → Bool) (k : ℕ) where
  abbrev shown : Entry → Bool
  shown e = is_file_name e.path && t (shown_item_of e)

  items_tested : (es : List TreeEntry) → list_any t (items_in k [] es) ≡ list_any shown (entries_in k es)
  items_tested [] = refl
  items_tested (x ∷ es) = by (x.folder == k) (items_tested es)
    where
      item : Item
      item = shown_item_of (entry_of x)

      one : (c : Bool) → list_any t (items_in k [] es) ≡ list_any shown (entries_in k es) →
          list_any t (cons_option (cond c (Some item) None) (items_in k [] es)) ≡ ((c && t item) || list_any shown (entries_in k es))
      one true go = ap (λ b. t item || b) go
      one false go = go

      by : (a : Bool) → list_any t (items_in k [] es) ≡ list_any shown (entries_in k es) →
          list_any t (cons_option (cond ((a && is_directly_in [] x.path) && is_file_name x.path) (Some item) None) (items_in k [] es)) ≡
          list_any shown (map entry_of (cond a (x ∷ filter (is_inside k) es) (filter (is_inside k) es)))
      by true go = ap (λ c. list_any t (cons_option (cond c (Some item) None) (items_in k [] es))) (one_name x.path)
          ∙ one (is_file_name x.path) go
      by false go = go

-- where the entries that pass a test all have one path
one_path : (t : Entry → Bool) (name : List ℕ) → ((e : Entry) → t e ≡ true → e.path ≡ name) → (es : List Entry) →
    list_any (λ e. is_file_name e.path && t e) es ≡ (is_file_name name && list_any t es)
one_path t name named [] = sym (and_false (is_file_name name))
one_path t name named (e ∷ es) = by (t e) refl (one_path t name named es)
  where
    absorb : (f l : Bool) → ((f && true) || (f && l)) ≡ (f && true)
    absorb true l = refl
    absorb false l = refl

    by : (b : Bool) → t e ≡ b → list_any (λ x. is_file_name x.path && t x) es ≡ (is_file_name name && list_any t es) →
        ((is_file_name e.path && b) || list_any (λ x. is_file_name x.path && t x) es) ≡ (is_file_name name && (b || list_any t es))
    by true is go =
        ap (λ (n : List ℕ). (is_file_name n && true) || list_any (λ x. is_file_name x.path && t x) es) (named e is)
        ∙ (ap (λ c. (is_file_name name && true) || c) go ∙ absorb (is_file_name name) (list_any t es))
    by false is go = ap (λ c. c || list_any (λ x. is_file_name x.path && t x) es) (and_false (is_file_name e.path)) ∙ go

pub named_direct : (k : ℕ) (es : List TreeEntry) (item : Item) → has_named (items_in k [] es) item ≡ has_direct (entries_in k es) item.name
named_direct k es item =
    items_tested (is_named item.name) k es
    ∙ one_path (λ e. bytes_eq e.path item.name) item.name (λ e is. same_text e.path item.name is) (entries_in k es)

pub item_direct : (k : ℕ) (es : List TreeEntry) (item : Item) → has_item (items_in k [] es) item ≡ has_direct_item (entries_in k es) item
item_direct k es item =
    items_tested (is_item item) k es
    ∙ one_path (λ e. is_item item (shown_item_of e)) item.name
    (λ e is. same_text e.path item.name (and_left (bytes_eq e.path item.name) _ is)) (entries_in k es)
