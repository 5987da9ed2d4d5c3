-- A mark tells its moment, so the greatest moment of the marks of a folder that has it isn't before that.
use Rattle.std.proofs.Common.{arith, ◌≡◌, inl, inr, ◌+◌, ◌-◌, ◌*◌, ◌/◌, ◌%◌, ◌<◌, ◌≤◌, ℕ, zero, suc, Bool, true, false, not, ◌&&◌, ◌||◌, ◌==◌, cond, nat_le, nat_lt, codes, bytes_eq, Option, Some, None, List, [], ◌∷◌, ◌++◌, append_assoc, append-nil, refl, sym, ap, subst, ◌∙◌}
use Rattle.std.specs.List.{list_any, cons_option}
use Rattle.std.proofs.lemmas.Bool.Decides.{nat_tests}
use Rattle.std.proofs.lemmas.List.Sums.{fold-append}
use Rattle.plain_laws.proofs.Texts.{same_bytes, same_text}
use Rattle.plain_laws.proofs.Numbers.{at_most, at_most_back}
use Rattle.plain_laws.proofs.Lists.{any_wider}
use Rattle.dir_model.specs.declared.item.Item.{Item}
use Rattle.dir_model.specs.declared.tree.TreeEntry.{TreeEntry}
use Rattle.dir_model.specs.declared.item.ItemKind.{ItemKind}
use Rattle.dir_model.specs.Paths.{is_empty, is_slash, is_file_name, are_names, is_directly_in, behind, lies_below}
use Rattle.dir_model.specs.Trees.{kind_of, is_entry, is_dir_entry, is_file_entry, is_dir, has_any, item_in, items_in}
use Rattle.dir_model.proofs.Lists.{and_left, and_right, not_true, or_left_false, or_right_false}
use Rattle.dir_rules.specs.Marks.{digits, marked_mark, number_of, mark_moment}
use Rattle.dir_rules.specs.Seen.{later}
use Rattle.pod_gc.proofs.MarkNames.{marked_is_path, marked_directly}
use Rattle.pod_gc.specs.Ages.{moment_among, is_young}
use Rattle.marks.proofs.Moments.{marked}
use Rattle.commands.proofs.LateTurns.{or_either}

-- the digits of a number stand for it

abbrev tens : ℕ → ℕ
tens zero = 1
tens (suc k) = 10 * tens k

digit_back : (n : ℕ) → (n / 10) * 10 + ((48 + n % 10) - 48) ≡ n
digit_back n = omega arith

read_back : (k n : ℕ) → n < tens k → number_of (digits k n) ≡ n
read_back zero n small = omega (arith, small)
read_back (suc k) n small =
    let less : n / 10 < tens k = omega (arith, small) in
    fold-append (λ (m : ℕ) (b : ℕ). m * 10 + (b - 48)) 0 (digits k (n / 10)) ((48 + n % 10) ∷ [])
    ∙ (ap (λ (m : ℕ). m * 10 + ((48 + n % 10) - 48)) (read_back k (n / 10) less) ∙ digit_back n)

pub mark_tells : (now : ℕ) → now ≤ 18446744073709551615 → mark_moment (codes "marked-") (marked_mark now) ≡ Some now
mark_tells now small =
    let less : now < 100000000000000000000 = omega (arith, small) in
    sym (marked (codes "marked-") (marked_mark now) now (sym (read_back 20 now less)) (sym (same_bytes (marked_mark now)))) ∙ ap (λ b. cond b (Some now) None) (at_most now 18446744073709551615 small)

-- a moment that isn't before this

abbrev pub IsSince : ℕ → Option ℕ → Type 0
IsSince now o = (m : ℕ) × (o ≡ Some m) × (now ≤ m)

not_after : (now a m : ℕ) → now ≤ m → nat_le a m ≡ false → now ≤ a
not_after now a m l above = grind (arith, nat_tests)

later_since : (now : ℕ) (a o : Option ℕ) → IsSince now o → IsSince now (later a o)
later_since now None o s = s
later_since now (Some a) o s = subst (λ (p : Option ℕ). IsSince now (later (Some a) p)) (sym s.1) (by (nat_le a s.0) refl)
  where
    by : (b : Bool) → nat_le a s.0 ≡ b → IsSince now (cond b (Some s.0) (Some a))
    by true is = (s.0, refl, s.2)
    by false is = (a, refl, not_after now a s.0 s.2 is)

itself_since : (now : ℕ) (o : Option ℕ) → IsSince now (later (Some now) o)
itself_since now None = (now, refl, omega arith)
itself_since now (Some b) = by (nat_le now b) refl
  where
    by : (x : Bool) → nat_le now b ≡ x → IsSince now (cond x (Some b) (Some now))
    by true is = (b, refl, at_most_back now b is)
    by false is = (now, refl, omega arith)

no_age : (now m : ℕ) → now ≤ m → now - m ≡ 0
no_age now m l = omega (arith, l)

pub young_since : (now time : ℕ) (o : Option ℕ) → IsSince now o → is_young now time o ≡ nat_lt 0 time
young_since now time o s = ap (is_young now time) s.1 ∙ ap (λ (d : ℕ). nat_lt d time) (no_age now s.0 s.2)

-- what has the mark shows it

lone_name : (name bs : List ℕ) → list_any is_slash bs ≡ false → are_names name bs ≡ is_file_name (name ++ bs)
lone_name name [] none = ap is_file_name (sym (append-nil name))
lone_name name (b ∷ bs) none =
    ap (λ (s : Bool). cond s (is_file_name name && are_names [] bs) (are_names (name ++ b ∷ []) bs)) (or_left_false (is_slash b) (list_any is_slash bs) none)
    ∙ (lone_name (name ++ b ∷ []) bs (or_right_false (is_slash b) (list_any is_slash bs) none) ∙ ap is_file_name (append_assoc name (b ∷ []) bs))

mark_is_name : (now : ℕ) → is_file_name (marked_mark now) ≡ true
mark_is_name now =
    let mark = marked_mark now in
    let none : list_any is_slash mark ≡ false = not_true (list_any is_slash mark) (and_right (not (is_empty mark)) (not (list_any is_slash mark)) (and_right (lies_below mark []) _ (marked_directly now))) in
    sym (lone_name [] mark none) ∙ marked_is_path now

abbrev some_item : List ℕ → ItemKind → Option Item
some_item name kind = Some (record { name = name; kind = kind })

item_of : (now : ℕ) (f : Bool) (path : List ℕ) (kind : ItemKind) → f ≡ true → path ≡ marked_mark now → cond ((f && is_directly_in [] path) && is_file_name (behind [] path)) (some_item (behind [] path) kind) None ≡ some_item (marked_mark now) kind
item_of now f path kind its is =
    ap (λ (p : List ℕ). cond ((f && is_directly_in [] p) && is_file_name p) (some_item p kind) None) is
    ∙ (ap (λ (b : Bool). cond ((b && is_directly_in [] (marked_mark now)) && is_file_name (marked_mark now)) (some_item (marked_mark now) kind) None) its
    ∙ (ap (λ (b : Bool). cond (b && is_file_name (marked_mark now)) (some_item (marked_mark now) kind) None) (marked_directly now)
    ∙ ap (λ (b : Bool). cond b (some_item (marked_mark now) kind) None) (mark_is_name now)))

pub marked_since : (now k : ℕ) → now ≤ 18446744073709551615 → (es : List TreeEntry) → list_any (is_entry k (marked_mark now)) es ≡ true → IsSince now (moment_among (codes "marked-") (items_in k [] es))
marked_since now k small [] any = cc
marked_since now k small (e ∷ es) any = by (is_entry k (marked_mark now) e) refl any (λ rest. marked_since now k small es rest)
  where
    Since : Option Item → Type 0
    Since o = IsSince now (moment_among (codes "marked-") (cons_option o (items_in k [] es)))

    first : is_entry k (marked_mark now) e ≡ true → Since (item_in k [] e)
    first is =
        let shown : item_in k [] e ≡ Some (record { name = marked_mark now; kind = kind_of e.node }) =
        item_of now (e.folder == k) e.path (kind_of e.node) (and_left (e.folder == k) (bytes_eq e.path (marked_mark now)) is) (same_text e.path (marked_mark now) (and_right (e.folder == k) (bytes_eq e.path (marked_mark now)) is)) in
        let among = moment_among (codes "marked-") (items_in k [] es) in
        subst (λ (o : Option Item). Since o) (sym shown) (subst (λ (o : Option ℕ). IsSince now (later o among)) (sym (mark_tells now small)) (itself_since now among))

    after : (o : Option Item) → IsSince now (moment_among (codes "marked-") (items_in k [] es)) → Since o
    after None s = s
    after (Some item) s = later_since now (mark_moment (codes "marked-") item.name) (moment_among (codes "marked-") (items_in k [] es)) s

    by : (b : Bool) → is_entry k (marked_mark now) e ≡ b → (b || list_any (is_entry k (marked_mark now)) es) ≡ true → (list_any (is_entry k (marked_mark now)) es ≡ true → IsSince now (moment_among (codes "marked-") (items_in k [] es))) → Since (item_in k [] e)
    by true is any go = first is
    by false is any go = after (item_in k [] e) (go any)

-- something at the path of the mark is an entry of that path

pub mark_entry : (now k : ℕ) (es : List TreeEntry) → has_any es k (marked_mark now) ≡ true → list_any (is_entry k (marked_mark now)) es ≡ true
mark_entry now k es any = elim (or_either (list_any (is_dir_entry k (marked_mark now)) es) (list_any (is_file_entry k (marked_mark now)) es) any) [
  | inl dirs ↦ any_wider (is_dir_entry k (marked_mark now)) (is_entry k (marked_mark now)) (λ e is. and_left (is_entry k (marked_mark now) e) (is_dir e.node) is) es dirs
  | inr files ↦ any_wider (is_file_entry k (marked_mark now)) (is_entry k (marked_mark now)) (λ e is. and_left (is_entry k (marked_mark now) e) (not (is_dir e.node)) is) es files
]
