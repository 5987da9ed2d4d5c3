-- A word is read as a reference exactly where it is one by its form.
use Rattle.std.proofs.Common.{◌≡◌, ◌≢◌, ◌↔◌, ℕ, ◌<◌, ◌≤◌, ◌+◌, ◌==◌, Bool, true, false, nat_le, List, [], ◌∷◌, ◌++◌, Option, Some, None, Result, Ok, Err, drop, take, length, map, codes, refl, sym, ◌∙◌, ap, subst, arith, suc, append-nil, ◌&&◌, ◌||◌}
use Rattle.std.specs.Prelude.{if◌then◌else◌}
use Rattle.std.specs.List.{All, list_all, slice_split, join_with_byte}
use Rattle.std.specs.Str.{bytes_eq}
use Rattle.std.proofs.lemmas.Bool.Decides.{nat_tests}
use Rattle.std.proofs.lemmas.Slice.Eq.{bytes_eq-Decides}
use Rattle.std.proofs.lemmas.List.{length-append, map-append, get_or-append-add, take-append-drop}
use Rattle.std.proofs.lemmas.List.Elements.{All-append}
use Rattle.std.proofs.lemmas.List.Splits.{join_with_byte-slice_split}
use Rattle.std.proofs.Math.ListN.{replicate}
use mathlib.Core.List.{append_assoc}
use Rattle.ac_types.specs.Names.{IsAcIdentifier}
use Rattle.ac_types.specs.References.{reference, named, by_id, after_head, with_name, head_part, labels_from, and_more, label_part, unless_named, label_of, cut, is_identifier, is_filled, version_labels, is_lower_digit}
use Rattle.ac_types.specs.ReferenceForm.{Lacks, IsReference, IsNamed, IsDigits, AreNewLabels, IsValue, IsVersion, head_text, label_text, BeginsById}
use Rattle.ac_types.specs.SeenTexts.{is_among}
use Rattle.ac_types.specs.declared.label.Label.{Label}
use Rattle.ac_types.specs.declared.image_ref.ImageRef.{ImageRef}
use Rattle.ac_types.specs.declared.image_ref.ImageRef.TheVariants.{Named, ById}
use Rattle.ac_types.proofs.LabelNames.{names}
use Rattle.ac_types.proofs.Cuts.{cut_none, cut_at, cut_is, parts_lack, split_joined}
use Rattle.ac_types.proofs.IdentifierBytes.{and_both, all_more, all_none, no_comma, no_colon, no_equals, is_by_test, test_by_is}

-- bytes that aren't none
some_by_test : (t : List ℕ) → is_filled t ≡ true → t ≢ []
some_by_test [] h e = cc
some_by_test (b ∷ bs) h e = cc

test_by_some : (t : List ℕ) → t ≢ [] → is_filled t ≡ true
test_by_some [] some = absurd (some refl)
test_by_some (b ∷ bs) some = refl

rest_lacks : (c : ℕ) (a b : List ℕ) → Lacks c (a ++ b) → Lacks c b
rest_lacks c a b all k d h =
    let far : length a + k < length (a ++ b) = omega (arith, length-append a b) in
    let same = get_or-append-add a b k d in
    let P : ℕ → Type 0 = λ x. (x == c) ≡ false in
    subst P same (all (length a + k) d far)

both_lack : (c x : ℕ) (a b : List ℕ) → (x == c) ≡ false → Lacks c a → Lacks c b → Lacks c (a ++ x ∷ b)
both_lack c x a b other one two =
    All-append (λ y. (y == c) ≡ false) a (x ∷ b) one (all_more (λ y. (y == c) ≡ false) x b other two)

-- a label's part that is read, and a label that is written
abbrev pub IsNewLabel : List (List ℕ) → Label → Type 0
IsNewLabel before l = IsAcIdentifier l.name × IsValue l.value × (l.name ≢ codes "name") × (is_among l.name before ≡ false)

label_cut : (part : List ℕ) (o : Option (List ℕ × List ℕ)) (l : Label) → cut 61 part ≡ o → Lacks 44 part → label_of o ≡ Some l
    → IsAcIdentifier l.name × IsValue l.value × (part ≡ label_text l)
label_cut part None l is lacks h = cc
label_cut part (Some (name, value)) l is lacks h = by_test (is_identifier name && is_filled value) refl h
  where
    by_test : (t : Bool) → (is_identifier name && is_filled value) ≡ t
        → (if◌then◌else◌ {A = Option Label} t (Some (record { name = name; value = value })) None) ≡ Some l
        → IsAcIdentifier l.name × IsValue l.value × (part ≡ label_text l)
    by_test true e k =
        let P : Label → Type 0 = λ m. IsAcIdentifier m.name × IsValue m.value × (part ≡ label_text m) in
        let same : ◌≡◌ {A = Label} (record { name = name; value = value }) l = cc in
        let both = and_both (is_identifier name) (is_filled value) e in
        let text : part ≡ name ++ 61 ∷ value = cut_is 61 part name value is in
        let Q : List ℕ → Type 0 = λ t. Lacks 44 t in
        let value_lacks : Lacks 44 value = rest_lacks 44 (61 ∷ []) value (rest_lacks 44 name (61 ∷ value) (subst Q text lacks)) in
        subst P same (is_by_test name both.0, (some_by_test value both.1, value_lacks), text)
    by_test false e k = cc

pub label_named : (before : List (List ℕ)) (o : Option Label) (l : Label) → unless_named before o ≡ Some l
    → (o ≡ Some l) × (l.name ≢ codes "name") × (is_among l.name before ≡ false)
label_named before None l h = cc
label_named before (Some m) l h = by_test (bytes_eq m.name (codes "name")) refl (is_among m.name before) refl h
  where
    by_test : (x : Bool) → bytes_eq m.name (codes "name") ≡ x → (y : Bool) → is_among m.name before ≡ y
        → (if◌then◌else◌ {A = Option Label} (x || y) None (Some m)) ≡ Some l
        → (◌≡◌ {A = Option Label} (Some m) (Some l)) × (l.name ≢ codes "name") × (is_among l.name before ≡ false)
    by_test true e y f k = cc
    by_test false e true f k = cc
    by_test false e false f k =
        let P : Label → Type 0 = λ n. (◌≡◌ {A = Option Label} (Some m) (Some n)) × (n.name ≢ codes "name") × (is_among n.name before ≡ false) in
        let same : m ≡ l = cc in
        let other : m.name ≢ codes "name" =
        λ is. let clash : bytes_eq m.name (codes "name") ≡ true = (bytes_eq-Decides m.name (codes "name")).1 is in cc in
        subst P same (refl, other, f)

label_read : (before : List Label) (part : List ℕ) (l : Label) → Lacks 44 part → label_part before part ≡ Some l
    → IsNewLabel (names before) l × (part ≡ label_text l)
label_read before part l lacks h =
    let one = label_named (names before) (label_of (cut 61 part)) l h in
    let two = label_cut part (cut 61 part) l refl lacks one.0 in
    ((two.0, two.1, one.1, one.2), two.2)

label_made : (before : List Label) (l : Label) → IsNewLabel (names before) l → label_part before (label_text l) ≡ Some l
label_made before l (is, value, other, first) =
    let parts : cut 61 (label_text l) ≡ Some (l.name, l.value) = cut_at 61 l.name l.value (no_equals l.name is) in
    let name : is_identifier l.name ≡ true = test_by_is l.name is in
    let filled : is_filled l.value ≡ true = test_by_some l.value value.0 in
    let free : bytes_eq l.name (codes "name") ≡ false = by_test (bytes_eq l.name (codes "name")) refl in
    rw (parts, name, filled, free, first) refl
  where
    by_test : (t : Bool) → bytes_eq l.name (codes "name") ≡ t → t ≡ false
    by_test true e = absurd (other ((bytes_eq-Decides l.name (codes "name")).0 e))
    by_test false e = refl

-- the labels of all parts
more_read : (next : Label → Result (List Label) ℕ) (place : ℕ) (o : Option Label) (ls : List Label) → and_more next place o ≡ Ok ls
    → (l : Label) × (o ≡ Some l) × (next l ≡ Ok ls)
more_read next place None ls h = cc
more_read next place (Some l) ls h = (l, refl, h)

names_more : (before : List Label) (l : Label) → names (before ++ l ∷ []) ≡ names before ++ l.name ∷ []
names_more before l = map-append (λ (m : Label). m.name) before (l ∷ [])

labels_read : (place : ℕ) (before : List Label) (parts : List (List ℕ)) (ls : List Label) → All (Lacks 44) parts
    → labels_from place before parts ≡ Ok ls
    → (more : List Label) × AreNewLabels (names before) more × (ls ≡ before ++ more) × (parts ≡ map label_text more)
labels_read place before [] ls lack h =
    let same : before ≡ ls = cc in ([], tt, sym same ∙ sym (append-nil before), refl)
labels_read place before (part ∷ parts) ls lack h =
    let next : Label → Result (List Label) ℕ = λ l. labels_from (place + (length part + 1)) (before ++ l ∷ []) parts in
    let one = more_read next place (label_part before part) ls h in
    let here = label_read before part one.0 (lack 0 [] (omega arith)) one.1 in
    let rest = labels_read (place + (length part + 1)) (before ++ one.0 ∷ []) parts ls (λ k d lt. lack (suc k) d (omega arith)) one.2 in
    let P : List (List ℕ) → Type 0 = λ ns. AreNewLabels ns rest.0 in (
      one.0 ∷ rest.0,
      (here.0.0, here.0.1, here.0.2, here.0.3, subst P (names_more before one.0) rest.1),
      rest.2 ∙ append_assoc before (one.0 ∷ []) rest.0,
      ap (λ (p : List ℕ). p ∷ parts) here.1 ∙ ap (λ (ps : List (List ℕ)). label_text one.0 ∷ ps) rest.3,
    )

labels_made : (place : ℕ) (before more : List Label) → AreNewLabels (names before) more
    → labels_from place before (map label_text more) ≡ Ok (before ++ more)
labels_made place before [] new = ap Ok (sym (append-nil before))
labels_made place before (l ∷ ls) (is, value, other, first, rest) =
    let here : label_part before (label_text l) ≡ Some l = label_made before l (is, value, other, first) in
    let P : List (List ℕ) → Type 0 = λ ns. AreNewLabels ns ls in
    let ih = labels_made (place + (length (label_text l) + 1)) (before ++ l ∷ []) ls (subst P (sym (names_more before l)) rest) in
    rw here (ih ∙ ap Ok (append_assoc before (l ∷ []) ls))

labels_lack : (before : List (List ℕ)) (more : List Label) → AreNewLabels before more → All (Lacks 44) (map label_text more)
labels_lack before [] new = all_none (Lacks 44)
labels_lack before (l ∷ ls) (is, value, other, first, rest) =
    all_more (Lacks 44) (label_text l) (map label_text ls)
    (both_lack 44 61 l.name l.value refl (no_comma l.name is) value.1) (labels_lack (before ++ l.name ∷ []) ls rest)

-- the first part
abbrev pub IsHead : List ℕ → List ℕ → List Label → Type 0
IsHead part name ls =
    (version : Option (List ℕ)) × IsAcIdentifier name × IsVersion version × (ls ≡ version_labels version) × (part ≡ head_text name version)

name_alone : (part name : List ℕ) (ls : List Label) (t : Bool) → is_identifier part ≡ t
    → (if◌then◌else◌ {A = Result (List ℕ × List Label) ℕ} t (Ok (part, [])) (Err 0)) ≡ Ok (name, ls) → IsHead part name ls
name_alone part name ls true e h =
    let both : ◌≡◌ {A = List ℕ × List Label} (part, []) (name, ls) = cc in
    let same : part ≡ name = ap (λ (p : List ℕ × List Label). p.0) both in
    let P : List ℕ → Type 0 = λ n. IsAcIdentifier n in
    (None, subst P same (is_by_test part e), tt, sym (ap (λ (p : List ℕ × List Label). p.1) both), same)
name_alone part name ls false e h = cc

name_and_version : (part name version read : List ℕ) (ls : List Label) → part ≡ name ++ 58 ∷ version → Lacks 44 part
    → (x : Bool) → is_identifier name ≡ x → (y : Bool) → is_filled version ≡ y
    → (if◌then◌else◌ {A = Result (List ℕ × List Label) ℕ} x
    (if y then Ok (name, record { name = codes "version"; value = version } ∷ []) else Err (length name + 1)) (Err 0)) ≡ Ok (read, ls)
    → IsHead part read ls
name_and_version part name version read ls text lacks true e true f h =
    let both : ◌≡◌ {A = List ℕ × List Label} (name, record { name = codes "version"; value = version } ∷ []) (read, ls) = cc in
    let same : name ≡ read = ap (λ (p : List ℕ × List Label). p.0) both in
    let P : List ℕ → Type 0 = λ n. IsAcIdentifier n in
    let Q : List ℕ → Type 0 = λ t. Lacks 44 t in
    let value_lacks : Lacks 44 version = rest_lacks 44 (58 ∷ []) version (rest_lacks 44 name (58 ∷ version) (subst Q text lacks)) in (
      Some version,
      subst P same (is_by_test name e),
      (some_by_test version f, value_lacks),
      sym (ap (λ (p : List ℕ × List Label). p.1) both),
      text ∙ ap (λ (n : List ℕ). n ++ 58 ∷ version) same,
    )
name_and_version part name version read ls text lacks true e false f h = cc
name_and_version part name version read ls text lacks false e y f h = cc

head_read : (part name : List ℕ) (ls : List Label) (o : Option (List ℕ × List ℕ)) → cut 58 part ≡ o → Lacks 44 part
    → head_part part o ≡ Ok (name, ls) → IsHead part name ls
head_read part name ls None is lacks h = name_alone part name ls (is_identifier part) refl h
head_read part name ls (Some (n, version)) is lacks h =
    name_and_version part n version name ls (cut_is 58 part n version is) lacks (is_identifier n) refl (is_filled version) refl h

head_made : (name : List ℕ) (version : Option (List ℕ)) → IsAcIdentifier name → IsVersion version
    → head_part (head_text name version) (cut 58 (head_text name version)) ≡ Ok (name, version_labels version)
head_made name None is value =
    let whole : cut 58 name ≡ None = cut_none 58 name (no_colon name is) in
    let good : is_identifier name ≡ true = test_by_is name is in
    rw (whole, good) refl
head_made name (Some version) is value =
    let parts : cut 58 (name ++ 58 ∷ version) ≡ Some (name, version) = cut_at 58 name version (no_colon name is) in
    let good : is_identifier name ≡ true = test_by_is name is in
    let filled : is_filled version ≡ true = test_by_some version value.0 in
    rw (parts, good, filled) refl

head_lacks : (name : List ℕ) (version : Option (List ℕ)) → IsAcIdentifier name → IsVersion version → Lacks 44 (head_text name version)
head_lacks name None is value = no_comma name is
head_lacks name (Some version) is value = both_lack 44 58 name version refl (no_comma name is) value.1

-- the whole of a reference by name
labels_named : (name : List ℕ) (r : Result (List Label) ℕ) (ref : ImageRef) → with_name name r ≡ Ok ref
    → (ls : List Label) × (r ≡ Ok ls) × (ref ≡ Named name ls)
labels_named name (Ok ls) ref h = (ls, refl, cc)
labels_named name (Err place) ref h = cc

after_read : (part : List ℕ) (parts : List (List ℕ)) (r : Result (List ℕ × List Label) ℕ) (ref : ImageRef)
    → after_head part parts r ≡ Ok ref
    → (name : List ℕ) × (first : List Label) × (ls : List Label) × (r ≡ Ok (name, first))
    × (labels_from (length part + 1) first parts ≡ Ok ls) × (ref ≡ Named name ls)
after_read part parts (Ok (name, first)) ref h =
    let one = labels_named name (labels_from (length part + 1) first parts) ref h in
    (name, first, one.0, refl, one.1, one.2)
after_read part parts (Err place) ref h = cc

parts_read : (word : List ℕ) (parts : List (List ℕ)) (ref : ImageRef) → All (Lacks 44) parts → word ≡ join_with_byte 44 parts
    → named parts ≡ Ok ref → (name : List ℕ) × (ls : List Label) × (ref ≡ Named name ls) × IsNamed word name ls
parts_read word [] ref lack text h = cc
parts_read word (part ∷ parts) ref lack text h =
    let one = after_read part parts (head_part part (cut 58 part)) ref h in
    let head = head_read part one.0 one.1 (cut 58 part) refl (lack 0 [] (omega arith)) one.3 in
    let rest = labels_read (length part + 1) one.1 parts one.2 (λ k d lt. lack (suc k) d (omega arith)) one.4 in
    let P : List Label → Type 0 = λ first. AreNewLabels (names first) rest.0 in (
      one.0,
      one.2,
      one.5,
      (
        head.0,
        rest.0,
        head.1,
        head.2,
        subst P head.3 rest.1,
        rest.2 ∙ ap (λ (first : List Label). first ++ rest.0) head.3,
        text ∙ ap (λ (p : List ℕ). join_with_byte 44 (p ∷ parts)) head.4
            ∙ ap (λ (ps : List (List ℕ)). join_with_byte 44 (head_text one.0 head.0 ∷ ps)) rest.3,
      ),
    )

named_made : (word name : List ℕ) (ls : List Label) → IsNamed word name ls
    → named (slice_split (λ b. b == 44) word) ≡ Ok (Named name ls)
named_made word name ls (version, more, is, value, new, all, text) =
    let lack = all_more (Lacks 44) (head_text name version) (map label_text more) (head_lacks name version is value)
    (labels_lack (names (version_labels version)) more new) in
    let parts : slice_split (λ b. b == 44) word ≡ head_text name version ∷ map label_text more =
    ap (slice_split (λ b. b == 44)) text ∙ split_joined 44 (head_text name version) (map label_text more) lack in
    let head = head_made name version is value in
    let rest = labels_made (length (head_text name version) + 1) (version_labels version) more new in
    rw (parts, head, rest) (ap (λ (l : List Label). Ok (Named name l)) (sym all))

-- a reference by ID
digits_read : (text : List ℕ) (ref : ImageRef) → by_id text ≡ Ok ref
    → (digits : List ℕ) × (len : ℕ) × (ref ≡ ById digits len) × IsDigits text digits len
digits_read text ref h =
    by_test (nat_le 2 (length text) && nat_le (length text) 128 && list_all is_lower_digit text) refl h
  where
    by_test : (t : Bool) → (nat_le 2 (length text) && nat_le (length text) 128 && list_all is_lower_digit text) ≡ t
        → (if◌then◌else◌ {A = Result ImageRef ℕ} t (Ok (ById (text ++ drop (length text) (replicate 128 0)) (length text))) (Err 0)) ≡ Ok ref
        → (digits : List ℕ) × (len : ℕ) × (ref ≡ ById digits len) × IsDigits text digits len
    by_test true e k =
        let one = and_both (nat_le 2 (length text) && nat_le (length text) 128) (list_all is_lower_digit text) e in
        let two = and_both (nat_le 2 (length text)) (nat_le (length text) 128) one.0 in
        let low : 2 ≤ length text = grind (arith, nat_tests, two.0) in
        let high : length text ≤ 128 = grind (arith, nat_tests, two.1) in (
          text ++ drop (length text) (replicate 128 0),
          length text,
          cc,
          (low, high, one.1, refl, refl),
        )
    by_test false e k = cc

digits_made : (text digits : List ℕ) (len : ℕ) → IsDigits text digits len → by_id text ≡ Ok (ById digits len)
digits_made text digits len (low, high, hex, room, size) =
    let one : nat_le 2 (length text) ≡ true = grind (arith, nat_tests) in
    let two : nat_le (length text) 128 ≡ true = grind (arith, nat_tests) in
    rw (one, two, hex, room, size) refl

-- what is read is the word's reference, and the word's reference is read
pub reference_read : (word : List ℕ) (ref : ImageRef) → reference word ≡ Ok ref → IsReference word ref
unfolding reference
reference_read word ref h = by_test (bytes_eq (take 7 word) (codes "sha512-")) refl h
  where
    by_test : (t : Bool) → bytes_eq (take 7 word) (codes "sha512-") ≡ t
        → (if◌then◌else◌ {A = Result ImageRef ℕ} t (by_id (drop 7 word)) (named (slice_split (λ b. b == 44) word))) ≡ Ok ref
        → IsReference word ref
    by_test true e k =
        let one = digits_read (drop 7 word) ref k in
        let begins : take 7 word ≡ codes "sha512-" = (bytes_eq-Decides (take 7 word) (codes "sha512-")).0 e in
        let text : word ≡ codes "sha512-" ++ drop 7 word =
        sym (take-append-drop 7 word) ∙ ap (λ (f : List ℕ). f ++ drop 7 word) begins in
        let P : ImageRef → Type 0 = λ r. IsReference word r in
        subst P (sym one.2) (drop 7 word, text, one.3)
    by_test false e k =
        let one = parts_read word (slice_split (λ b. b == 44) word) ref (parts_lack 44 word) (sym (join_with_byte-slice_split 44 word)) k in
        let P : ImageRef → Type 0 = λ r. IsReference word r in
        let other : ¬ BeginsById word =
        λ is. let clash : bytes_eq (take 7 word) (codes "sha512-") ≡ true = (bytes_eq-Decides (take 7 word) (codes "sha512-")).1 is in cc in
        subst P (sym one.2) (other, one.3)

pub reference_made : (word : List ℕ) (ref : ImageRef) → IsReference word ref → reference word ≡ Ok ref
unfolding reference
reference_made word (Named name ls) (other, is) =
    let no : bytes_eq (take 7 word) (codes "sha512-") ≡ false = by_test (bytes_eq (take 7 word) (codes "sha512-")) refl in
    rw no (named_made word name ls is)
  where
    by_test : (t : Bool) → bytes_eq (take 7 word) (codes "sha512-") ≡ t → t ≡ false
    by_test true e = absurd (other ((bytes_eq-Decides (take 7 word) (codes "sha512-")).0 e))
    by_test false e = refl
reference_made word (ById digits len) (text, is, all) =
    let made = digits_made text digits len all in
    let whole : (if◌then◌else◌ {A = Result ImageRef ℕ} (bytes_eq (take 7 (codes "sha512-" ++ text)) (codes "sha512-"))
    (by_id (drop 7 (codes "sha512-" ++ text))) (named (slice_split (λ b. b == 44) (codes "sha512-" ++ text)))) ≡ Ok (ById digits len) = made in
    let P : List ℕ → Type 0 = λ w. (if◌then◌else◌ {A = Result ImageRef ℕ} (bytes_eq (take 7 w) (codes "sha512-"))
    (by_id (drop 7 w)) (named (slice_split (λ b. b == 44) w))) ≡ Ok (ById digits len) in
    subst P (sym is) whole

pub reference_law : (word : List ℕ) (ref : ImageRef) → (reference word ≡ Ok ref) ↔ IsReference word ref
reference_law word ref = (reference_read word ref, reference_made word ref)
