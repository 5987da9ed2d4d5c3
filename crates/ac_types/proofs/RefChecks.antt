-- The search for the place at which a word stops to be a reference.
use Rattle.std.proofs.Common.{◌≡◌, ◌≢◌, ℕ, ◌<◌, ◌≤◌, ◌+◌, ◌==◌, Bool, true, false, ◌&&◌, ◌||◌, not, nat_le, nat_eq, List, [], ◌∷◌, ◌++◌, Option, Some, None, Result, Err, drop, take, length, map, codes, refl, sym, ◌∙◌, ap, subst, arith, suc, zero, inl, inr}
use Rattle.std.specs.Prelude.{if◌then◌else◌, option_map}
use Rattle.std.specs.List.{slice_split, list_any}
use Rattle.std.specs.Option.{is_some}
use Rattle.std.specs.Str.{bytes_eq}
use Rattle.std.proofs.lemmas.Bool.Decides.{nat_tests}
use Rattle.ac_types.specs.Names.{IsNameFault, is_separator}
use Rattle.ac_types.specs.References.{cut, is_identifier, is_filled, label_of, label_part, unless_named, labels_from, and_more, head_part, after_head, with_name, named, by_id, are_id_digits}
use Rattle.ac_types.specs.declared.image_ref.ImageRef.TheVariants.{Named, ById}
use Rattle.ac_types.specs.ReferenceSteps.{StopsAt, has_name, version_names, HasNames, IsHeadOf}
use Rattle.ac_types.specs.SeenTexts.{is_among}
use Rattle.ac_types.specs.declared.label.Label.{Label}
use Rattle.ac_types.specs.declared.name_error.NameError.{NameError}
use Rattle.ac_types.specs.declared.name_error.NameError.TheVariants.{Empty, BadByte, NoMemory}
use Rattle.std.proofs.Common.{append-nil}
use Rattle.std.proofs.Math.ListN.{replicate}
use mathlib.Core.List.{append_assoc}
use Rattle.std.proofs.lemmas.List.{map-append}
use Rattle.std.proofs.lemmas.List.Folds.{list_any-append}
use Rattle.ac_types.proofs.Cuts.{split_none, split_some}
use Rattle.ac_types.proofs.ReferenceLaw.{label_named}

-- a refused text is no identifier
pub no_identifier : (t : List ℕ) (e : NameError) → IsNameFault is_separator 1024 t e → e ≢ NoMemory → is_identifier t ≡ false
no_identifier t Empty h some = rw h refl
no_identifier t (BadByte place) (given, inl bad) some = rw bad.0 refl
no_identifier t (BadByte place) (given, inr long) some =
    let past : nat_le (length t) 1024 ≡ false = grind (arith, nat_tests, long.1) in
    rw (long.0, past) refl
no_identifier t NoMemory h some = absurd (some refl)

-- the first part of a text, by its first comma
pub first_alone : (t : List ℕ) → None ≡ cut 44 t → slice_split (λ b. b == 44) t ≡ t ∷ []
first_alone t h = split_none 44 t (sym h)

pub first_and_rest : (t a b : List ℕ) → Some (a, b) ≡ cut 44 t → slice_split (λ x. x == 44) t ≡ a ∷ slice_split (λ x. x == 44) b
first_and_rest t a b h = split_some 44 t a b (sym h)

-- a first part that is read
pub head_alone : (part : List ℕ) → None ≡ cut 58 part → is_identifier part ≡ true → IsHeadOf (head_part part (cut 58 part)) false
head_alone part h is =
    let whole : cut 58 part ≡ None = sym h in
    (part, [], rw (whole, is) refl, refl)

pub head_with_version : (part name version : List ℕ) → Some (name, version) ≡ cut 58 part → is_identifier name ≡ true
    → is_filled version ≡ true → IsHeadOf (head_part part (cut 58 part)) true
head_with_version part name version h is some =
    let parts : cut 58 part ≡ Some (name, version) = sym h in
    (name, record { name = codes "version"; value = version } ∷ [], rw (parts, is, some) refl, refl)

pub filled_by_length : (t : List ℕ) → nat_eq (length t) 0 ≡ false → is_filled t ≡ true
filled_by_length [] h = cc
filled_by_length (b ∷ bs) h = refl

or_false : (x y : Bool) → (x || y) ≡ false → (x ≡ false) × (y ≡ false)
or_false true y h = cc
or_false false y h = (refl, h)

-- a search among the first parts
pub any_end : {X : Type 0} (f : X → Bool) (i n : ℕ) (xs : List X) → drop i xs ≡ [] → i ≤ n
    → list_any f (take i xs) ≡ false → false ≡ list_any f (take n xs)
any_end f zero zero [] h le none = refl
any_end f zero (suc n) [] h le none = refl
any_end f zero n (x ∷ xs) h le none = cc
any_end f (suc i) zero xs h le none = absurd (omega arith)
any_end f (suc i) (suc n) [] h le none = refl
any_end f (suc i) (suc n) (x ∷ xs) h le none =
    let both = or_false (f x) (list_any f (take i xs)) none in
    any_end f i n xs h (omega arith) both.1 ∙ sym (ap (λ (b : Bool). b || list_any f (take n xs)) both.0)

pub any_here : {X : Type 0} (f : X → Bool) (i n : ℕ) (xs : List X) (x : X) (more : List X) → drop i xs ≡ x ∷ more → i < n
    → f x ≡ true → true ≡ list_any f (take n xs)
any_here f zero zero xs x more h lt is = absurd (omega arith)
any_here f zero (suc n) [] x more h lt is = cc
any_here f zero (suc n) (y ∷ ys) x more h lt is =
    let same : y ≡ x = cc in
    let here : f y ≡ true = ap f same ∙ is in
    sym (ap (λ (b : Bool). b || list_any f (take n ys)) here)
any_here f (suc i) zero xs x more h lt is = absurd (omega arith)
any_here f (suc i) (suc n) [] x more h lt is = cc
any_here f (suc i) (suc n) (y ∷ ys) x more h lt is =
    let rest : true ≡ list_any f (take n ys) = any_here f i n ys x more h (omega arith) is in
    by_test (f y) rest
  where
    by_test : (b : Bool) → true ≡ list_any f (take n ys) → true ≡ (b || list_any f (take n ys))
    by_test true e = refl
    by_test false e = e

-- one part more
pub any_more : {X : Type 0} (f : X → Bool) (i : ℕ) (xs : List X) (x : X) (more : List X) → drop i xs ≡ x ∷ more
    → list_any f (take (i + 1) xs) ≡ (list_any f (take i xs) || f x)
any_more f zero [] x more h = cc
any_more f zero (y ∷ ys) x more h =
    let same : y ≡ x = cc in ap (λ (b : Bool). b || false) (ap f same) ∙ or_none (f x)
  where
    or_none : (b : Bool) → (b || false) ≡ b
    or_none true = refl
    or_none false = refl
any_more f (suc i) [] x more h = cc
any_more f (suc i) (y ∷ ys) x more h =
    let ih = any_more f i ys x more h in
    let next : suc i + 1 ≡ suc (i + 1) = omega arith in
    ap (λ (n : ℕ). list_any f (take n (y ∷ ys))) next ∙ ap (λ (b : Bool). f y || b) ih ∙ or_assoc (f y) (list_any f (take i ys)) (f x)
  where
    or_assoc : (a b c : Bool) → (a || (b || c)) ≡ ((a || b) || c)
    or_assoc true b c = refl
    or_assoc false b c = refl

pub drop_next : {X : Type 0} (i : ℕ) (xs : List X) (x : X) (more : List X) → drop i xs ≡ x ∷ more → drop (i + 1) xs ≡ more
drop_next zero [] x more h = cc
drop_next zero (y ∷ ys) x more h = cc
drop_next (suc i) [] x more h = cc
drop_next (suc i) (y ∷ ys) x more h =
    let next : suc i + 1 ≡ suc (i + 1) = omega arith in
    ap (λ (n : ℕ). drop n (y ∷ ys)) next ∙ drop_next i ys x more h

pub any_not_yet : {X : Type 0} (f : X → Bool) (i : ℕ) (xs : List X) (x : X) (more : List X) → drop i xs ≡ x ∷ more
    → list_any f (take i xs) ≡ false → f x ≡ false → list_any f (take (i + 1) xs) ≡ false
any_not_yet f i xs x more h none not_it = any_more f i xs x more h ∙ rw (none, not_it) refl

-- a part's label, by its name
pub label_by_name : (part name value : List ℕ) → Some (name, value) ≡ cut 61 part → is_identifier name ≡ true → is_filled value ≡ true
    → Some name ≡ option_map (λ (l : Label). l.name) (label_of (cut 61 part))
label_by_name part name value h is some =
    let parts : cut 61 part ≡ Some (name, value) = sym h in rw (parts, is, some) refl

pub no_label_value : (part name value : List ℕ) → Some (name, value) ≡ cut 61 part → nat_eq (length value) 0 ≡ true
    → None ≡ option_map (λ (l : Label). l.name) (label_of (cut 61 part))
no_label_value part name [] h none =
    let parts : cut 61 part ≡ Some (name, []) = sym h in by_test (is_identifier name) refl parts
  where
    by_test : (b : Bool) → is_identifier name ≡ b → cut 61 part ≡ Some (name, []) → None ≡ option_map (λ (l : Label). l.name) (label_of (cut 61 part))
    by_test true e parts = rw (parts, e) refl
    by_test false e parts = rw (parts, e) refl
no_label_value part name (b ∷ bs) h none = absurd (grind (arith, nat_tests))

pub no_label_name : (part name value : List ℕ) → Some (name, value) ≡ cut 61 part → is_identifier name ≡ false
    → None ≡ option_map (λ (l : Label). l.name) (label_of (cut 61 part))
no_label_name part name value h not_it =
    let parts : cut 61 part ≡ Some (name, value) = sym h in rw (parts, not_it) refl

-- the labels of parts
pub parts_end : (place : ℕ) (before : List Label) (parts : List (List ℕ)) → parts ≡ [] → StopsAt (labels_from place before parts) None
parts_end place before parts h = (before, ap (labels_from place before) h)

-- what was read so far, and what is left
abbrev pub IsReadTo : Bool → List (List ℕ) → ℕ → List (List ℕ) → ℕ → ℕ → Type 0
IsReadTo versioned parts begin left place count =
    (before : List Label) → map (λ (l : Label). l.name) before ≡ version_names versioned
    → (more : List Label) × HasNames (take count parts) more
    × (labels_from place (before ++ more) left ≡ labels_from begin before parts)

pub read_none : (versioned : Bool) (parts : List (List ℕ)) (begin : ℕ) → IsReadTo versioned parts begin parts begin 0
read_none versioned parts begin before names =
    ([], λ name. refl, ap (λ (ls : List Label). labels_from begin ls parts) (append-nil before))

pub stops_end : (versioned : Bool) (parts left : List (List ℕ)) (begin place count : ℕ) → IsReadTo versioned parts begin left place count
    → left ≡ [] → (before : List Label) → map (λ (l : Label). l.name) before ≡ version_names versioned
    → StopsAt (labels_from begin before parts) None
stops_end versioned parts left begin place count so_far none before names =
    let one = so_far before names in
    (before ++ one.0, sym one.2 ∙ ap (labels_from place (before ++ one.0)) none)

is_none : (o : Option Label) → is_some o ≡ false → o ≡ None
is_none None h = refl
is_none (Some l) h = cc

pub stops_here : (versioned : Bool) (parts left : List (List ℕ)) (begin place count : ℕ) (part : List ℕ) (rest : List (List ℕ))
    → IsReadTo versioned parts begin left place count → left ≡ part ∷ rest
    → ((before more : List Label) → map (λ (l : Label). l.name) before ≡ version_names versioned → HasNames (take count parts) more
    → false ≡ is_some (label_part (before ++ more) part))
    → (before : List Label) → map (λ (l : Label). l.name) before ≡ version_names versioned
    → labels_from begin before parts ≡ Err place
stops_here versioned parts left begin place count part rest so_far is refused before names =
    let one = so_far before names in
    let none : label_part (before ++ one.0) part ≡ None =
    is_none (label_part (before ++ one.0) part) (sym (refused before one.0 names one.1)) in
    sym one.2 ∙ ap (labels_from place (before ++ one.0)) is ∙ rw none refl

the_label : (o : Option Label) → is_some o ≡ true → (l : Label) × (o ≡ Some l)
the_label None h = cc
the_label (Some l) h = (l, refl)

-- a label's name, by the part that it was read from
part_name : (part : List ℕ) (o : Option (List ℕ × List ℕ)) (l : Label) (name : List ℕ) → label_of o ≡ Some l
    → has_name name o ≡ bytes_eq l.name name
part_name part None l name h = cc
part_name part (Some (found, value)) l name h = by_test (is_identifier found && is_filled value) refl h
  where
    by_test : (t : Bool) → (is_identifier found && is_filled value) ≡ t
        → (if◌then◌else◌ {A = Option Label} t (Some (record { name = found; value = value })) None) ≡ Some l
        → bytes_eq found name ≡ bytes_eq l.name name
    by_test true e k =
        let same : ◌≡◌ {A = Label} (record { name = found; value = value }) l = cc in ap (λ (m : Label). bytes_eq m.name name) same
    by_test false e k = cc

one_more : (parts : List (List ℕ)) (count : ℕ) (part : List ℕ) (rest : List (List ℕ)) (more : List Label) (l : Label)
    → drop count parts ≡ part ∷ rest → label_of (cut 61 part) ≡ Some l → HasNames (take count parts) more
    → HasNames (take (count + 1) parts) (more ++ l ∷ [])
one_more parts count part rest more l left is has name =
    ap (is_among name) (map-append (λ (m : Label). m.name) more (l ∷ []))
    ∙ list_any-append (λ t. bytes_eq t name) (map (λ (m : Label). m.name) more) (l.name ∷ [])
    ∙ ap (λ (b : Bool). b || (bytes_eq l.name name || false)) (has name)
    ∙ ap (λ (b : Bool). list_any (λ p. has_name name (cut 61 p)) (take count parts) || b)
    (or_none (bytes_eq l.name name) ∙ sym (part_name part (cut 61 part) l name is))
    ∙ sym (any_more (λ p. has_name name (cut 61 p)) count parts part rest left)
  where
    or_none : (b : Bool) → (b || false) ≡ b
    or_none true = refl
    or_none false = refl

pub goes_on : (versioned : Bool) (parts left : List (List ℕ)) (begin place count : ℕ) (part : List ℕ) (rest : List (List ℕ))
    → IsReadTo versioned parts begin left place count → left ≡ part ∷ rest → drop count parts ≡ left
    → ((before more : List Label) → map (λ (l : Label). l.name) before ≡ version_names versioned → HasNames (take count parts) more
    → true ≡ is_some (label_part (before ++ more) part))
    → IsReadTo versioned parts begin rest (place + (length part + 1)) (count + 1)
goes_on versioned parts left begin place count part rest so_far is at good before names =
    let one = so_far before names in
    let label = the_label (label_part (before ++ one.0) part) (sym (good before one.0 names one.1)) in
    let read = label_named (map (λ (l : Label). l.name) (before ++ one.0)) (label_of (cut 61 part)) label.0 label.1 in
    let next : labels_from place (before ++ one.0) (part ∷ rest)
    ≡ labels_from (place + (length part + 1)) ((before ++ one.0) ++ label.0 ∷ []) rest =
    ap (and_more (λ l. labels_from (place + (length part + 1)) ((before ++ one.0) ++ l ∷ []) rest) place) label.1 in (
      one.0 ++ label.0 ∷ [],
      one_more parts count part rest one.0 label.0 (at ∙ is) read.0 one.1,
      ap (λ (ls : List Label). labels_from (place + (length part + 1)) ls rest) (sym (append_assoc before one.0 (label.0 ∷ [])))
          ∙ sym next ∙ ap (labels_from place (before ++ one.0)) (sym is) ∙ one.2,
    )

-- whether a part is a new label
judged : (names : List (List ℕ)) (o : Option Label) (name : List ℕ) → Some name ≡ option_map (λ (l : Label). l.name) o
    → is_some (unless_named names o) ≡ not (bytes_eq name (codes "name") || is_among name names)
judged names None name h = cc
judged names (Some l) name h =
    let same : l.name ≡ name = cc in
    ap (λ (n : List ℕ). is_some (if◌then◌else◌ {A = Option Label} (bytes_eq n (codes "name") || is_among n names) None (Some l))) same
    ∙ by_test (bytes_eq name (codes "name") || is_among name names)
  where
    by_test : (b : Bool) → is_some (if◌then◌else◌ {A = Option Label} b None (Some l)) ≡ not b
    by_test true = refl
    by_test false = refl

names_apart : (versioned : Bool) (before more : List Label) (name : List ℕ)
    → map (λ (l : Label). l.name) before ≡ version_names versioned
    → is_among name (map (λ (l : Label). l.name) (before ++ more))
    ≡ (is_among name (version_names versioned) || is_among name (map (λ (l : Label). l.name) more))
names_apart versioned before more name names =
    ap (is_among name) (map-append (λ (l : Label). l.name) before more)
    ∙ list_any-append (λ t. bytes_eq t name) (map (λ (l : Label). l.name) before) (map (λ (l : Label). l.name) more)
    ∙ ap (λ (ns : List (List ℕ)). is_among name ns || is_among name (map (λ (l : Label). l.name) more)) names

pub new_by_tests : (versioned : Bool) (parts : List (List ℕ)) (part name : List ℕ) (reserved version came : Bool)
    → Some name ≡ option_map (λ (l : Label). l.name) (label_of (cut 61 part)) → bytes_eq name (codes "name") ≡ reserved
    → is_among name (version_names versioned) ≡ version → list_any (λ p. has_name name (cut 61 p)) parts ≡ came
    → (before more : List Label) → map (λ (l : Label). l.name) before ≡ version_names versioned → HasNames parts more
    → not (reserved || (version || came)) ≡ is_some (label_part (before ++ more) part)
new_by_tests versioned parts part name reserved version came is one two three before more names has =
    let among : is_among name (map (λ (l : Label). l.name) (before ++ more)) ≡ (version || came) =
    names_apart versioned before more name names ∙ rw (two, has name, three) refl in
    sym (judged (map (λ (l : Label). l.name) (before ++ more)) (label_of (cut 61 part)) name is ∙ rw (one, among) refl)

pub reserved_name : (versioned : Bool) (parts : List (List ℕ)) (part name : List ℕ)
    → Some name ≡ option_map (λ (l : Label). l.name) (label_of (cut 61 part)) → bytes_eq name (codes "name") ≡ true
    → (before more : List Label) → map (λ (l : Label). l.name) before ≡ version_names versioned → HasNames parts more
    → false ≡ is_some (label_part (before ++ more) part)
reserved_name versioned parts part name is one =
    new_by_tests versioned parts part name true (is_among name (version_names versioned))
    (list_any (λ p. has_name name (cut 61 p)) parts) is one refl refl

pub version_again : (versioned : Bool) (parts : List (List ℕ)) (part name : List ℕ)
    → Some name ≡ option_map (λ (l : Label). l.name) (label_of (cut 61 part)) → bytes_eq name (codes "name") ≡ false
    → is_among name (version_names versioned) ≡ true
    → (before more : List Label) → map (λ (l : Label). l.name) before ≡ version_names versioned → HasNames parts more
    → false ≡ is_some (label_part (before ++ more) part)
version_again versioned parts part name is one two =
    new_by_tests versioned parts part name false true (list_any (λ p. has_name name (cut 61 p)) parts) is one two refl

pub no_label : (part : List ℕ) (before more : List Label) → None ≡ option_map (λ (l : Label). l.name) (label_of (cut 61 part))
    → false ≡ is_some (label_part (before ++ more) part)
no_label part before more h = by_label (label_of (cut 61 part)) h
  where
    by_label : (o : Option Label) → None ≡ option_map (λ (l : Label). l.name) o
        → false ≡ is_some (unless_named (map (λ (l : Label). l.name) (before ++ more)) o)
    by_label None k = refl
    by_label (Some l) k = cc

-- a reference by name, by its first part
pub head_first : (part : List ℕ) (parts : List (List ℕ)) (place : ℕ) → head_part part (cut 58 part) ≡ Err place
    → named (part ∷ parts) ≡ Err place
head_first part parts place h = ap (after_head part parts) h

with_labels : (name : List ℕ) (r : Result (List Label) ℕ) (o : Option ℕ) → StopsAt r o → StopsAt (with_name name r) o
with_labels name r None (ls, is) = (Named name ls, ap (with_name name) is)
with_labels name r (Some place) is = ap (with_name name) is

pub labels_next : (part : List ℕ) (parts : List (List ℕ)) (versioned : Bool) (o : Option ℕ)
    → IsHeadOf (head_part part (cut 58 part)) versioned
    → ((before : List Label) → map (λ (l : Label). l.name) before ≡ version_names versioned
    → StopsAt (labels_from (length part + 1) before parts) o)
    → StopsAt (named (part ∷ parts)) o
labels_next part parts versioned o (name, first, is, names) stops =
    let P : Result (List ℕ × List Label) ℕ → Type 0 = λ r. StopsAt (after_head part parts r) o in
    subst P (sym is) (with_labels name (labels_from (length part + 1) first parts) o (stops first names))

-- a reference by ID
pub good_digits : (digits : List ℕ) → are_id_digits digits ≡ true → StopsAt (by_id digits) None
good_digits digits are =
    (ById (digits ++ drop (length digits) (replicate 128 0)) (length digits), rw are refl)
