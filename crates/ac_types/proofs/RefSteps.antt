-- Reading the parts of a reference one after the other.
use Rattle.std.proofs.Common.{◌≡◌, ℕ, ◌<◌, ◌+◌, List, [], ◌∷◌, ◌++◌, Some, None, Err, Bor, get_or, drop, length, map, refl, sym, ◌∙◌, ap, subst, inl, inr, ◌⊎◌, suc, Bool, true, false, arith}
use Rattle.std.specs.List.{slice_split, onto_first}
use Rattle.std.proofs.lemmas.List.Splits.{slice_split-cons_yes, slice_split-cons_no, length-slice_split}
use Rattle.std.proofs.lemmas.List.{drop_more, get_or-map, length-map, map-append}
use Rattle.ac_types.specs.References.{labels_from, and_more, label_part}
use Rattle.ac_types.specs.ReferenceSteps.{parts_size, IsRefused}
use Rattle.ac_types.specs.SeenTexts.{HasSeen}
use Rattle.ac_types.specs.declared.image_ref.RefError.{RefError}
use Rattle.ac_types.specs.declared.image_ref.RefError.TheVariants.{BadRef, NoMemory}
use Rattle.ac_types.specs.declared.label.Label.{Label}
use Rattle.ac_types.specs.declared.seen_texts.SeenTexts.{SeenTexts}

-- the texts that references show
abbrev pub texts : List (Bor (List ℕ)) → List (List ℕ)
texts ps = map (λ (p : Bor (List ℕ)). p.now) ps

-- the next part comes first of what is left
next_part : (place : ℕ) (before : List Label) (ps : List (Bor (List ℕ))) (i : ℕ) (p : Bor (List ℕ)) → i < length ps
    → labels_from place before (drop i (texts ps))
    ≡ and_more (λ l. labels_from (place + (length (get_or ps i p).now + 1)) (before ++ l ∷ []) (drop (i + 1) (texts ps))) place
    (label_part before (get_or ps i p).now)
next_part place before ps i p within =
    let more : i < length (texts ps) = rw length-map within in
    let here : get_or (texts ps) i [] ≡ (get_or ps i p).now = get_or-map (λ (q : Bor (List ℕ)). q.now) ps i p [] within in
    ap (labels_from place before)
    (drop_more (texts ps) i [] more ∙ ap (λ (t : List ℕ). t ∷ drop (i + 1) (texts ps)) here)

pub part_read : (place begin : ℕ) (before first : List Label) (ps : List (Bor (List ℕ))) (i : ℕ) (p : Bor (List ℕ)) (l : Label)
    (now : List Label) → i < length ps → label_part before (get_or ps i p).now ≡ Some l → now ≡ before ++ l ∷ []
    → labels_from place before (drop i (texts ps)) ≡ labels_from begin first (texts ps)
    → labels_from (place + (length (get_or ps i p).now + 1)) now (drop (i + 1) (texts ps)) ≡ labels_from begin first (texts ps)
part_read place begin before first ps i p l now within read added so_far =
    ap (λ (ls : List Label). labels_from (place + (length (get_or ps i p).now + 1)) ls (drop (i + 1) (texts ps))) added
    ∙ ap (and_more (λ x. labels_from (place + (length (get_or ps i p).now + 1)) (before ++ x ∷ []) (drop (i + 1) (texts ps))) place) (sym read)
    ∙ sym (next_part place before ps i p within) ∙ so_far

pub part_refused : (place begin : ℕ) (before first : List Label) (ps : List (Bor (List ℕ))) (i : ℕ) (p : Bor (List ℕ))
    → i < length ps → label_part before (get_or ps i p).now ≡ None
    → labels_from place before (drop i (texts ps)) ≡ labels_from begin first (texts ps)
    → labels_from begin first (texts ps) ≡ Err place
part_refused place begin before first ps i p within refused so_far =
    sym so_far ∙ next_part place before ps i p within
    ∙ ap (and_more (λ x. labels_from (place + (length (get_or ps i p).now + 1)) (before ++ x ∷ []) (drop (i + 1) (texts ps))) place) refused

-- the error at a part is the error of the whole
pub error_kept : (place begin : ℕ) (before first : List Label) (ps : List (Bor (List ℕ))) (i : ℕ) (p : Bor (List ℕ)) (e : RefError)
    → i < length ps → (e ≡ NoMemory) ⊎ ((e ≡ BadRef place) × (label_part before (get_or ps i p).now ≡ None))
    → labels_from place before (drop i (texts ps)) ≡ labels_from begin first (texts ps)
    → IsRefused (labels_from begin first (texts ps)) e
error_kept place begin before first ps i p e within (inl is) so_far =
    let P : RefError → Type 0 = λ x. IsRefused (labels_from begin first (texts ps)) x in subst P (sym is) tt
error_kept place begin before first ps i p e within (inr (is, refused)) so_far =
    let P : RefError → Type 0 = λ x. IsRefused (labels_from begin first (texts ps)) x in
    subst P (sym is) (part_refused place begin before first ps i p within refused so_far)

pub size_next : (ps : List (Bor (List ℕ))) (i : ℕ) (p : Bor (List ℕ)) → i < length ps
    → parts_size (drop i (texts ps)) ≡ (length (get_or ps i p).now + 1) + parts_size (drop (i + 1) (texts ps))
size_next ps i p within =
    let more : i < length (texts ps) = rw length-map within in
    let here : get_or (texts ps) i [] ≡ (get_or ps i p).now = get_or-map (λ (q : Bor (List ℕ)). q.now) ps i p [] within in
    ap parts_size (drop_more (texts ps) i [] more ∙ ap (λ (t : List ℕ). t ∷ drop (i + 1) (texts ps)) here)

pub seen_next : (seen : SeenTexts) (before now : List Label) (l : Label) → now ≡ before ++ l ∷ []
    → HasSeen seen (map (λ (x : Label). x.name) before ++ l.name ∷ []) → HasSeen seen (map (λ (x : Label). x.name) now)
seen_next seen before now l added has =
    let P : List (List ℕ) → Type 0 = λ ns. HasSeen seen ns in
    subst P (sym (ap (map (λ (x : Label). x.name)) added ∙ map-append (λ (x : Label). x.name) before (l ∷ []))) has

-- the parts of a text and the commas between them are the text
grow : (x : ℕ) (parts : List (List ℕ)) → 0 < length parts → parts_size (onto_first x parts) ≡ suc (parts_size parts)
grow x [] some = absurd (omega arith)
grow x (p ∷ ps) some = omega arith

some_part : (test : ℕ → Bool) (t : List ℕ) → 0 < length (slice_split test t)
some_part test t = omega (arith, length-slice_split test t)

pub parts_size_split : (test : ℕ → Bool) (t : List ℕ) → parts_size (slice_split test t) ≡ length t + 1
parts_size_split test [] = refl
parts_size_split test (x ∷ xs) = by_test (test x) refl (parts_size_split test xs) (some_part test xs)
  where
    by_test : (b : Bool) → test x ≡ b → parts_size (slice_split test xs) ≡ length xs + 1 → 0 < length (slice_split test xs)
        → parts_size (slice_split test (x ∷ xs)) ≡ length (x ∷ xs) + 1
    by_test true e ih some = rw (slice_split-cons_yes test x xs e) (omega (arith, ih))
    by_test false e ih some = rw (slice_split-cons_no test x xs e) (omega (arith, ih, grow x (slice_split test xs) some))
