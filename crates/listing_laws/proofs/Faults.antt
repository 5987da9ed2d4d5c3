-- The text of a listing has no fault.
use Rattle.std.proofs.Common.{◌≡◌, ℕ, ◌+◌, ◌-◌, ◌<◌, true, false, eqb, ◌||◌, List, [], ◌∷◌, ◌++◌, length, get_or, sym, refl, ap, subst, ◌∙◌, ◌⊎◌, inl, inr, ⊎_elim, arith, length-append, append_assoc, count_by}
use Rattle.std.proofs.lemmas.Bool.{both_ways, MatchBool-at_false, le-ltb, cases_lt, or_left, or_right, eq-eqb, cond-true}
use Rattle.std.proofs.lemmas.List.{append-nil, get_or_append_left, get_or_at, get_or-append_right}
use Rattle.tree_digest.specs.declared.line.ListingLine.{ListingLine}
use Rattle.tree_digest.specs.declared.listing_error.ListingError.{ListingError}
use Rattle.tree_digest.specs.declared.listing_error.ListingError.TheVariants.{BadLine, NotSorted, NoParent, TooMany, FileTooLong, NoMemory}
use Rattle.tree_digest.specs.Lines.{line_text, line_fields, is_too_long}
use Rattle.tree_digest.specs.Listings.{AllFollow, Follows, FailsAt, Fails, IsListing, Rises, is_parent, listing_text, line_count}
use Rattle.path_map.specs.Paths.{EndsIn}
use Rattle.tree_digest.proofs.ListingTexts.{lines_counted}
use Rattle.listing_laws.proofs.OneText.{first_line_same}

-- the line that a listing goes on with doesn't fail
pub next_is_right : (before : List ListingLine) (line : ListingLine) (rest : List ℕ) (error : ListingError) → Follows before line → FailsAt before (line_text line ++ rest) error → ⊥
next_is_right before line rest (BadLine n) next fails = fails.1 line (rest, next.line, refl)
next_is_right before line rest (FileTooLong n) next fails =
    let other = fails.1 in
    let same = first_line_same line other.0 rest other.1.0 next.line other.1.1 other.1.2 in
    both_ways _ (subst (λ (l : ListingLine). is_too_long l.entry ≡ false) same.0 next.short) other.2
next_is_right before line rest (NotSorted n) next fails =
    let other = fails.1 in
    let same = first_line_same line other.0 rest other.1.0 next.line other.1.1 other.1.2 in
    other.3 (subst (λ (l : ListingLine). Rises before l) same.0 next.rises)
next_is_right before line rest (NoParent n) next fails =
    let other = fails.1 in
    let same = first_line_same line other.0 rest other.1.0 next.line other.1.1 other.1.2 in
    let ends = subst (λ (l : ListingLine). (parent name : List ℕ) → EndsIn l.path parent name → is_parent before parent ≡ true) same.0 next.parents in
    both_ways _ other.4.3 (ends other.4.0 other.4.1 other.4.2)
next_is_right before line rest (TooMany limit) next fails = fails
next_is_right before line rest NoMemory next fails = fails

-- a listing doesn't stop at one of its lines
stops_nowhere : (known lines before : List ListingLine) (after : List ℕ) (error : ListingError) → AllFollow known lines → AllFollow known before → listing_text lines ≡ listing_text before ++ after
    → 0 < length after → FailsAt (known ++ before) after error → ⊥
stops_nowhere known [] [] after error all some e long fails = omega (arith, ap length e)
stops_nowhere known [] (b ∷ before) after error all some e long fails =
    omega (arith, ap length e, length-append (line_text b ++ listing_text before) after)
stops_nowhere known (l ∷ lines) [] after error all some e long fails =
    next_is_right known l (listing_text lines) error all.0 (subst (λ b. FailsAt b (line_text l ++ listing_text lines) error) (append-nil known) (subst (λ t. FailsAt (known ++ []) t error) (sym e) fails))
stops_nowhere known (l ∷ lines) (b ∷ before) after error all some e long fails =
    let first = first_line_same l b (listing_text lines) (listing_text before ++ after) all.0.line some.0.line (e ∙ append_assoc (line_text b) (listing_text before) after) in
    stops_nowhere (known ++ b ∷ []) lines before after error (subst (λ (x : ListingLine). AllFollow (known ++ x ∷ []) lines) first.0 all.1) some.1 first.1 long
    (subst (λ bs. FailsAt bs after error) (sym (append_assoc known (b ∷ []) before)) fails)

-- a text is empty or ends with a line end
abbrev Ends : List ℕ → Type 0
Ends text = (length text ≡ 0) ⊎ (get_or text (length text - 1) 0 ≡ 10)

ends_after : (front text : List ℕ) → Ends text → get_or ((front ++ 10 ∷ []) ++ text) (length ((front ++ 10 ∷ []) ++ text) - 1) 0 ≡ 10
ends_after front text ends =
    let size = length-append (front ++ 10 ∷ []) text in
    let first = length-append front (10 ∷ []) in
    ⊎_elim
    (λ none.
    let at : length ((front ++ 10 ∷ []) ++ text) - 1 ≡ length front = omega (arith, size, first, none) in
    ap (λ n. get_or ((front ++ 10 ∷ []) ++ text) n 0) at
    ∙ get_or_append_left (front ++ 10 ∷ []) text 0 (length front) (omega (arith, first))
    ∙ get_or_at front 10 [] 0 (length front) refl)
    (λ last.
    ⊎_elim
    (λ some.
    let at : length ((front ++ 10 ∷ []) ++ text) - 1 - length (front ++ 10 ∷ []) ≡ length text - 1 = omega (arith, size) in
    get_or-append_right (front ++ 10 ∷ []) text (length (front ++ 10 ∷ [])) (length ((front ++ 10 ∷ []) ++ text) - 1) 0 refl (omega (arith, size, some))
    ∙ ap (λ n. get_or text n 0) at ∙ last)
    (λ none.
    let nil : length text ≡ 0 = omega arith in
    let at : length ((front ++ 10 ∷ []) ++ text) - 1 ≡ length front = omega (arith, size, first, nil) in
    ap (λ n. get_or ((front ++ 10 ∷ []) ++ text) n 0) at
    ∙ get_or_append_left (front ++ 10 ∷ []) text 0 (length front) (omega (arith, first))
    ∙ get_or_at front 10 [] 0 (length front) refl)
    (cases_lt 0 (length text)))
    ends

text_ends : (lines : List ListingLine) → Ends (listing_text lines)
unfolding line_text
text_ends [] = inl refl
text_ends (l ∷ lines) = inr (ends_after (line_fields l) (listing_text lines) (text_ends lines))

flag_from : (text : List ℕ) → Ends text → (eqb (length text) 0 || eqb (get_or text (length text - 1) 0) 10) ≡ true
flag_from text ends = ⊎_elim (λ none. or_left _ _ (eq-eqb _ _ none)) (λ last. or_right _ _ (eq-eqb _ _ last)) ends

-- a listing has as many lines as its text
pub lines_of_text : (lines : List ListingLine) → line_count (listing_text lines) ≡ length lines
lines_of_text lines =
    let text = listing_text lines in
    let flag = flag_from text (text_ends lines) in
    ap (λ n. count_by (λ b. eqb b 10) text + n) (cond-true (eqb (length text) 0 || eqb (get_or text (length text - 1) 0) 10) 0 1 flag)
    ∙ omega (arith, lines_counted lines)

-- so reading what was written isn't refused
pub a_listing_has_no_fault : (lines : List ListingLine) (error : ListingError) → IsListing lines → Fails (listing_text lines) error → ⊥
a_listing_has_no_fault lines error listing fails =
    ⊎_elim
    (λ many.
    let few = le-ltb 65536 (line_count (listing_text lines)) (omega (arith, lines_of_text lines, listing.count)) in
    let long = MatchBool-at_false (error ≡ TooMany 65536) ((33554432 < length (listing_text lines)) × (error ≡ TooMany 33554432)) few many in
    omega (arith, long.0, listing.size))
    (λ stops. stops_nowhere [] lines stops.1.before stops.1.after error listing.follow stops.1.follow stops.1.is stops.1.some stops.1.fault)
    fails
