-- What reading says of a beginning of a listing's text.
use Rattle.std.proofs.Common.{◌≡◌, ℕ, ◌+◌, ◌-◌, ◌<◌, ◌≤◌, false, cond, eqb, ◌||◌, List, [], ◌∷◌, ◌++◌, length, get_or, count_by, Result, Ok, Err, IfOk, sym, refl, ap, subst, ◌∙◌, ◌⊎◌, inl, inr, ⊎_elim, arith, length-append, append_assoc}
use Rattle.std.specs.Result.{IfErr, MatchResult}
use Rattle.std.proofs.lemmas.Bool.{or_parts, or_from, cond-false, ne_eqb}
use Rattle.std.proofs.lemmas.List.{append-nil, get_or-append_right}
use Rattle.std.proofs.lemmas.List.Sums.{sum_by-append}
use Rattle.tree_digest.specs.declared.line.ListingLine.{ListingLine}
use Rattle.tree_digest.specs.declared.listing_error.ListingError.{ListingError}
use Rattle.tree_digest.specs.declared.listing_error.ListingError.TheVariants.{BadLine, NoMemory}
use Rattle.path_map.specs.Paths.{HasNone}
use Rattle.tree_digest.specs.Lines.{line_text, line_fields}
use Rattle.tree_digest.specs.Listings.{AllFollow, Fails, IsListing, listing_text, line_count}
use Rattle.tree_digest.proofs.Cuts.{read_clear}
use Rattle.path_map.proofs.Ends.{has_cut}
use Rattle.tree_digest.proofs.LineTexts.{entry_clear}
use Rattle.tree_digest.proofs.ListingTexts.{lines_counted, none_counted}
use Rattle.tree_digest.proofs.Takes.{none_is_no_line}
use Rattle.listing_laws.specs.Beginnings.{IsEnded}
use Rattle.listing_laws.proofs.OneFault.{one_first_fault}

-- the whole lines at the front of a text, and what is left of the next one
pub record Parted (known lines : List ListingLine) (front : List ℕ) : Type 0 where
  pub whole : List ListingLine
  pub part : List ℕ
  pub follow : AllFollow known whole
  pub text : front ≡ listing_text whole ++ part
  pub clear : HasNone 10 part
  pub fewer : length whole ≤ length lines
  pub next : 0 < length part → length whole < length lines

-- of two ways to part a text one is within the other
record Longer (a b c d : List ℕ) : Type 0 where
  more : List ℕ
  long : c ≡ a ++ more
  rest : b ≡ more ++ d

record Shorter (a c : List ℕ) : Type 0 where
  first : ℕ
  more : List ℕ
  short : a ≡ c ++ first ∷ more

two_parts : (a b c d : List ℕ) → a ++ b ≡ c ++ d → Longer a b c d ⊎ Shorter a c
two_parts [] b c d e = inl (record { more = c; long = refl; rest = e })
two_parts (x ∷ a) b [] d e = inr (record { first = x; more = a; short = refl })
two_parts (x ∷ a) b (y ∷ c) d e =
    let same : x ≡ y = cc in
    let others : a ++ b ≡ c ++ d = cc in
    ⊎_elim
    (λ l. let long : c ≡ a ++ l.more = l.long in inl (record { more = l.more; long = cc; rest = l.rest }))
    (λ s. let short : a ≡ c ++ s.first ∷ s.more = s.short in inr (record { first = s.first; more = s.more; short = cc }))
    (two_parts a b c d others)

-- what is short of a line has no line end
short_of_end : (fields front : List ℕ) (first : ℕ) (more : List ℕ) → HasNone 10 fields → fields ++ 10 ∷ [] ≡ front ++ first ∷ more → HasNone 10 front
short_of_end fields [] first more none e = refl
short_of_end [] (y ∷ front) first more none e = absurd (omega (arith, ap length e, length-append front (first ∷ more)))
short_of_end (x ∷ fields) (y ∷ front) first more none e =
    let same : x ≡ y = cc in
    let others : fields ++ 10 ∷ [] ≡ front ++ first ∷ more = cc in
    or_from _ _ (subst (λ (z : ℕ). eqb z 10 ≡ false) same (or_parts _ _ none).0) (short_of_end fields front first more (or_parts _ _ none).1 others)

parted : (known lines : List ListingLine) (front back : List ℕ) → AllFollow known lines → listing_text lines ≡ front ++ back → Parted known lines front
unfolding line_text
parted known [] [] back all e = record { whole = []; part = []; follow = tt; text = refl; clear = refl; fewer = omega arith; next = λ some. omega (arith, some) }
parted known [] (x ∷ front) back all e = absurd (omega (arith, ap length e))
parted known (l ∷ lines) front back all e =
    ⊎_elim
    (λ longer.
    let rest = parted (known ++ l ∷ []) lines longer.more back all.1 longer.rest in
    record {
      whole = l ∷ rest.whole;
      part = rest.part;
      follow = (all.0, rest.follow);
      text = longer.long ∙ ap (λ t. line_text l ++ t) rest.text ∙ sym (append_assoc (line_text l) (listing_text rest.whole) rest.part);
      clear = rest.clear;
      fewer = omega (arith, rest.fewer);
      next = λ some. omega (arith, rest.next some);
    })
    (λ shorter.
    record {
      whole = [];
      part = front;
      follow = tt;
      text = refl;
      clear = short_of_end (line_fields l) front shorter.first shorter.more (entry_clear l.entry l.path) shorter.short;
      fewer = omega arith;
      next = λ some. omega arith;
    })
    (two_parts (line_text l) (listing_text lines) front back e)

-- a text that ends has nothing after its last line end
nothing_after : (xs part line : List ℕ) → HasNone 10 part → 0 < length part → xs ++ part ≡ line ++ 10 ∷ [] → ⊥
nothing_after [] part line none some e = has_cut 10 line [] (subst (HasNone 10) e none)
nothing_after (x ∷ xs) part [] none some e = omega (arith, ap length e, length-append xs part, some)
nothing_after (x ∷ xs) part (y ∷ line) none some e =
    let others : xs ++ part ≡ line ++ 10 ∷ [] = cc in
    nothing_after xs part line none some others

no_part : (xs part : List ℕ) → HasNone 10 part → IsEnded (xs ++ part) → part ≡ []
no_part xs [] none ended = refl
no_part xs (p ∷ part) none ended =
    absurd (⊎_elim
    (λ nil. omega (arith, ap length nil, length-append xs (p ∷ part)))
    (λ line. nothing_after xs (p ∷ part) line.0 none (omega arith) line.1)
    ended)

-- a beginning that is empty or ends with a line end has a reading
pub an_ended_beginning_is_a_listing : (lines : List ListingLine) (front back : List ℕ) → IsListing lines → listing_text lines ≡ front ++ back → IsEnded front
    → (whole : List ListingLine) × IsListing whole × (front ≡ listing_text whole)
an_ended_beginning_is_a_listing lines front back listing e ended =
    let cut = parted [] lines front back listing.follow e in
    let none = no_part (listing_text cut.whole) cut.part cut.clear (subst IsEnded cut.text ended) in
    let text : front ≡ listing_text cut.whole = cut.text ∙ ap (λ t. listing_text cut.whole ++ t) none ∙ append-nil (listing_text cut.whole) in (
      cut.whole,
      record {
        follow = cut.follow;
        count = omega (arith, cut.fewer, listing.count);
        size = omega (arith, ap length text, ap length e, length-append front back, listing.size);
      },
      text,
    )

-- the text of a listing is empty or ends with a line end
pub a_listing_is_ended : (lines : List ListingLine) → IsEnded (listing_text lines)
unfolding line_text
a_listing_is_ended [] = inl refl
a_listing_is_ended (l ∷ lines) =
    ⊎_elim
    (λ nil. inr (line_fields l, ap (λ t. line_text l ++ t) nil ∙ append-nil (line_text l)))
    (λ line. inr (line_text l ++ line.0, ap (λ t. line_text l ++ t) line.1 ∙ sym (append_assoc (line_text l) line.0 (10 ∷ []))))
    (a_listing_is_ended lines)

-- the last line of a text that doesn't end with a line end is counted too
counted : (lines : List ListingLine) (p : ℕ) (part : List ℕ) → HasNone 10 (p ∷ part) → line_count (listing_text lines ++ p ∷ part) ≡ length lines + 1
counted lines p part none =
    let text = listing_text lines ++ p ∷ part in
    let size = length-append (listing_text lines) (p ∷ part) in
    let last : get_or text (length text - 1) 0 ≡ get_or (p ∷ part) (length text - 1 - length (listing_text lines)) 0 =
    get_or-append_right (listing_text lines) (p ∷ part) (length (listing_text lines)) (length text - 1) 0 refl (omega (arith, size)) in
    let flag : (eqb (length text) 0 || eqb (get_or text (length text - 1) 0) 10) ≡ false =
    or_from _ _ (ne_eqb (length text) 0 (λ e. omega (arith, size, e)))
    (ap (λ b. eqb b 10) last ∙ read_clear 10 (p ∷ part) none (omega arith) (length text - 1 - length (listing_text lines))) in
    ap (λ n. count_by (λ b. eqb b 10) text + n) (cond-false (eqb (length text) 0 || eqb (get_or text (length text - 1) 0) 10) 0 1 flag)
    ∙ omega (arith, sum_by-append (λ b. cond (eqb b 10) 1 0) (listing_text lines) (p ∷ part), lines_counted lines, none_counted 10 (p ∷ part) none)

-- any other beginning fails at its last line
fails_at_last : (lines whole : List ListingLine) (front back part : List ℕ) → IsListing lines → listing_text lines ≡ front ++ back → AllFollow [] whole → front ≡ listing_text whole ++ part → HasNone 10 part
    → (0 < length part → length whole < length lines) → (IsEnded front → ⊥) → Fails front (BadLine (line_count front))
fails_at_last lines whole front back [] listing e follow text none fewer unended =
    absurd (unended (subst IsEnded (sym (append-nil (listing_text whole)) ∙ sym text) (a_listing_is_ended whole)))
fails_at_last lines whole front back (p ∷ part) listing e follow text none fewer unended =
    let count : line_count front ≡ length whole + 1 = ap line_count text ∙ counted whole p part none in
    inr (
      (omega (arith, count, fewer (omega arith), listing.count), omega (arith, ap length e, length-append front back, listing.size)),
      record {
        before = whole;
        after = p ∷ part;
        some = omega arith;
        follow = follow;
        is = text;
        fault = (count, λ line begins. none_is_no_line (p ∷ part) none line begins.0 begins.2);
      },
    )

pub another_beginning_has_a_bad_last_line : (lines : List ListingLine) (front back : List ℕ) → IsListing lines → listing_text lines ≡ front ++ back → (IsEnded front → ⊥)
    → Fails front (BadLine (line_count front))
another_beginning_has_a_bad_last_line lines front back listing e unended =
    let cut = parted [] lines front back listing.follow e in
    fails_at_last lines cut.whole front back cut.part listing e cut.follow cut.text cut.clear cut.next unended
