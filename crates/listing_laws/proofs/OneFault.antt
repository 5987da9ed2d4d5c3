-- A text has at most one first fault.
use Rattle.std.proofs.Common.{◌≡◌, ℕ, ◌<◌, Bool, true, false, ltb, List, [], ◌∷◌, ◌++◌, length, sym, ap, subst, ◌∙◌, ⊎_elim, arith, append_assoc}
use Rattle.std.specs.Bool.{MatchBool}
use Rattle.std.proofs.lemmas.Bool.{both_ways, MatchBool-at_false, le-ltb}
use Rattle.std.proofs.lemmas.List.{append-nil}
use Rattle.tree_digest.specs.declared.line.ListingLine.{ListingLine}
use Rattle.tree_digest.specs.declared.listing_error.ListingError.{ListingError}
use Rattle.tree_digest.specs.declared.listing_error.ListingError.TheVariants.{BadLine, NotSorted, NoParent, TooMany, FileTooLong, NoMemory}
use Rattle.tree_digest.specs.Lines.{line_text, is_too_long}
use Rattle.tree_digest.specs.Listings.{AllFollow, FailsAt, Fails, Fits, IsTooMany, Rises, listing_text, line_count}
use Rattle.listing_laws.proofs.OneText.{first_line_same}
use Rattle.listing_laws.proofs.Faults.{next_is_right}

-- a line's place has one fault
fails_once : (before : List ListingLine) (after : List ℕ) (e f : ListingError) → FailsAt before after e → FailsAt before after f → e ≡ f
fails_once before after (BadLine n) (BadLine m) a b = ap (λ k. BadLine k) (a.0 ∙ sym b.0)
fails_once before after (BadLine n) (FileTooLong m) a b = absurd (a.1 b.1.0 b.1.1)
fails_once before after (BadLine n) (NotSorted m) a b = absurd (a.1 b.1.0 b.1.1)
fails_once before after (BadLine n) (NoParent m) a b = absurd (a.1 b.1.0 b.1.1)
fails_once before after (BadLine n) (TooMany limit) a b = absurd b
fails_once before after (BadLine n) NoMemory a b = absurd b
fails_once before after (FileTooLong n) (BadLine m) a b = absurd (b.1 a.1.0 a.1.1)
fails_once before after (FileTooLong n) (FileTooLong m) a b = ap (λ k. FileTooLong k) (a.0 ∙ sym b.0)
fails_once before after (FileTooLong n) (NotSorted m) a b =
    let same = first_line_same b.1.0 a.1.0 b.1.1.0 a.1.1.0 b.1.1.1 a.1.1.1 (sym b.1.1.2 ∙ a.1.1.2) in
    absurd (both_ways _ (subst (λ (l : ListingLine). is_too_long l.entry ≡ false) same.0 b.1.2) a.1.2)
fails_once before after (FileTooLong n) (NoParent m) a b =
    let same = first_line_same b.1.0 a.1.0 b.1.1.0 a.1.1.0 b.1.1.1 a.1.1.1 (sym b.1.1.2 ∙ a.1.1.2) in
    absurd (both_ways _ (subst (λ (l : ListingLine). is_too_long l.entry ≡ false) same.0 b.1.2) a.1.2)
fails_once before after (FileTooLong n) (TooMany limit) a b = absurd b
fails_once before after (FileTooLong n) NoMemory a b = absurd b
fails_once before after (NotSorted n) (BadLine m) a b = absurd (b.1 a.1.0 a.1.1)
fails_once before after (NotSorted n) (FileTooLong m) a b =
    let same = first_line_same a.1.0 b.1.0 a.1.1.0 b.1.1.0 a.1.1.1 b.1.1.1 (sym a.1.1.2 ∙ b.1.1.2) in
    absurd (both_ways _ (subst (λ (l : ListingLine). is_too_long l.entry ≡ false) same.0 a.1.2) b.1.2)
fails_once before after (NotSorted n) (NotSorted m) a b = ap (λ k. NotSorted k) (a.0 ∙ sym b.0)
fails_once before after (NotSorted n) (NoParent m) a b =
    let same = first_line_same b.1.0 a.1.0 b.1.1.0 a.1.1.0 b.1.1.1 a.1.1.1 (sym b.1.1.2 ∙ a.1.1.2) in
    absurd (a.1.3 (subst (λ (l : ListingLine). Rises before l) same.0 b.1.3))
fails_once before after (NotSorted n) (TooMany limit) a b = absurd b
fails_once before after (NotSorted n) NoMemory a b = absurd b
fails_once before after (NoParent n) (BadLine m) a b = absurd (b.1 a.1.0 a.1.1)
fails_once before after (NoParent n) (FileTooLong m) a b =
    let same = first_line_same a.1.0 b.1.0 a.1.1.0 b.1.1.0 a.1.1.1 b.1.1.1 (sym a.1.1.2 ∙ b.1.1.2) in
    absurd (both_ways _ (subst (λ (l : ListingLine). is_too_long l.entry ≡ false) same.0 a.1.2) b.1.2)
fails_once before after (NoParent n) (NotSorted m) a b =
    let same = first_line_same a.1.0 b.1.0 a.1.1.0 b.1.1.0 a.1.1.1 b.1.1.1 (sym a.1.1.2 ∙ b.1.1.2) in
    absurd (b.1.3 (subst (λ (l : ListingLine). Rises before l) same.0 a.1.3))
fails_once before after (NoParent n) (NoParent m) a b = ap (λ k. NoParent k) (a.0 ∙ sym b.0)
fails_once before after (NoParent n) (TooMany limit) a b = absurd b
fails_once before after (NoParent n) NoMemory a b = absurd b
fails_once before after (TooMany limit) f a b = absurd a
fails_once before after NoMemory f a b = absurd a

-- a text that stops goes on with no line that may follow
stops_here : (known : List ListingLine) (line : ListingLine) (lines : List ListingLine) (a b : List ℕ) (error : ListingError) → AllFollow known (line ∷ lines)
    → a ≡ listing_text (line ∷ lines) ++ b → FailsAt (known ++ []) a error → ⊥
stops_here known line lines a b error all e fails =
    next_is_right known line (listing_text lines ++ b) error all.0
    (subst (λ t. FailsAt known t error) (e ∙ append_assoc (line_text line) (listing_text lines) b) (subst (λ k. FailsAt k a error) (append-nil known) fails))

stops_once : (known xs ys : List ListingLine) (a b : List ℕ) (e f : ListingError) → AllFollow known xs → AllFollow known ys → listing_text xs ++ a ≡ listing_text ys ++ b
    → FailsAt (known ++ xs) a e → FailsAt (known ++ ys) b f → e ≡ f
stops_once known [] [] a b e f all some same h k = fails_once (known ++ []) b e f (subst (λ t. FailsAt (known ++ []) t e) same h) k
stops_once known [] (y ∷ ys) a b e f all some same h k = absurd (stops_here known y ys a b e some same h)
stops_once known (x ∷ xs) [] a b e f all some same h k = absurd (stops_here known x xs b a f all (sym same) k)
stops_once known (x ∷ xs) (y ∷ ys) a b e f all some same h k =
    let first = first_line_same x y (listing_text xs ++ a) (listing_text ys ++ b) all.0.line some.0.line
    (sym (append_assoc (line_text x) (listing_text xs) a) ∙ same ∙ append_assoc (line_text y) (listing_text ys) b) in
    let next : AllFollow (known ++ y ∷ []) xs = subst (λ (l : ListingLine). AllFollow (known ++ l ∷ []) xs) first.0 all.1 in
    let here : FailsAt (known ++ y ∷ xs) a e = subst (λ (l : ListingLine). FailsAt (known ++ l ∷ xs) a e) first.0 h in
    stops_once (known ++ y ∷ []) xs ys a b e f next some.1 first.1
    (subst (λ l. FailsAt l a e) (sym (append_assoc known (y ∷ []) xs)) here)
    (subst (λ l. FailsAt l b f) (sym (append_assoc known (y ∷ []) ys)) k)

-- a text of too many lines or bytes has one fault
many_once : (text : List ℕ) (e f : ListingError) (b : Bool) → MatchBool b (e ≡ TooMany 65536) ((33554432 < length text) × (e ≡ TooMany 33554432))
    → MatchBool b (f ≡ TooMany 65536) ((33554432 < length text) × (f ≡ TooMany 33554432)) → e ≡ f
many_once text e f true h k = h ∙ sym k
many_once text e f false h k = h.1 ∙ sym k.1

-- a text that fits isn't one of too many
fits_not_many : (text : List ℕ) (e : ListingError) → Fits text → IsTooMany text e → ⊥
fits_not_many text e fits many =
    let long = MatchBool-at_false (e ≡ TooMany 65536) ((33554432 < length text) × (e ≡ TooMany 33554432)) (le-ltb 65536 (line_count text) fits.0) many in
    omega (arith, long.0, fits.1)

pub one_first_fault : (text : List ℕ) (e f : ListingError) → Fails text e → Fails text f → e ≡ f
one_first_fault text e f h k =
    ⊎_elim
    (λ many. ⊎_elim (λ more. many_once text e f (ltb 65536 (line_count text)) many more) (λ stops. absurd (fits_not_many text e stops.0 many)) k)
    (λ stops. ⊎_elim
    (λ more. absurd (fits_not_many text f stops.0 more))
    (λ other. stops_once [] stops.1.before other.1.before stops.1.after other.1.after e f stops.1.follow other.1.follow (sym stops.1.is ∙ other.1.is) stops.1.fault other.1.fault)
    k)
    h
