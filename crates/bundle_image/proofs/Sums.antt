-- A map has as many entries, of as long a text, as the lines that it was made of.
use Rattle.std.proofs.Common.{◌≡◌, ℕ, ◌+◌, Bool, true, false, cond, List, [], ◌∷◌, ◌++◌, length, Option, Some, None, nat_cmp, Less, sym, refl, ap, subst, ◌∙◌, inl, ⊎_elim, arith, length-append}
use Rattle.std.proofs.Math.Path.{ap₂}
use Rattle.std.specs.Cmp.{Equal-is}
use Rattle.std.specs.Cmp.Lexicographic.{slice_cmp}
use Rattle.std.specs.List.{AllByRecursion}
use Rattle.std.specs.List.Sorted.{IsStrictlySortedBy}
use Rattle.std.specs.Map.{keys_of}
use Rattle.std.specs.BTreeMap.{is_at}
use Rattle.std.proofs.lemmas.Bool.{cases_Bool, cond-true, cond-false}
use Rattle.std.proofs.lemmas.List.{length-map}
use Rattle.std.proofs.lemmas.Map.Entries.{lookup_tail}
use Rattle.std.proofs.lemmas.Map.Keys.{sorted_head, sorted_tail}
use Rattle.std.proofs.lemmas.Map.Lookups.{exact_bytes}
use Rattle.path_map.specs.declared.entry.Entry.{Entry}
use Rattle.path_map.specs.Entries.{Entries, entry_at}
use Rattle.path_map.proofs.Rising.{at_head}
use Rattle.tree_digest.specs.declared.line.ListingLine.{ListingLine}
use Rattle.tree_digest.specs.Lines.{line_text}
use Rattle.tree_digest.specs.Listings.{listing_text, entries_of, lines_of}
use Rattle.tree_digest.proofs.MapLines.{differ_if_less}
use Rattle.bundle_image.specs.Lines.{AreFewLines}
use Rattle.bundle_image.specs.Walks.{ComesBefore, AreInWalkOrder}
use Rattle.bundle_image.proofs.Look.{elsewhere, head_here, head_off}
use Rattle.bundle_image.proofs.Paths.{before_apart}

abbrev is_key : List ℕ → List ℕ → Bool
is_key q key = is_at (slice_cmp nat_cmp q) key

key_is : (q key : List ℕ) → is_key q key ≡ true → q ≡ key
key_is q key at = exact_bytes q key ((Equal-is _).0 at)

some_same : {x y : Entry} → Some x ≡ Some y → x ≡ y
some_same is = cc

-- where an entry stands among others
record Split (es : Entries) (path : List ℕ) (entry : Entry) : Type 0 where
  before : Entries
  after : Entries
  is : es ≡ before ++ (path, entry) ∷ after

split : (es : Entries) (path : List ℕ) (entry : Entry) → entry_at es path ≡ Some entry → Split es path entry
split [] path entry at = let bad : None ≡ Some entry = at in cc
split (e ∷ es) path entry at =
    ⊎_elim
    (λ here.
    let value : e.1 ≡ entry = some_same (sym (cond-true (is_key path e.0) (Some e.1) (entry_at es path) here) ∙ at) in
    let first : e ≡ (path, entry) = ap₂ (λ (k : List ℕ) (v : Entry). (k, v)) (sym (key_is path e.0 here)) value in
    record { before = []; after = es; is = ap (λ f. f ∷ es) first })
    (λ off.
    let more = split es path entry (sym (lookup_tail (is_at (slice_cmp nat_cmp path)) e es off) ∙ at) in
    record { before = e ∷ more.before; after = more.after; is = ap (λ fs. e ∷ fs) more.is })
    (cases_Bool (is_key path e.0))

all_mid : (P : List ℕ → Type 0) (a b : Entries) (e : List ℕ × Entry) → AllByRecursion P (keys_of (a ++ e ∷ b)) → P e.0 × AllByRecursion P (keys_of (a ++ b))
all_mid P [] b e all = all
all_mid P (f ∷ a) b e all = let more = all_mid P a b e all.1 in (more.0, (all.0, more.1))

-- the rest is in order too
rest_rises : (a b : Entries) (e : List ℕ × Entry) → IsStrictlySortedBy (slice_cmp nat_cmp) (keys_of (a ++ e ∷ b)) → IsStrictlySortedBy (slice_cmp nat_cmp) (keys_of (a ++ b))
unfolding IsStrictlySortedBy
rest_rises [] b e s = s.1
rest_rises (f ∷ a) b e s = ((all_mid (λ k. slice_cmp nat_cmp f.0 k ≡ Less) a b e s.0).1, rest_rises a b e s.1)

none_later : (es : Entries) (q : List ℕ) → AllByRecursion (λ k. slice_cmp nat_cmp q k ≡ Less) (keys_of es) → entry_at es q ≡ None
none_later [] q all = refl
none_later (e ∷ es) q all =
    lookup_tail (is_at (slice_cmp nat_cmp q)) e es (elsewhere q e.0 (λ same. differ_if_less q e.0 all.0 (sym same))) ∙ none_later es q all.1

-- and has what the whole has but the entry
rest_has : (a b : Entries) (e : List ℕ × Entry) (q : List ℕ) → IsStrictlySortedBy (slice_cmp nat_cmp) (keys_of (a ++ e ∷ b)) → entry_at (a ++ b) q ≡ cond (is_key q e.0) None (entry_at (a ++ e ∷ b) q)
rest_has [] b e q s =
    ⊎_elim
    (λ at.
    let none = subst (λ p. entry_at b p ≡ None) (sym (key_is q e.0 at)) (none_later b e.0 (sorted_head (slice_cmp nat_cmp) e.0 (keys_of b) s)) in
    none ∙ sym (cond-true (is_key q e.0) None (entry_at (e ∷ b) q) at))
    (λ off. sym (lookup_tail (is_at (slice_cmp nat_cmp q)) e b off) ∙ sym (cond-false (is_key q e.0) None (entry_at (e ∷ b) q) off))
    (cases_Bool (is_key q e.0))
rest_has (f ∷ a) b e q s =
    let less = (all_mid (λ k. slice_cmp nat_cmp f.0 k ≡ Less) a b e (sorted_head (slice_cmp nat_cmp) f.0 (keys_of (a ++ e ∷ b)) s)).0 in
    let more = rest_has a b e q (sorted_tail (slice_cmp nat_cmp) f.0 (keys_of (a ++ e ∷ b)) s) in
    ⊎_elim
    (λ at.
    let off : is_key q e.0 ≡ false = elsewhere q e.0 (λ same. differ_if_less f.0 e.0 less (sym (key_is q f.0 at) ∙ sym same)) in
    cond-true (is_key q f.0) (Some f.1) (entry_at (a ++ b) q) at
    ∙ sym (cond-false (is_key q e.0) None (entry_at (f ∷ (a ++ e ∷ b)) q) off ∙ cond-true (is_key q f.0) (Some f.1) (entry_at (a ++ e ∷ b) q) at))
    (λ off.
    lookup_tail (is_at (slice_cmp nat_cmp q)) f (a ++ b) off ∙ more
    ∙ ap (λ o. cond (is_key q e.0) None o) (sym (lookup_tail (is_at (slice_cmp nat_cmp q)) f (a ++ e ∷ b) off)))
    (cases_Bool (is_key q f.0))

none_here : (lines : List ListingLine) (path : List ℕ) → AllByRecursion (λ later. ComesBefore path later.path) lines → entry_at (entries_of lines) path ≡ None
none_here [] path all = refl
none_here (l ∷ lines) path all =
    head_off l lines path (elsewhere path l.path (λ same. before_apart path l.path all.0 (inl (sym same)))) ∙ none_here lines path all.1

-- as many, and as long a text
record SameSums (es : Entries) (lines : List ListingLine) : Type 0 where
  count : length es ≡ length lines
  size : length (listing_text (lines_of es)) ≡ length (listing_text lines)

text_mid : (a b : Entries) (line : ListingLine) → length (listing_text (lines_of (a ++ (line.path, line.entry) ∷ b))) ≡ length (line_text line) + length (listing_text (lines_of (a ++ b)))
text_mid [] b line = length-append (line_text line) (listing_text (lines_of b))
text_mid (e ∷ a) b line =
    let first = line_text (record { path = e.0; entry = e.1 }) in
    omega (arith, text_mid a b line, length-append first (listing_text (lines_of (a ++ (line.path, line.entry) ∷ b))), length-append first (listing_text (lines_of (a ++ b))))

same_sums : (lines : List ListingLine) (es : Entries) → IsStrictlySortedBy (slice_cmp nat_cmp) (keys_of es) → AreInWalkOrder lines → ((q : List ℕ) → entry_at es q ≡ entry_at (entries_of lines) q) → SameSums es lines
same_sums [] [] rising order same = record { count = refl; size = refl }
same_sums [] (e ∷ es) rising order same = let bad : Some e.1 ≡ None = sym (at_head e es) ∙ same e.0 in cc
same_sums (l ∷ lines) es rising order same =
    let place = split es l.path l.entry (same l.path ∙ head_here l lines l.path refl) in
    let whole = place.before ++ (l.path, l.entry) ∷ place.after in
    let sorted = subst (λ fs. IsStrictlySortedBy (slice_cmp nat_cmp) (keys_of fs)) place.is rising in
    let more = same_sums lines (place.before ++ place.after) (rest_rises place.before place.after (l.path, l.entry) sorted) order.1
    (λ q. rest_has place.before place.after (l.path, l.entry) q sorted
    ∙ ap (λ (o : Option Entry). cond (is_key q l.path) None o) (ap (λ fs. entry_at fs q) (sym place.is) ∙ same q) ∙ without q) in
    record {
      count = ap length place.is ∙ omega (arith, length-append place.before ((l.path, l.entry) ∷ place.after), length-append place.before place.after, more.count);
      size = ap (λ fs. length (listing_text (lines_of fs))) place.is ∙ omega (arith, text_mid place.before place.after l, length-append (line_text l) (listing_text lines), more.size);
    }
  where
    without : (q : List ℕ) → cond (is_key q l.path) None (entry_at (entries_of (l ∷ lines)) q) ≡ entry_at (entries_of lines) q
    without q =
        ⊎_elim
        (λ at. cond-true (is_key q l.path) None (entry_at (entries_of (l ∷ lines)) q) at ∙ sym (subst (λ p. entry_at (entries_of lines) p ≡ None) (sym (key_is q l.path at)) (none_here lines l.path order.0)))
        (λ off. cond-false (is_key q l.path) None (entry_at (entries_of (l ∷ lines)) q) off ∙ head_off l lines q off)
        (cases_Bool (is_key q l.path))

abbrev line_of : List ℕ × Entry → ListingLine
line_of e = record { path = e.0; entry = e.1 }

pub few_in_map : (es : Entries) (lines : List ListingLine) → IsStrictlySortedBy (slice_cmp nat_cmp) (keys_of es) → AreInWalkOrder lines
    → ((q : List ℕ) → entry_at es q ≡ entry_at (entries_of lines) q) → AreFewLines lines → AreFewLines (lines_of es)
few_in_map es lines rising order same few =
    let sums = same_sums lines es rising order same in
    record { count = omega (arith, few.count, sums.count, length-map es (λ (e : List ℕ × Entry). line_of e)); size = omega (arith, few.size, sums.size) }
