-- Texts, names, places and whole numbers: what their forms give, and that they are read again.
use Rattle.std.proofs.Common.{◌≡◌, ◌≢◌, ◌≤◌, ℕ, Bool, true, false, List, [], ◌∷◌, length, Option, Some, None, nat_le, refl, ap}
use Rattle.std.specs.Prelude.{if◌then◌else◌, ◌&&◌}
use Rattle.std.proofs.lemmas.Bool.{and_parts, and_from, leb-true, le-leb}
use Rattle.serde_json.specs.Data.{string, Num, unsigned, negative, float}
use Rattle.ac_types.specs.FieldForms.{text, filled, filled_text, whole, at_most}
use Rattle.ac_types.specs.NameForms.{words, if_words, filled_name, filled_identifier, identifier}
use Rattle.ac_types.specs.Names.{are_words, is_hyphen, is_separator, IsAcName, IsAcIdentifier}
use Rattle.ac_types.specs.Outcomes.{reads, fails}
use Rattle.ac_types.specs.declared.fault.FaultKind.TheVariants.{OutOfRange}
use Rattle.app_section.specs.AppObject.{whole_data}
use Rattle.app_section.specs.AppRules.{IsPlace}
use Rattle.app_section.specs.Places.{held, place_text, place_field, filled_place, is_rooted}
use Rattle.app_section.proofs.PlacesAgain.{place_again, rooted_place}
use Rattle.app_section.proofs.Readings.{GivesOnly, Gives, Rereads, gives, gives_none, gives_then, then_reads}

-- ---- texts

-- nothing is asked of a text
abbrev pub IsText : List ℕ → Type 0
IsText t = Unit {0}

pub text_given : Gives IsText text
text_given = record { law = λ at d t h. tt }

pub text_again : Rereads IsText text string
text_again = record { law = λ at t is. refl; shown = λ t is. refl; whole = λ t is. refl }

abbrev pub IsFilled : List ℕ → Type 0
IsFilled t = t ≢ []

filled_given : (at t : List ℕ) → GivesOnly IsFilled (filled at t)
filled_given at [] = gives_none IsFilled at _
filled_given at (b ∷ bs) = gives IsFilled (b ∷ bs) (λ none. cc)

pub filled_text_given : Gives IsFilled filled_text
filled_text_given = record { law = λ at d. gives_then _ _ (text_given.law at d) λ t u. filled_given at t }

pub filled_reads : (at t : List ℕ) → IsFilled t → filled at t ≡ reads t
filled_reads at [] is = absurd (is refl)
filled_reads at (b ∷ bs) is = refl

pub filled_text_again : Rereads IsFilled filled_text string
filled_text_again = record { law = filled_reads; shown = λ t is. refl; whole = λ t is. refl }

-- ---- names

-- words of at most that length
abbrev AreWords : (ℕ → Bool) → ℕ → List ℕ → Type 0
AreWords separates limit t = (are_words separates t ≡ true) × (length t ≤ limit)

words_given : (separates : ℕ → Bool) (limit : ℕ) (at t : List ℕ) → GivesOnly (AreWords separates limit) (words separates limit at t)
words_given separates limit at [] = gives_none (AreWords separates limit) at _
words_given separates limit at (b ∷ bs) = by (are_words separates (b ∷ bs) && nat_le (length (b ∷ bs)) limit) refl
  where
    by : (good : Bool) → (are_words separates (b ∷ bs) && nat_le (length (b ∷ bs)) limit) ≡ good
        → GivesOnly (AreWords separates limit) (if_words at good (b ∷ bs))
    by true is =
        let parts = and_parts (are_words separates (b ∷ bs)) (nat_le (length (b ∷ bs)) limit) is in
        gives (AreWords separates limit) (b ∷ bs) (parts.0, leb-true (length (b ∷ bs)) limit parts.1)
    by false is = gives_none (AreWords separates limit) at _

words_again : (separates : ℕ → Bool) (limit : ℕ) (at t : List ℕ) → AreWords separates limit t → words separates limit at t ≡ reads t
words_again separates limit at [] is = let none : ⊥ = cc in absurd none
words_again separates limit at (b ∷ bs) is =
    ap (λ good. if_words at good (b ∷ bs))
    (and_from (are_words separates (b ∷ bs)) (nat_le (length (b ∷ bs)) limit) is.0 (le-leb (length (b ∷ bs)) limit is.1))

words_filled : (separates : ℕ → Bool) (limit : ℕ) (t : List ℕ) → AreWords separates limit t → IsFilled t
words_filled separates limit [] is = let none : ⊥ = cc in absurd none
words_filled separates limit (b ∷ bs) is = λ none. cc

pub name_given : Gives IsAcName filled_name
name_given = record { law = λ at d. gives_then _ _ (filled_text_given.law at d) λ t u. words_given is_hyphen 200 at t }

pub name_again : Rereads IsAcName filled_name string
name_again = record {
  law = λ at t is. then_reads _ _ t t (filled_reads at t (words_filled is_hyphen 200 t is)) (words_again is_hyphen 200 at t is);
  shown = λ t is. refl;
  whole = λ t is. refl;
}

pub filled_identifier_given : Gives IsAcIdentifier filled_identifier
filled_identifier_given = record {
  law = λ at d. gives_then _ _ (filled_text_given.law at d) λ t u. words_given is_separator 1024 at t;
}

pub filled_identifier_again : Rereads IsAcIdentifier filled_identifier string
filled_identifier_again = record {
  law = λ at t is. then_reads _ _ t t (filled_reads at t (words_filled is_separator 1024 t is)) (words_again is_separator 1024 at t is);
  shown = λ t is. refl;
  whole = λ t is. refl;
}

pub identifier_given : Gives IsAcIdentifier identifier
identifier_given = record { law = λ at d. gives_then _ _ (text_given.law at d) λ t u. words_given is_separator 1024 at t }

pub identifier_again : Rereads IsAcIdentifier identifier string
identifier_again = record { law = λ at t is. words_again is_separator 1024 at t is; shown = λ t is. refl; whole = λ t is. refl }

-- ---- places

pub held_given : (P : List ℕ → Type 0) (at : List ℕ) (o : Option (List ℕ)) → ((t : List ℕ) → o ≡ Some t → P t) → GivesOnly P (held at o)
held_given P at None is = gives_none P at _
held_given P at (Some t) is = gives P t (is t refl)

place_filled : (t : List ℕ) → is_rooted t ≡ true → IsFilled t
place_filled [] is = let none : ⊥ = cc in absurd none
place_filled (b ∷ bs) is = λ none. cc

pub place_given : Gives IsPlace place_field
place_given = record {
  law = λ at d. gives_then _ _ (text_given.law at d) λ t u. held_given IsPlace at (place_text t) (λ p is. place_again t p is);
}

pub place_field_again : Rereads IsPlace place_field string
place_field_again = record { law = λ at t is. ap (held at) is; shown = λ t is. refl; whole = λ t is. refl }

pub filled_place_given : Gives IsPlace filled_place
filled_place_given = record {
  law = λ at d. gives_then _ _ (filled_text_given.law at d) λ t u. held_given IsPlace at (place_text t) (λ p is. place_again t p is);
}

pub filled_place_again : Rereads IsPlace filled_place string
filled_place_again = record {
  law = λ at t is. then_reads _ _ t t (filled_reads at t (place_filled t (rooted_place t t is))) (ap (held at) is);
  shown = λ t is. refl;
  whole = λ t is. refl;
}

-- ---- whole numbers

at_most_given : (max : ℕ) (at : List ℕ) (n : Num) → GivesOnly (λ m. m ≤ max) (at_most max at n)
at_most_given max at (unsigned n) = by (nat_le n max) refl
  where
    by : (within : Bool) → nat_le n max ≡ within → GivesOnly (λ m. m ≤ max) (if within then reads n else fails at OutOfRange)
    by true is = gives (λ m. m ≤ max) n (leb-true n max is)
    by false is = gives_none (λ m. m ≤ max) at _
at_most_given max at (negative z) = gives_none (λ m. m ≤ max) at _
at_most_given max at (float x) = gives_none (λ m. m ≤ max) at _

pub whole_given : (max : ℕ) → Gives (λ n. n ≤ max) (whole max)
whole_given max = record { law = λ at d. gives_then {Q = λ n. Unit {0}} _ _ (λ n h. tt) λ n u. at_most_given max at n }

pub whole_again : (max : ℕ) → Rereads (λ n. n ≤ max) (whole max) whole_data
whole_again max = record {
  law = λ at n is. ap (λ within. if within then reads n else fails at OutOfRange) (le-leb n max is);
  shown = λ n is. refl;
  whole = λ n is. refl;
}
