-- Fields that are put in the order of their names stand in that order.
use Rattle.std.proofs.Common.{◌≡◌, ℕ, Bool, true, false, ◌&&◌, List, [], ◌∷◌, ◌++◌, Option, Some, None, Ordering, Less, Equal, Greater, refl, sym, ◌∙◌, ap, append_assoc, true≢false}
use Rattle.std.specs.List.{list_all}
use Rattle.std.specs.Ordering.{nat_cmp, match_ordering}
use Rattle.std.specs.Cmp.Lexicographic.{slice_cmp}
use Rattle.serde_json.specs.Data.{Data, Members, no_members, member, put}
use Rattle.app_section.specs.Objects.{Field, written, put_field, put_all}

-- the name comes after that of the field, in byte order
abbrev pub comes_after : List ℕ → Field → Bool
comes_after name f = match_ordering (slice_cmp nat_cmp name f.0) false false true

-- each name comes after all those before it
abbrev pub ordered_after : List Field → List Field → Bool
ordered_after done [] = true
ordered_after done (f ∷ fields) = list_all (comes_after f.0) done && ordered_after (done ++ f ∷ []) fields

both : (a b : Bool) → (a && b) ≡ true → (a ≡ true) × (b ≡ true)
both true b h = (refl, h)
both false b h = absurd (true≢false (sym h))

greater : (o : Ordering) → match_ordering o false false true ≡ true → o ≡ Greater
greater Less h = absurd (true≢false (sym h))
greater Equal h = absurd (true≢false (sym h))
greater Greater h = refl

-- a name that comes after all others goes last
put_last : (name : List ℕ) (d : Data) (fields : List Field) → list_all (comes_after name) fields ≡ true
    → put name d (written fields) ≡ written (fields ++ (name, Some d) ∷ [])
put_last name d [] h = refl
put_last name d ((other, None) ∷ fields) h = put_last name d fields (both (comes_after name (other, None)) _ h).1
put_last name d ((other, Some e) ∷ fields) h =
    let parts = both (comes_after name (other, Some e)) _ h in
    let above : slice_cmp nat_cmp name other ≡ Greater = greater (slice_cmp nat_cmp name other) parts.0 in
    rw above (ap (member other e) (put_last name d fields parts.1))

left_out : (name : List ℕ) (fields : List Field) → written fields ≡ written (fields ++ (name, None) ∷ [])
left_out name [] = refl
left_out name ((other, None) ∷ fields) = left_out name fields
left_out name ((other, Some e) ∷ fields) = ap (member other e) (left_out name fields)

one_more : (name : List ℕ) (value : Option Data) (fields : List Field) → list_all (comes_after name) fields ≡ true
    → put_field name value (written fields) ≡ written (fields ++ (name, value) ∷ [])
unfolding put_field
one_more name None fields h = left_out name fields
one_more name (Some d) fields h = put_last name d fields h

pub all_more : (done fields : List Field) → ordered_after done fields ≡ true → put_all fields (written done) ≡ written (done ++ fields)
all_more done [] h = ap written (append_nil done)
  where
    append_nil : (fs : List Field) → fs ≡ fs ++ []
    append_nil [] = refl
    append_nil (f ∷ fs) = ap (λ (gs : List Field). f ∷ gs) (append_nil fs)
all_more done ((name, value) ∷ fields) h =
    let parts = both (list_all (comes_after name) done) _ h in
    ap (put_all fields) (one_more name value done parts.0)
    ∙ all_more (done ++ (name, value) ∷ []) fields parts.1
    ∙ ap written (append_assoc done ((name, value) ∷ []) fields)

-- the members that are put one after the other are those that are written
pub in_order : (fields : List Field) → ordered_after [] fields ≡ true → put_all fields no_members ≡ written fields
in_order fields h = all_more [] fields h

-- one member more, of a value that is known
pub put_next : (name : List ℕ) {v w : Option Data} {before after ms : Members} → v ≡ w → before ≡ ms
    → after ≡ put_field name v before → after ≡ put_field name w ms
put_next name {v} {w} {before} {after} {ms} value so_far step =
    step ∙ ap (λ (x : Option Data). put_field name x before) value ∙ ap (put_field name w) so_far
