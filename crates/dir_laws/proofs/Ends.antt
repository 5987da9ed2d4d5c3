-- What the end of a listing tells of the stretch of events that it was open in.
use Rattle.std.proofs.Common.{◌≡◌, ◌⊎◌, inl, inr, ℕ, Bool, true, false, ◌||◌, cond, bytes_eq, List, [], ◌∷◌, ◌++◌, filter, refl, sym, ap, subst, ◌∙◌}
use Rattle.std.specs.List.{list_any, list_all}
use Rattle.std.proofs.lemmas.Slice.Eq.{bytes_eq-Decides}
use Rattle.plain_laws.proofs.Lists.{any_left, any_parts, any_right}
use Rattle.dir_model.specs.declared.event.Event.{Event}
use Rattle.dir_model.specs.State.{DirState}
use Rattle.dir_model.specs.Trace.{state_next}
use Rattle.dir_model.proofs.Lists.{and_left, and_right, or_map, or_true}
use Rattle.dir_laws.specs.Stretches.{Throughout, Sometime}

fewer : {X : Type 0} (keep t : X → Bool) (xs : List X) → list_any t (filter keep xs) ≡ true → list_any t xs ≡ true
fewer keep t [] h = h
fewer keep t (x ∷ xs) h = by (keep x) (λ later. fewer keep t xs later) h
  where
    by : (b : Bool) → (list_any t (filter keep xs) ≡ true → list_any t xs ≡ true) → list_any t (cond b (x ∷ filter keep xs) (filter keep xs)) ≡ true → (t x || list_any t xs) ≡ true
    by true later h = or_map (t x) (list_any t (filter keep xs)) (list_any t xs) later h
    by false later h = rw (later h) (or_true (t x))

-- what holds of each name holds of one that is there
pub all_called : {X : Type 0} (name_of : X → List ℕ) (t : List ℕ → Bool) (xs : List X) (name : List ℕ) → list_all (λ x. t (name_of x)) xs ≡ true → list_any (λ x. bytes_eq (name_of x) name) xs ≡ true → t name ≡ true
all_called name_of t [] name all there = cc
all_called name_of t (x ∷ xs) name all there = by (bytes_eq (name_of x) name) refl there (λ later. all_called name_of t xs name (and_right (t (name_of x)) (list_all (λ y. t (name_of y)) xs) all) later)
  where
    by : (b : Bool) → bytes_eq (name_of x) name ≡ b → (b || list_any (λ y. bytes_eq (name_of y) name) xs) ≡ true → (list_any (λ y. bytes_eq (name_of y) name) xs ≡ true → t name ≡ true) → t name ≡ true
    by true is there rest = ap t (sym ((bytes_eq-Decides (name_of x) name).0 is)) ∙ and_left (t (name_of x)) (list_all (λ y. t (name_of y)) xs) all
    by false is there rest = rest there

-- Each element has a name, and `now` is what stands in the listed place.
module _ {X : Type 0} (name_of : X → List ℕ) (now : DirState → List X) where
  -- what stood all the time, and what stood at some moment
  abbrev pub Noted : Type 0
  Noted = List X × List X

  -- one of them has the name
  abbrev pub has_called : List X → List ℕ → Bool
  has_called xs name = list_any (λ x. bytes_eq (name_of x) name) xs

  abbrev pub note : DirState → Noted → Noted
  note s l = (filter (λ x. has_called (now s) (name_of x)) l.0, l.1 ++ now s)

  -- each state before a change is noted, and the last one
  abbrev pub noted_along : DirState → List Event → (Event → Bool) → Noted → Noted
  noted_along s [] notes l = note s l
  noted_along s (e ∷ es) notes l = noted_along (state_next s e) es notes (cond (notes e) (note s l) l)

  -- a name that is among both stays
  kept_called : (these xs : List X) (name : List ℕ) → has_called xs name ≡ true → has_called these name ≡ true → has_called (filter (λ x. has_called these (name_of x)) xs) name ≡ true
  kept_called these [] name h there = cc
  kept_called these (x ∷ xs) name h there = by (bytes_eq (name_of x) name) refl (λ later. kept_called these xs name later there) h
    where
      step : (b : Bool) → has_called (filter (λ y. has_called these (name_of y)) xs) name ≡ true → has_called (cond b (x ∷ filter (λ y. has_called these (name_of y)) xs) (filter (λ y. has_called these (name_of y)) xs)) name ≡ true
      step true held = rw held (or_true (bytes_eq (name_of x) name))
      step false held = held

      by : (b : Bool) → bytes_eq (name_of x) name ≡ b → (has_called xs name ≡ true → has_called (filter (λ y. has_called these (name_of y)) xs) name ≡ true) → (b || has_called xs name) ≡ true → has_called (cond (has_called these (name_of x)) (x ∷ filter (λ y. has_called these (name_of y)) xs) (filter (λ y. has_called these (name_of y)) xs)) name ≡ true
      by true is later h =
          let same : name_of x ≡ name = (bytes_eq-Decides (name_of x) name).0 is in
          let kept : has_called these (name_of x) ≡ true = subst (λ (n : List ℕ). has_called these n ≡ true) (sym same) there in
          rw (kept, is) refl
      by false is later h = step (has_called these (name_of x)) (later h)

  module _ (name : List ℕ) where
    abbrev Stands : DirState → Type 0
    Stands s = has_called (now s) name ≡ true

    cond_holds : (b : Bool) (s : DirState) (l : Noted) → has_called l.0 name ≡ true → Stands s → has_called (cond b (note s l) l).0 name ≡ true
    cond_holds true s l h there = kept_called (now s) l.0 name h there
    cond_holds false s l h there = h

    -- a name that stood throughout is held at the end
    pub end_holds : (s : DirState) (es : List Event) (notes : Event → Bool) (l : Noted) → has_called l.0 name ≡ true → Throughout Stands s es → has_called (noted_along s es notes l).0 name ≡ true
    end_holds s [] notes l h there = kept_called (now s) l.0 name h there
    end_holds s (e ∷ es) notes l h there = end_holds (state_next s e) es notes (cond (notes e) (note s l) l) (cond_holds (notes e) s l h there.0) there.1

  module _ (t : X → Bool) where
    abbrev Known : Noted → Type 0
    Known l = list_any t (l.0 ++ l.1) ≡ true

    abbrev IsThere : DirState → Type 0
    IsThere s = list_any t (now s) ≡ true

    note_only : (s : DirState) (l : Noted) → Known (note s l) → Known l ⊎ IsThere s
    note_only s l h = by (any_parts t (note s l).0 (note s l).1 h)
      where
        parts : (list_any t l.1 ≡ true) ⊎ (list_any t (now s) ≡ true) → Known l ⊎ IsThere s
        parts (inl before) = inl (any_right t l.0 l.1 before)
        parts (inr here) = inr here

        by : (list_any t (note s l).0 ≡ true) ⊎ (list_any t (note s l).1 ≡ true) → Known l ⊎ IsThere s
        by (inl through) = inl (any_left t l.0 l.1 (fewer (λ x. has_called (now s) (name_of x)) t l.0 through))
        by (inr ever) = parts (any_parts t l.1 (now s) ever)

    cond_only : (b : Bool) (s : DirState) (l : Noted) → Known (cond b (note s l) l) → Known l ⊎ IsThere s
    cond_only true s l h = note_only s l h
    cond_only false s l h = inl h

    -- and what is known at the end was known before or stood at one of these moments
    pub end_only : (s : DirState) (es : List Event) (notes : Event → Bool) (l : Noted) → Known (noted_along s es notes l) → Known l ⊎ Sometime IsThere s es
    end_only s [] notes l h = note_only s l h
    end_only s (e ∷ es) notes l h = by (end_only (state_next s e) es notes (cond (notes e) (note s l) l) h)
      where
        here : Known l ⊎ IsThere s → Known l ⊎ Sometime IsThere s (e ∷ es)
        here (inl known) = inl known
        here (inr stood) = inr (inl stood)

        by : Known (cond (notes e) (note s l) l) ⊎ Sometime IsThere (state_next s e) es → Known l ⊎ Sometime IsThere s (e ∷ es)
        by (inl known) = here (cond_only (notes e) s l known)
        by (inr later) = inr (inr later)
