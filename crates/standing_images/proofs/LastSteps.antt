-- The last own event of a stretch.
use Rattle.std.proofs.Common.{◌≡◌, ◌⊎◌, inl, inr, ℕ, Bool, true, false, List, [], ◌∷◌, ◌++◌, refl, ap, ◌∙◌}
use Rattle.plain_laws.proofs.Booleans.{clash}
use Rattle.dir_model.specs.declared.event.Event.{Event}
use Rattle.dir_model.specs.Calls.{is_foreign}

-- each own event of the stretch is the last one or comes before it
pub record LastOwn (me : ℕ) (more : List Event) : Type 0 where
  pub before : List Event
  pub step : Event
  pub rest : List Event
  pub is : more ≡ (before ++ step ∷ []) ++ rest
  pub own : is_foreign me step ≡ false
  pub covers : (u v : List Event) (e : Event) → more ≡ u ++ e ∷ v → is_foreign me e ≡ false →
      (w : List Event) × (before ++ step ∷ [] ≡ u ++ e ∷ w)

abbrev NoneOwn : ℕ → List Event → Type 0
NoneOwn me more = (u v : List Event) (e : Event) → more ≡ u ++ e ∷ v → is_foreign me e ≡ false → ⊥

none_yet : (me : ℕ) → NoneOwn me []
none_yet me [] v e is own = cc
none_yet me (a ∷ u) v e is own = cc

none_more : (me : ℕ) (a : Event) (more : List Event) → is_foreign me a ≡ true → NoneOwn me more → NoneOwn me (a ∷ more)
none_more me a more foreign none [] v e is own =
    let same : a ≡ e = cc in
    clash (is_foreign me a) foreign (ap (is_foreign me) same ∙ own)
none_more me a more foreign none (b ∷ u) v e is own =
    let rest : more ≡ u ++ e ∷ v = cc in
    none u v e rest own

covers_one : (me : ℕ) (a : Event) (more : List Event) → NoneOwn me more → (u v : List Event) (e : Event) → a ∷ more ≡ u ++ e ∷ v →
    is_foreign me e ≡ false → (w : List Event) × (a ∷ [] ≡ u ++ e ∷ w)
covers_one me a more none [] v e is own =
    let same : a ≡ e = cc in
    ([], ap (λ (x : Event). let l : List Event = x ∷ [] in l) same)
covers_one me a more none (b ∷ u) v e is own =
    let rest : more ≡ u ++ e ∷ v = cc in
    absurd (none u v e rest own)

covers_more : (me : ℕ) (a : Event) (more : List Event) (l : LastOwn me more) (u v : List Event) (e : Event) → a ∷ more ≡ u ++ e ∷ v →
    is_foreign me e ≡ false → (w : List Event) × (a ∷ (l.before ++ l.step ∷ []) ≡ u ++ e ∷ w)
covers_more me a more l [] v e is own =
    let same : a ≡ e = cc in
    (l.before ++ l.step ∷ [], ap (λ (x : Event). x ∷ (l.before ++ l.step ∷ [])) same)
covers_more me a more l (b ∷ u) v e is own =
    let same : a ≡ b = cc in
    let rest : more ≡ u ++ e ∷ v = cc in
    let c = l.covers u v e rest own in
    (c.0, ap (λ (x : Event). x ∷ (l.before ++ l.step ∷ [])) same ∙ ap (λ (h : List Event). b ∷ h) c.1)

find_last : (me : ℕ) (more : List Event) → NoneOwn me more ⊎ LastOwn me more
find_last me [] = inl (none_yet me)
find_last me (a ∷ more) = by (is_foreign me a) refl (find_last me more)
  where
    by : (b : Bool) → is_foreign me a ≡ b → NoneOwn me more ⊎ LastOwn me more → NoneOwn me (a ∷ more) ⊎ LastOwn me (a ∷ more)
    by b is (inr l) = inr (record {
      before = a ∷ l.before;
      step = l.step;
      rest = l.rest;
      is = ap (λ (h : List Event). a ∷ h) l.is;
      own = l.own;
      covers = covers_more me a more l;
    })
    by true foreign (inl none) = inl (none_more me a more foreign none)
    by false own (inl none) =
        inr (record { before = []; step = a; rest = more; is = refl; own = own; covers = covers_one me a more none })

-- where there is an own event, there is a last one
pub last_own : (me : ℕ) (more u v : List Event) (e : Event) → more ≡ u ++ e ∷ v → is_foreign me e ≡ false → LastOwn me more
last_own me more u v e is own = by (find_last me more)
  where
    by : NoneOwn me more ⊎ LastOwn me more → LastOwn me more
    by (inl none) = absurd (none u v e is own)
    by (inr l) = l

-- what comes before an event of a list comes before the last one, or the event is the last one
pub fits_before : (x u w : List Event) (s e : Event) → x ++ s ∷ [] ≡ u ++ e ∷ w → (v : List Event) × (x ≡ u ++ v)
fits_before x [] w s e is = (x, refl)
fits_before [] (a ∷ []) w s e is = cc
fits_before [] (a ∷ (b ∷ u)) w s e is = cc
fits_before (b ∷ x) (a ∷ u) w s e is =
    let same : b ≡ a = cc in
    let rest : x ++ s ∷ [] ≡ u ++ e ∷ w = cc in
    let f = fits_before x u w s e rest in
    (f.0, ap (λ (z : Event). z ∷ x) same ∙ ap (λ (h : List Event). a ∷ h) f.1)
