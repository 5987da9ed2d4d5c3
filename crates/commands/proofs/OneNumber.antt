-- In a conforming execution the folder that stands at a place of a pod has one number at all times.
use Rattle.std.proofs.Common.{◌≡◌, ◌⊎◌, inl, inr, ℕ, true, Option, Some, is_some, List, [], ◌∷◌, ◌++◌, append-nil, refl, sym, ap, subst, ◌∙◌}
use Rattle.plain_laws.proofs.Numbers.{at_most_back}
use Rattle.dir_model.specs.declared.event.Event.{Event}
use Rattle.dir_model.specs.declared.spot.Spot.{Spot}
use Rattle.dir_model.specs.Areas.{rank, is_stage}
use Rattle.dir_model.specs.State.{folder_at, stands}
use Rattle.dir_model.specs.Trace.{state_after}
use Rattle.lifecycle.specs.Executions.{IsConforming}
use Rattle.lifecycle.proofs.Stays.{stays_between}
use Rattle.pod_locks.specs.Work.{Grew}

-- of two moments of one trace, one comes first
ordered : (a b x y : List Event) → a ++ x ≡ b ++ y → Grew a b ⊎ Grew b a
ordered [] b x y same = inl (record { more = b; grown = refl })
ordered (e ∷ a) [] x y same = inr (record { more = e ∷ a; grown = refl })
ordered (e ∷ a) (f ∷ b) x y same =
    let head : e ≡ f = cc in
    let rest : a ++ x ≡ b ++ y = cc in
    elim (ordered a b x y rest) [
      | inl g ↦ inl (record { more = g.more; grown = ap (λ (h : List Event). f ∷ h) g.grown ∙ ap (λ (z : Event). z ∷ (a ++ g.more)) (sym head) })
      | inr g ↦ inr (record { more = g.more; grown = ap (λ (h : List Event). e ∷ h) g.grown ∙ ap (λ (z : Event). z ∷ (b ++ g.more)) head })
    ]

module _ (new : List Event) (conforming : IsConforming new) (spot : Spot) (stage : is_stage spot.area ≡ true) where
  one_later : (a b : List Event) → Grew a b → Grew b new → (f k : ℕ) → folder_at (state_after a).namespace spot ≡ Some f → folder_at (state_after b).namespace spot ≡ Some k → f ≡ k
  one_later a b x y f k first last =
      let end : b ≡ (a ++ x.more) ++ [] = x.grown ∙ sym (append-nil (a ++ x.more)) in
      let whole : new ≡ ((a ++ x.more) ++ []) ++ y.more = y.grown ∙ ap (λ (h : List Event). h ++ y.more) end in
      let there : stands (state_after ((a ++ x.more) ++ [])).namespace spot ≡ true = subst (λ (h : List Event). stands (state_after h).namespace spot ≡ true) end (ap (λ (o : Option ℕ). is_some o) last) in
      let still = stays_between new conforming spot f a x.more [] y.more (at_most_back (rank spot.area) 5 stage) whole first there in
      let here : folder_at (state_after b).namespace spot ≡ Some f = subst (λ (h : List Event). folder_at (state_after h).namespace spot ≡ Some f) (sym x.grown) still in
      let same : Some f ≡ Some k = sym here ∙ last in cc

  pub one_number : (a b : List Event) → Grew a new → Grew b new → (f k : ℕ) → folder_at (state_after a).namespace spot ≡ Some f → folder_at (state_after b).namespace spot ≡ Some k → f ≡ k
  one_number a b x y f k first last = elim (ordered a b x.more y.more (sym x.grown ∙ y.grown)) [ inl g ↦ one_later a b g y f k first last | inr g ↦ sym (one_later b a g x k f last first) ]
