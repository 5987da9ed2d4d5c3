-- The later of several moments, whichever are compared first.
use Rattle.std.proofs.Common.{◌≡◌, ℕ, nat_le, Bool, true, false, cond, Option, Some, None, refl, sym, ap, ◌∙◌}
use Rattle.plain_laws.proofs.Numbers.{up, down}
use Rattle.dir_rules.specs.Seen.{later}

pub later_assoc : (a b c : Option ℕ) → later (later a b) c ≡ later a (later b c)
later_assoc None b c = refl
later_assoc (Some a) None c = refl
later_assoc (Some a) (Some b) None = by (nat_le a b)
  where
    by : (x : Bool) → later (cond x (Some b) (Some a)) None ≡ cond x (Some b) (Some a)
    by true = refl
    by false = refl
later_assoc (Some a) (Some b) (Some c) = by (nat_le a b) (nat_le b c) refl refl
  where
    by : (x y : Bool) → nat_le a b ≡ x → nat_le b c ≡ y → later (cond x (Some b) (Some a)) (Some c) ≡ later (Some a) (cond y (Some c) (Some b))
    by true true p q = ap (λ (z : Bool). cond z (Some c) (Some b)) q ∙ sym (ap (λ (z : Bool). cond z (Some c) (Some a)) (up a b c p q))
    by true false p q = ap (λ (z : Bool). cond z (Some c) (Some b)) q ∙ sym (ap (λ (z : Bool). cond z (Some b) (Some a)) p)
    by false true p q = refl
    by false false p q = ap (λ (z : Bool). cond z (Some c) (Some a)) (down a b c p q) ∙ sym (ap (λ (z : Bool). cond z (Some b) (Some a)) p)
