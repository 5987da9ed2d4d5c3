-- The moment of a mark, by the number that its digits stand for.
use Rattle.std.proofs.Common.{◌≡◌, ◌+◌, ◌&&◌, ℕ, Bool, true, false, cond, nat_le, bytes_eq, Option, Some, None, List, length, drop, refl, sym, ap, ◌∙◌}
use Rattle.dir_rules.specs.Marks.{mark, number_of, mark_moment}
use Rattle.marks.proofs.Texts.{unlike}

module _ (text name : List ℕ) (n : ℕ) (is : n ≡ number_of (drop (length text) name)) where
  moment_at : cond (bytes_eq name (mark text n) && nat_le n 18446744073709551615) (Some n) None ≡ mark_moment text name
  moment_at = ap (λ (m : ℕ). cond (bytes_eq name (mark text m) && nat_le m 18446744073709551615) (Some m) None) is

  pub marked : true ≡ bytes_eq name (mark text n) → cond (nat_le n 18446744073709551615) (Some n) None ≡ mark_moment text name
  marked h = ap (λ (b : Bool). cond (b && nat_le n 18446744073709551615) (Some n) None) h ∙ moment_at

  pub unmarked : false ≡ bytes_eq name (mark text n) → None ≡ mark_moment text name
  unmarked h = ap (λ (b : Bool). cond (b && nat_le n 18446744073709551615) (Some n) None) h ∙ moment_at

pub no_moment : (text name : List ℕ) → (length name ≡ length text + 20 → ⊥) → None ≡ mark_moment text name
no_moment text name other = unmarked text name (number_of (drop (length text) name)) refl (sym (unlike name text 20 (number_of (drop (length text) name)) other))
