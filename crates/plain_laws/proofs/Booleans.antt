-- Laws of tests.
use Rattle.std.proofs.Common.{◌≡◌, Bool, true, false, not, ◌&&◌, ◌||◌, cond, refl, sym}

-- one of two, or both

pub or_none : (b : Bool) → (b || false) ≡ b
or_none true = refl
or_none false = refl

pub or_nothing : (b : Bool) → (b || false) ≡ true → b ≡ true
or_nothing true h = refl
or_nothing false h = cc

pub or_assoc : (a b c : Bool) → (a || (b || c)) ≡ ((a || b) || c)
or_assoc true b c = refl
or_assoc false b c = refl

pub own_kept : (a b : Bool) → b ≡ false → (a || not b) ≡ true
own_kept true b h = refl
own_kept false b h = rw h refl

-- both of two

pub off_right : (a b : Bool) → b ≡ false → (a && b) ≡ false
off_right true b h = h
off_right false b h = refl

pub no_more : (b : Bool) → (b && false) ≡ true → ⊥
no_more true h = cc
no_more false h = cc

pub never_both : (b c : Bool) → not ((b && false) && c) ≡ true
never_both true c = refl
never_both false c = refl

pub never_deletes : (b : Bool) → ((b && false) || false) ≡ false
never_deletes true = refl
never_deletes false = refl

-- the same test, and the choice between two

pub same_test : (a b : Bool) → (a ≡ true → b ≡ true) → (b ≡ true → a ≡ true) → a ≡ b
same_test true b f g = sym (f refl)
same_test false true f g = g refl
same_test false false f g = refl

pub not_twice : (b : Bool) → not (not b) ≡ true → b ≡ true
not_twice true h = refl
not_twice false h = cc

pub cond_both : (b x y : Bool) → x ≡ true → y ≡ true → cond b x y ≡ true
cond_both true x y p q = p
cond_both false x y p q = q

-- no test passes and doesn't

pub clash : {X : Type 0} (b : Bool) → b ≡ true → b ≡ false → X
clash true h k = absurd (cc)
clash false h k = absurd (cc)

pub over : {X : Type 0} (b : Bool) → b ≡ true → not b ≡ true → X
over true h k = cc
over false h k = cc

pub unused : {X : Type 0} → true ≡ false → X
unused {X} clash = cc
