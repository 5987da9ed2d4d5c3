-- What is known of a result, carried on.
use Rattle.std.proofs.Common.{◌≡◌, Result, Ok, Err, refl, subst}
use Rattle.std.specs.Prelude.{IfOk, IfErr}

pub if_ok : {A E : Type 0} (P Q : A → Type 0) (r : Result A E) → ((a : A) → P a → Q a) → IfOk r P → IfOk r Q
if_ok P Q (Ok a) f h = f a h
if_ok P Q (Err e) f h = tt

pub if_err : {A E : Type 0} (P Q : E → Type 0) (r : Result A E) → ((e : E) → P e → Q e) → IfErr r P → IfErr r Q
if_err P Q (Ok a) f h = tt
if_err P Q (Err e) f h = f e h

pub ok_both : {A E : Type 0} (P Q R : A → Type 0) (r : Result A E) → ((a : A) → P a → Q a → R a) → IfOk r P → IfOk r Q → IfOk r R
ok_both P Q R (Ok a) f p q = f a p q
ok_both P Q R (Err e) f p q = tt

pub ok_three : {A E : Type 0} (P Q R S : A → Type 0) (r : Result A E) → ((a : A) → P a → Q a → R a → S a) → IfOk r P → IfOk r Q → IfOk r R → IfOk r S
ok_three P Q R S (Ok a) f p q h = f a p q h
ok_three P Q R S (Err e) f p q h = tt

pub err_both : {A E : Type 0} (P Q R : E → Type 0) (r : Result A E) → ((e : E) → P e → Q e → R e) → IfErr r P → IfErr r Q → IfErr r R
err_both P Q R (Ok a) f p q = tt
err_both P Q R (Err e) f p q = f e p q

-- of each value alike, and of each error
pub ok_all : {A E : Type 0} (Q : A → Type 0) (r : Result A E) → ((a : A) → Q a) → IfOk r Q
ok_all Q (Ok a) all = all a
ok_all Q (Err e) all = tt

pub err_all : {A E : Type 0} (Q : E → Type 0) (r : Result A E) → ((e : E) → Q e) → IfErr r Q
err_all Q (Ok a) all = tt
err_all Q (Err e) all = all e

pub any_ok : {A E : Type 0} (P : Type 0) (r : Result A E) → P → IfOk r (λ a. P)
any_ok P (Ok a) h = h
any_ok P (Err e) h = tt

pub any_err : {A E : Type 0} (P : Type 0) (r : Result A E) → P → IfErr r (λ e. P)
any_err P (Ok a) h = tt
any_err P (Err e) h = h

-- the same error in another answer
pub err_same : {A B E : Type 0} (Q : E → Type 0) (r : Result A E) (other : Result B E) → ((e : E) → other ≡ Err e → r ≡ Err e) → IfErr r Q → IfErr other Q
err_same Q r (Ok b) f h = tt
err_same Q r (Err e) f h = subst (λ x. IfErr x Q) (f e refl) h

pub passed_on : {A B E : Type 0} (P Q : E → Type 0) (r : Result A E) (other : Result B E) → ((e : E) → other ≡ Err e → r ≡ Err e) → ((e : E) → P e → Q e) → IfErr r P → IfErr other Q
passed_on P Q r (Ok b) same f h = tt
passed_on P Q r (Err e) same f h = f e (subst (λ x. IfErr x P) (same e refl) h)

-- an error of one kind is none of another
pub never : {A E : Type 0} (P : E → Type 0) (e : E) (r : Result A E) → (P e → ⊥) → IfErr r P → r ≡ Err e → ⊥
never P e (Ok a) none h is = cc
never P e (Err f) none h is = let same : f ≡ e = cc in none (subst P same h)
