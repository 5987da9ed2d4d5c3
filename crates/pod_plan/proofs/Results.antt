-- What is known of a result, carried on.
use Rattle.std.proofs.Common.{◌≡◌, ℕ, Bool, true, List, Result, Ok, Err, refl, sym, subst}
use Rattle.std.specs.Prelude.{IfOk, IfErr, IsErrAnd}
use Rattle.image_reading.specs.declared.error.StoreError.{StoreError}
use Rattle.image_reading.specs.declared.error.StoreError.TheVariants.{Damaged, DirFault, NoMemory}
use Rattle.image_reading.specs.Refusals.{IsReadRefusal}
use Rattle.pod_plan.specs.PlanRefusals.{IsAnyPath, IsStoreLack}

-- an error that is known
pub err_is : {A E : Type 0} (Q : E → Type 0) (r : Result A E) (x : E) → IsErrAnd r (λ e. e ≡ x) → Q x → IfErr r Q
err_is Q (Ok a) x is h = tt
err_is Q (Err e) x is h = subst Q (sym is) h

-- the same value in another answer
pub ok_same : {A E F : Type 0} (P : A → Type 0) (r : Result A E) (other : Result A F) → ((a : A) → other ≡ Ok a → r ≡ Ok a) → IfOk r P → IfOk other P
ok_same P r (Ok a) same h = subst (λ x. IfOk x P) (same a refl) h
ok_same P r (Err e) same h = tt

module _ (observed : Bool) where
  -- the same lack for another reason
  pub lack_wider : (P Q : List ℕ → Type 0) (e : StoreError) → (observed ≡ true → (path : List ℕ) → P path → Q path) → IsStoreLack observed P e → IsStoreLack observed Q e
  lack_wider P Q (Damaged path) f is = λ t. f t path (is t)
  lack_wider P Q DirFault f is = tt
  lack_wider P Q NoMemory f is = tt
  lack_wider P Q e f is = absurd is

  pub lack_refusal : (P : List ℕ → Type 0) (e : StoreError) → IsStoreLack observed P e → IsReadRefusal IsAnyPath e
  lack_refusal P (Damaged path) is = tt
  lack_refusal P DirFault is = tt
  lack_refusal P NoMemory is = tt
  lack_refusal P e is = absurd is

  pub lack_memory : (P : List ℕ → Type 0) (e : StoreError) → e ≡ NoMemory → IsStoreLack observed P e
  lack_memory P e is = subst (λ (x : StoreError). IsStoreLack observed P x) (sym is) tt
