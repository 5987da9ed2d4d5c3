-- What a file's read tells, where its bytes are a value and where they are none.
use Rattle.std.proofs.Common.{◌≡◌, ◌≤◌, inr, ℕ, Bool, true, List, length, take, Result, IsErrOf, refl, subst}
use Rattle.std.specs.Prelude.{IfOk, IfErr, MatchResult}
use Rattle.plain_laws.proofs.Results.{if_ok, if_err, never}
use Rattle.dir_model.specs.declared.item.Inner.{Inner}
use Rattle.dir_trait.specs.DirCalls.{DirAt}
use Rattle.dir_files.specs.Reads.{ReadsUp}
use Rattle.image_reading.specs.declared.error.StoreError.{StoreError}
use Rattle.image_reading.specs.declared.error.StoreError.TheVariants.{DirFault}
use Rattle.image_reading.specs.Refusals.{IsReadRefusal, IsDamage, IsDamaged}
use Rattle.image_reading.specs.Files.{ReadsFile, LacksFile}
use Rattle.image_reading.proofs.Results.{either_of, damage_why, damage_refusal}
use Rattle.image_reading.proofs.Widths.{within_self}

-- some bytes were read
module _ {observed : Bool} {V : Type 0} (inner : Inner) (most : ℕ) (old new : DirAt) (bytes : List ℕ) (few : length bytes ≤ most) (read : observed ≡ true → ReadsUp inner most old new bytes) (Is : V → List ℕ → Type 0) (IsNone : List ℕ → Type 0) (r : Result V StoreError) where
  pub some_read : IfOk r (λ v. Is v bytes) → IfOk r (λ v. observed ≡ true → ReadsFile inner most (Is v) old new)
  some_read ok = if_ok _ _ r (λ v is t. record { bytes = bytes; few = few; read = within_self (read t); holds = is }) ok

  pub some_lacks : (at : List ℕ) → IfErr r (IsDamage at (IsNone bytes)) → IfErr r (λ e. IsDamaged e → observed ≡ true → LacksFile inner most IsNone old new)
  some_lacks at err = if_err _ _ r (λ e is damaged t. inr (record { bytes = bytes; few = few; read = within_self (read t); holds = damage_why at (IsNone bytes) e is damaged })) err

  pub some_whole : (at : List ℕ) → IfOk r (λ v. Is v bytes) → IfErr r (IsDamage at (IsNone bytes)) → (file : List ℕ) → bytes ≡ take most file → ((v : V) → Is v (take most file) → Is v file) → (IsNone (take most file) → IsNone file)
      → MatchResult r (λ v. Is v file) (λ e. IsDamaged e → IsNone file)
  some_whole at ok err file is on none =
      either_of _ _ _ _ r (λ v h. on v (subst (λ (b : List ℕ). Is v b) is h)) (λ e h damaged. none (subst IsNone is (damage_why at (IsNone bytes) e h damaged))) ok err

-- no read of bytes ends with a fault of the directory
pub no_fault : {V : Type 0} (at : List ℕ) (Why : Type 0) (r : Result V StoreError) → IfErr r (IsDamage at Why) → IsErrOf r DirFault → ⊥
no_fault at Why r err is = never (IsDamage at Why) DirFault r (λ h. h) err is

pub refusals_at : {V : Type 0} (at : List ℕ) (Why : Type 0) (r : Result V StoreError) → IfErr r (IsDamage at Why) → IfErr r (IsReadRefusal (λ path. path ≡ at))
refusals_at at Why r err = if_err (IsDamage at Why) (IsReadRefusal (λ path. path ≡ at)) r (λ e is. damage_refusal (λ path. path ≡ at) at Why e refl is) err
