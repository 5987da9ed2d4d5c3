-- What is known of a result, carried on.
use Rattle.std.proofs.Common.{◌≡◌, ℕ, List, Result, Ok, Err, sym, subst}
use Rattle.std.specs.Prelude.{IfOk, IfErr, MatchResult}
use Rattle.image_reading.specs.declared.error.StoreError.{StoreError}
use Rattle.image_reading.specs.declared.error.StoreError.TheVariants.{Damaged, NoImage, DirFault, NoMemory}
use Rattle.ac_types.specs.declared.store_key.StoreKey.{StoreKey}
use Rattle.image_reading.specs.Places.{stored_path, tree_name}
use Rattle.image_reading.specs.Refusals.{IsStoreFailure, IsReadRefusal, IsDamage, IsDamaged, IsTreeRefusal}

pub either_of : {A E : Type 0} (P P' : A → Type 0) (Q Q' : E → Type 0) (r : Result A E) → ((a : A) → P a → P' a) → ((e : E) → Q e → Q' e) → IfOk r P → IfErr r Q → MatchResult r P' Q'
either_of P P' Q Q' (Ok a) f g ok err = f a ok
either_of P P' Q Q' (Err e) f g ok err = g e err

-- why a file is damaged
pub damage_for : (at : List ℕ) (Why : Type 0) (e : StoreError) → Why → IsDamage at (Unit {0}) e → IsDamage at Why e
damage_for at Why (Damaged path) why is = (is.0, why)
damage_for at Why NoMemory why is = tt
damage_for at Why e why is = absurd is

pub damage_refusal : (AtPath : List ℕ → Type 0) (at : List ℕ) (Why : Type 0) (e : StoreError) → AtPath at → IsDamage at Why e → IsReadRefusal AtPath e
damage_refusal AtPath at Why (Damaged path) here is = subst AtPath (sym is.0) here
damage_refusal AtPath at Why NoMemory here is = tt
damage_refusal AtPath at Why e here is = absurd is

pub damage_why : (at : List ℕ) (Why : Type 0) (e : StoreError) → IsDamage at Why e → IsDamaged e → Why
damage_why at Why (Damaged path) is damaged = is.1
damage_why at Why e is damaged = absurd damaged

pub outside_refusal : (AtPath : List ℕ → Type 0) (e : StoreError) → IsStoreFailure e → IsReadRefusal AtPath e
outside_refusal AtPath DirFault is = tt
outside_refusal AtPath NoMemory is = tt
outside_refusal AtPath e is = absurd is

pub not_outside : (e : StoreError) → IsStoreFailure e → IsDamaged e → ⊥
not_outside (Damaged path) is damaged = is
not_outside e is damaged = damaged

-- the same refusals at more paths
pub more_paths : (P Q : List ℕ → Type 0) (e : StoreError) → ((path : List ℕ) → P path → Q path) → IsReadRefusal P e → IsReadRefusal Q e
more_paths P Q (Damaged path) f is = f path is
more_paths P Q DirFault f is = tt
more_paths P Q NoMemory f is = tt
more_paths P Q e f is = absurd is

-- a read of an image's listing is refused so where a folder of the image stands there
pub read_tree_refusal : (key : StoreKey) (e : StoreError) → IsReadRefusal (λ path. path ≡ stored_path key tree_name) e → IsTreeRefusal key e
read_tree_refusal key (Damaged path) is = is
read_tree_refusal key DirFault is = tt
read_tree_refusal key NoMemory is = tt
read_tree_refusal key e is = absurd is

pub no_tree_missing : {A : Type 0} (key other : StoreKey) (r : Result A StoreError) → r ≡ Err (NoImage other) → IfErr r (IsReadRefusal (λ path. path ≡ stored_path key tree_name)) → ⊥
no_tree_missing key other (Ok a) is h = cc
no_tree_missing key other (Err e) is h = let same : e ≡ NoImage other = cc in subst (λ (x : StoreError). IsReadRefusal (λ path. path ≡ stored_path key tree_name) x) same h
