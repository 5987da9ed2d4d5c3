-- What is asked of a bundle: only what lies behind a front.
use Rattle.std.specs.Prelude.{◌≡◌, ◌≤◌, ℕ, Bool, true, List, ◌++◌}
use Rattle.std.specs.List.{AllByRecursion}
use Rattle.dir_trait.specs.declared.bundle.BundleRequest.{BundleRequest}
use Rattle.dir_trait.specs.Bundles.{BundleAt}

-- the path begins so
abbrev pub IsFrontOf : List ℕ → List ℕ → Type 0
IsFrontOf front path = (rest : List ℕ) × (path ≡ front ++ rest)

-- it was asked for paths that begin so, and for nothing else
pub record AsksWithin (front : List ℕ) (old new : List BundleRequest) : Type 0 where
  pub more : List BundleRequest
  pub grown : new ≡ old ++ more
  pub each : AllByRecursion (λ asked. IsFrontOf front asked.path) more

-- some calls: the count of faults never fell, and where the tree is observed it stayed and nothing else was asked for
pub record ReadsWithin (observed : Bool) (front : List ℕ) (old new : BundleAt) : Type 0 where
  pub faults : old.faults ≤ new.faults
  pub same : observed ≡ true → new.tree ≡ old.tree
  pub asked : observed ≡ true → AsksWithin front old.asked new.asked
