-- What an app may have written that was started.
use Rattle.std.specs.Prelude.{◌≡◌, ℕ, true, List}
use Rattle.dir_model.specs.Trees.{app_root, is_within}

-- the path in a pod's folder is at or below the root of this app
pub record LiesInApp (path : List ℕ) : Type 0 where
  pub app : List ℕ
  pub within : is_within (app_root app) path ≡ true
