-- Why a folder wasn't moved.
use Rattle.std.proofs.Common.{◌≡◌, Bool, true, false, cond, Some, None, refl}
use Rattle.dir_model.specs.declared.request.DirError.TheVariants.{Missing, Exists}
use Rattle.dir_model.specs.Replies.{is_error}

-- the place that it was to come to was taken
pub exists_by : (from to : Bool) → is_error Exists (cond from (cond to (Some Exists) None) (Some Missing)) ≡ true → to ≡ true
exists_by true true is = refl
exists_by true false is = cc
exists_by false to is = cc
