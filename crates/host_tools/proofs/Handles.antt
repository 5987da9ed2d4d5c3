-- A handle that was just opened holds no lock, and one that was asked for its lock is still open.
use Rattle.std.proofs.Common.{◌≡◌, IfOk, Result, Ok, Err, sym, subst, ◌∙◌}
use Rattle.dir_model.specs.declared.spot.Handle.{Handle}
use Rattle.dir_model.specs.declared.opening.Target.{Target}
use Rattle.dir_model.specs.declared.request.DirError.{DirError}
use Rattle.dir_model.specs.declared.request.Request.{Request}
use Rattle.dir_model.specs.Replies.{opened_reply}
use Rattle.dir_model.specs.Local.{Local, with_handle, local_opened, local_replied, IsUnopened, IsUnlocked}
use Rattle.dir_model.proofs.Holdings.{unlocked_new}

pub unlocked_opened : (m n : Local) (request : Request) (target : Target) (r : Result Handle DirError) → ((h : Handle) → local_opened m request h ≡ with_handle m h target) → IfOk r (λ h. IsUnopened m h) → n ≡ local_replied m request (opened_reply r) → IfOk r (λ h. IsUnlocked n h)
unlocked_opened m n request target (Ok h) is new e = subst (λ (x : Local). IsUnlocked x h) (sym (e ∙ is h)) (unlocked_new m h target new)
unlocked_opened m n request target (Err error) is new e = tt
