use Rattle.std.proofs.Common.{Err, ap}
use Rattle.commands.proofs.Files.{was_read, was_refused}
use Rattle.commands.proofs.validate.validate.Goals as goal

pub returns-in-Ok-clause-says : goal.returns-in-Ok-clause-says
returns-in-Ok-clause-says g c own = was_read _ _ _ _ (rw c.as_slice.ensures.value at c.judge.ensures) (λ t. rw c.as_str.ensures at (c.in-Ok.ensures.read t)) own

pub returns-in-Err-clause-says : goal.returns-in-Err-clause-says
returns-in-Err-clause-says g c own = was_refused _ _ c.in-Err.error _ c.bundle_refusal.ensures (λ missing t. rw c.as_str.ensures at (c.in-Err.ensures.missing (ap Err missing) t)) own
