use Rattle.std.proofs.Common.{◌≡◌, cond, Some, None, List, ℕ, subst}
use Rattle.dir_model.specs.Paths.{is_file_name}
use Rattle.dir_model.proofs.Paths.{named, unnamed}
use Rattle.dir_model.proofs.path.file_name_of.Goals as goal

pub returns-in-Ok : goal.returns-in-Ok
returns-in-Ok c = subst (λ (bs : List ℕ). c.of.result ≡ cond (is_file_name bs) (Some bs) None) c.in-Ok.ensures.cases.0 (named c.in-Ok.text.now c.of.result c.of.ensures.some c.of.ensures.bytes)

pub returns-in-Err : goal.returns-in-Err
returns-in-Err c = unnamed c.args.bytes.now c.in-Err.ensures.cases.0
