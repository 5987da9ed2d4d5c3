use Rattle.std.proofs.Common.{Err, ap, sym, subst}
use Rattle.spawner.specs.declared.call.SpawnReply.TheVariants.{Ended, Refused}
use Rattle.stage1.specs.declared.error.Fault.{Fault}
use Rattle.stage1.specs.Refusals.{SpawnCause}
use Rattle.stage1.specs.Programs.{wait_request}
use Rattle.stage1.proofs.Asked.{asks_one}
use Rattle.stage1.proofs.Causes.{spawn_cause}
use Rattle.stage1.proofs.programs.wait_for.Goals as goal

pub returns-in-Ok-clause-asked : goal.returns-in-Ok-clause-asked
returns-in-Ok-clause-asked g c = asks_one (wait_request c.args.child) (Ended c.in-Ok.status) c.wait.ensures.kept c.in-Ok.ensures.recorded c.in-Ok.ensures.status (λ t. tt)

pub returns-in-Err-clause-refused : goal.returns-in-Err-clause-refused
returns-in-Err-clause-refused g c = record { error = c.in-Err.error; asked = asks_one (wait_request c.args.child) (Refused c.in-Err.error) c.wait.ensures.kept c.in-Err.ensures.recorded (λ t. tt) (λ t. tt) }

pub returns-in-Err-clause-cause : goal.returns-in-Err-clause-cause
returns-in-Err-clause-cause g c =
    let S = g.S.Spawner in
    let old = S.shown c.args.spawner.now in
    let new = S.shown c.wait.new.self in
    subst (λ (f : Fault). SpawnCause f old new) (sym c.spawn_fault.ensures) (spawn_cause old new c.in-Err.error (λ is. c.in-Err.ensures.cause (ap Err is)))
