use Rattle.std.proofs.Common.{Err, ℕ, List, ap, sym, subst}
use Rattle.spawner.specs.declared.call.SpawnRequest.TheVariants.{Ready}
use Rattle.spawner.specs.declared.call.SpawnReply.TheVariants.{Done, Refused}
use Rattle.spawner.specs.Calls.{Tells}
use Rattle.stage1.specs.declared.error.Fault.{Fault}
use Rattle.stage1.specs.Refusals.{SpawnCause}
use Rattle.stage1.specs.Programs.{ready_request}
use Rattle.stage1.proofs.Asked.{asks_one}
use Rattle.stage1.proofs.Causes.{spawn_cause}
use Rattle.stage1.proofs.programs.make_ready.Goals as goal

pub returns-in-Ok-clause-asked : goal.returns-in-Ok-clause-asked
returns-in-Ok-clause-asked g c =
    let S = g.S.Spawner in
    let old = S.shown c.args.spawner.now in
    let new = S.shown c.ready.new.self in
    asks_one (ready_request c.args.app.now) Done c.ready.ensures.kept (λ t. subst (λ (l : List ℕ). Tells old (Ready c.args.app.now.root l) Done new) c.as_slice.ensures.value (c.in-Ok.ensures.recorded t)) (λ t. tt) (λ t. tt)

pub returns-in-Err-clause-refused : goal.returns-in-Err-clause-refused
returns-in-Err-clause-refused g c =
    let S = g.S.Spawner in
    let old = S.shown c.args.spawner.now in
    let new = S.shown c.ready.new.self in
    let e = c.in-Err.error in
    record { error = e; asked = asks_one (ready_request c.args.app.now) (Refused e) c.ready.ensures.kept (λ t. subst (λ (l : List ℕ). Tells old (Ready c.args.app.now.root l) (Refused e) new) c.as_slice.ensures.value (c.in-Err.ensures.recorded t)) (λ t. tt) (λ t. tt) }

pub returns-in-Err-clause-cause : goal.returns-in-Err-clause-cause
returns-in-Err-clause-cause g c =
    let S = g.S.Spawner in
    let old = S.shown c.args.spawner.now in
    let new = S.shown c.ready.new.self in
    subst (λ (f : Fault). SpawnCause f old new) (sym c.spawn_fault.ensures) (spawn_cause old new c.in-Err.error (λ is. c.in-Err.ensures.cause (ap Err is)))

pub ready-requires : goal.ready-requires
ready-requires g c = record { may = λ t. (c.requires.may t).may }
