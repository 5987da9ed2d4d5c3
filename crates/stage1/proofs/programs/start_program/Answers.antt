use Rattle.std.proofs.Common.{Err, ℕ, List, ap, sym, subst}
use Rattle.spawner.specs.declared.call.SpawnCall.{SpawnCall}
use Rattle.spawner.specs.declared.call.SpawnRequest.TheVariants.{Start}
use Rattle.spawner.specs.declared.call.SpawnReply.TheVariants.{Started, Refused}
use Rattle.spawner.specs.Calls.{Tells}
use Rattle.stage1.specs.declared.error.Fault.{Fault}
use Rattle.stage1.specs.Asking.{StartedIn}
use Rattle.stage1.specs.Refusals.{SpawnCause}
use Rattle.stage1.specs.Programs.{start_request}
use Rattle.stage1.proofs.Asked.{asks_one, started_now}
use Rattle.stage1.proofs.Causes.{spawn_cause}
use Rattle.stage1.proofs.programs.start_program.Goals as goal

pub returns-in-Ok-clause-asked : goal.returns-in-Ok-clause-asked
returns-in-Ok-clause-asked g c =
    let S = g.S.Spawner in
    let old = S.shown c.args.spawner.now in
    let new = S.shown c.start.new.self in
    let app = c.args.app.now in
    asks_one (start_request app c.args.argv.now) (Started c.in-Ok.child) c.start.ensures.kept (λ t. subst (λ (d : List ℕ). Tells old (Start app.root c.args.argv.now app.launch.environment d) (Started c.in-Ok.child) new) c.as_str.ensures (c.in-Ok.ensures.recorded t)) (λ t. tt) c.in-Ok.ensures.fresh

pub returns-in-Ok-clause-started : goal.returns-in-Ok-clause-started
returns-in-Ok-clause-started g c t =
    let S = g.S.Spawner in
    let old = S.shown c.args.spawner.now in
    let new = S.shown c.start.new.self in
    let app = c.args.app.now in
    subst (λ (l : List SpawnCall). StartedIn app.root c.in-Ok.child l) (sym (c.in-Ok.ensures.recorded t).noted) (started_now old.calls app.root c.args.argv.now app.launch.environment c.as_str.result.now c.in-Ok.child)

pub returns-in-Err-clause-refused : goal.returns-in-Err-clause-refused
returns-in-Err-clause-refused g c =
    let S = g.S.Spawner in
    let old = S.shown c.args.spawner.now in
    let new = S.shown c.start.new.self in
    let app = c.args.app.now in
    let e = c.in-Err.error in
    record { error = e; asked = asks_one (start_request app c.args.argv.now) (Refused e) c.start.ensures.kept (λ t. subst (λ (d : List ℕ). Tells old (Start app.root c.args.argv.now app.launch.environment d) (Refused e) new) c.as_str.ensures (c.in-Err.ensures.recorded t)) (λ t. tt) (λ t. tt) }

pub returns-in-Err-clause-cause : goal.returns-in-Err-clause-cause
returns-in-Err-clause-cause g c =
    let S = g.S.Spawner in
    let old = S.shown c.args.spawner.now in
    let new = S.shown c.start.new.self in
    subst (λ (f : Fault). SpawnCause f old new) (sym c.spawn_fault.ensures) (spawn_cause old new c.in-Err.error (λ is. c.in-Err.ensures.cause (ap Err is)))

pub start-requires : goal.start-requires
start-requires g c = record { may = λ t. (c.requires.may t).may }
