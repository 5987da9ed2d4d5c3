use Rattle.std.proofs.Common.{◌≡◌, Err, ap}
use Rattle.command_outcomes.specs.declared.refusal.Refusal.TheVariants.{DirFault, SpawnFault}
use Rattle.commands.proofs.Told.{said_allowed, telling_allowed, telling_no_fault, telling_no_spawn, run_cause, spawn_cause, ran_says, stopped_says}
use Rattle.commands.proofs.running.run_owned.Goals as goal

pub returns-in-Ok-clause-cause : goal.returns-in-Ok-clause-cause
returns-in-Ok-clause-cause g c is = telling_no_fault _ c.tell.result c.tell.ensures is

pub returns-in-Ok-clause-spawn_cause : goal.returns-in-Ok-clause-spawn_cause
returns-in-Ok-clause-spawn_cause g c is = telling_no_spawn _ c.tell.result c.tell.ensures is

pub returns-in-Ok-clause-refusals : goal.returns-in-Ok-clause-refusals
returns-in-Ok-clause-refusals g c = telling_allowed _ c.tell.result c.tell.ensures

pub returns-in-Ok-clause-says : goal.returns-in-Ok-clause-says
returns-in-Ok-clause-says g c =
    let D = g.D.Dir in
    let S = g.S.Spawner in
    ran_says D.observed S.observed c.args.owned c.args.address.now (D.shown c.args.dir.now) (D.shown c.run_pod.new.dir) (S.shown c.args.spawner.now) (S.shown c.run_pod.new.spawner) c.args.text c.in-Ok.ends.items c.tell.result (rw c.as_slice.ensures.value at c.tell.ensures) c.in-Ok.ensures.ran

pub returns-in-Err-clause-cause : goal.returns-in-Err-clause-cause
returns-in-Err-clause-cause g c is =
    let D = g.D.Dir in
    let S = g.S.Spawner in
    let said : c.run_refusal.result ≡ DirFault = cc in
    run_cause D.observed S.observed c.args.owned c.args.address.now (D.shown c.args.dir.now) (D.shown c.run_pod.new.dir) (S.shown c.args.spawner.now) (S.shown c.run_pod.new.spawner) c.in-Err.error c.run_refusal.result c.run_refusal.ensures said c.in-Err.ensures.refused

pub returns-in-Err-clause-spawn_cause : goal.returns-in-Err-clause-spawn_cause
returns-in-Err-clause-spawn_cause g c is =
    let D = g.D.Dir in
    let S = g.S.Spawner in
    let said : c.run_refusal.result ≡ SpawnFault = cc in
    spawn_cause D.observed S.observed c.args.owned c.args.address.now (D.shown c.args.dir.now) (D.shown c.run_pod.new.dir) (S.shown c.args.spawner.now) (S.shown c.run_pod.new.spawner) c.in-Err.error c.run_refusal.result c.run_refusal.ensures said c.in-Err.ensures.refused

pub returns-in-Err-clause-refusals : goal.returns-in-Err-clause-refusals
returns-in-Err-clause-refusals g c = said_allowed c.args.owned.pod c.in-Err.error c.run_refusal.result c.run_refusal.ensures

pub returns-in-Err-clause-says : goal.returns-in-Err-clause-says
returns-in-Err-clause-says g c =
    let D = g.D.Dir in
    let S = g.S.Spawner in
    stopped_says D.observed S.observed c.args.owned c.args.address.now (D.shown c.args.dir.now) (D.shown c.run_pod.new.dir) (S.shown c.args.spawner.now) (S.shown c.run_pod.new.spawner) c.args.text c.in-Err.error c.run_refusal.result c.run_refusal.ensures c.in-Err.ensures.refused
    (λ is t conforming. c.in-Err.ensures.lawful (ap Err is) t conforming)
