use Rattle.std.proofs.Common.{ap}
use Rattle.rkt_cli.proofs.RunsRan.{can_claim, can_run, prepared_ran, made_ran}
use Rattle.rkt_cli.proofs.Makers.{claims_none, run_hands, service_none}
use Rattle.pod_build.proofs.Handing.{none_handed}
use Rattle.rkt_cli.specs.Tasks.{takes_links, task_of}
use Rattle.command_outcomes.specs.declared.refusal.Refusal.TheVariants.{LinkFault}
use Rattle.command_outcomes.specs.Moments.{bundle_at, outcome_of}
use Rattle.rkt_cli.proofs.Conforming.{report_conforming}
use Rattle.rkt_cli.proofs.Linked.{links_same, links_served, no_link}
use Rattle.rkt_cli.proofs.Reported.{none_open}
use Rattle.rkt_cli.proofs.ServiceRan.{outcome_refused, service_ran, service_spawns}
use Rattle.rkt_cli.proofs.Acting.{at_task}
use Rattle.rkt_cli.proofs.perform.act.Goals as goal

pub run_prepared-requires-clause-can : goal.run_prepared-requires-clause-can
run_prepared-requires-clause-can g c t = can_claim (g.D.Dir.shown c.args.dir.now) (task_of c.args.line.now c.args.pod) c.args.now c.args.draw.now c.args.pod (at_task c.args.pod c.in-RunPrepared.is) (c.requires.known t)

pub run-requires-clause-can : goal.run-requires-clause-can
run-requires-clause-can g c t = can_run (g.D.Dir.shown c.args.dir.now) (task_of c.args.line.now c.args.pod) c.args.now c.args.draw.now c.in-Run.wanted (at_task c.args.pod c.in-Run.is) (c.requires.known t)

pub returns-in-RunPrepared-clause-ran : goal.returns-in-RunPrepared-clause-ran
returns-in-RunPrepared-clause-ran g c =
    let D = g.D.Dir in
    prepared_ran _ _ _ D.observed (D.shown c.args.dir.now) (D.shown c.run_prepared.new.dir) _ c.run_prepared.result c.args.pod (at_task c.args.pod c.in-RunPrepared.is) c.run_prepared.ensures.worked c.run_prepared.ensures.cause c.run_prepared.ensures.refusals

pub returns-in-Run-clause-ran : goal.returns-in-Run-clause-ran
returns-in-Run-clause-ran g c =
    let D = g.D.Dir in
    made_ran _ _ _ D.observed (D.shown c.args.dir.now) (D.shown c.run.new.dir) _ c.run.result c.in-Run.wanted (at_task c.args.pod c.in-Run.is) c.run.ensures.worked c.run.ensures.cause c.run.ensures.refusals

pub returns-in-RunPrepared-clause-makers : goal.returns-in-RunPrepared-clause-makers
returns-in-RunPrepared-clause-makers g c t uses intent said known run = none_handed (claims_none c.args.pod) (c.run_prepared.ensures.worked.extends t)

pub returns-in-Run-clause-makers : goal.returns-in-Run-clause-makers
returns-in-Run-clause-makers g c t uses = run_hands (g.D.Dir.shown c.args.dir.now) (g.D.Dir.shown c.run.new.dir) c.args.now c.args.draw.now (at_task c.args.pod c.in-Run.is) (c.run.ensures.makers t)

pub metadata_service-requires-clause-alone : goal.metadata_service-requires-clause-alone
metadata_service-requires-clause-alone g c = none_open (g.D.Dir.shown c.args.dir.now).local c.requires.ready

pub returns-in-Metadata-clause-spawn_cause : goal.returns-in-Metadata-clause-spawn_cause
returns-in-Metadata-clause-spawn_cause g c is = service_spawns c.all_well.result c.metadata_service.result c.all_well.ensures.outcome c.metadata_service.ensures.refusals is

pub returns-in-Metadata-clause-keeps : goal.returns-in-Metadata-clause-keeps
returns-in-Metadata-clause-keeps g c t intent said = report_conforming intent g.D.Dir.observed _ _ c.metadata_service.ensures.only t

pub returns-in-Metadata-clause-makers : goal.returns-in-Metadata-clause-makers
returns-in-Metadata-clause-makers g c t uses intent said known run = none_handed service_none (c.metadata_service.ensures.only.extends t)

pub returns-in-Metadata-clause-ran : goal.returns-in-Metadata-clause-ran
returns-in-Metadata-clause-ran g c =
    let D = g.D.Dir in
    service_ran _ _ _ D.observed (D.shown c.args.dir.now) (D.shown c.metadata_service.new.dir) _ c.metadata_service.result (outcome_of c.all_well.result) _ _ (at_task c.args.pod c.in-Metadata.is) c.all_well.ensures.outcome c.metadata_service.ensures.only
    c.metadata_service.ensures.cause c.metadata_service.ensures.refusals c.metadata_service.ensures.silent

pub returns-in-Metadata-clause-link_cause : goal.returns-in-Metadata-clause-link_cause
returns-in-Metadata-clause-link_cause g c is = c.metadata_service.ensures.link_cause (outcome_refused c.all_well.result c.metadata_service.result LinkFault c.all_well.ensures.outcome is)

pub returns-in-Metadata-clause-serves : goal.returns-in-Metadata-clause-serves
returns-in-Metadata-clause-serves g c l d none =
    links_served c.args.line.now c.args.draw.now _ _ _ c.metadata_service.result c.all_well.result _ _ _ _ c.in-Metadata.is c.as_str-in-Metadata.ensures c.all_well.ensures.outcome c.all_well.ensures.well (c.metadata_service.ensures.serves l d none)

pub returns-in-RunPrepared-clause-link_cause : goal.returns-in-RunPrepared-clause-link_cause
returns-in-RunPrepared-clause-link_cause g c is =
    let D = g.D.Dir in
    no_link c.args.line.now c.args.pod c.args.now c.args.draw.now _ _ c.run_prepared.result (ap takes_links c.in-RunPrepared.is)
    (prepared_ran _ c.args.now c.args.draw.now D.observed (D.shown c.args.dir.now) (D.shown c.run_prepared.new.dir) (bundle_at g.B.Bundle c.args.bundle.now) c.run_prepared.result c.args.pod (at_task c.args.pod c.in-RunPrepared.is) c.run_prepared.ensures.worked c.run_prepared.ensures.cause c.run_prepared.ensures.refusals) is

pub returns-in-Run-clause-link_cause : goal.returns-in-Run-clause-link_cause
returns-in-Run-clause-link_cause g c is =
    let D = g.D.Dir in
    no_link c.args.line.now c.args.pod c.args.now c.args.draw.now _ _ c.run.result (ap takes_links c.in-Run.is)
    (made_ran _ c.args.now c.args.draw.now D.observed (D.shown c.args.dir.now) (D.shown c.run.new.dir) (bundle_at g.B.Bundle c.args.bundle.now) c.run.result c.in-Run.wanted (at_task c.args.pod c.in-Run.is) c.run.ensures.worked c.run.ensures.cause c.run.ensures.refusals) is

pub returns-in-RunPrepared-clause-serves : goal.returns-in-RunPrepared-clause-serves
returns-in-RunPrepared-clause-serves g c l d none = links_same c.args.line.now c.args.draw.now c.run_prepared.result _ _ _ (ap takes_links c.in-RunPrepared.is)

pub returns-in-Run-clause-serves : goal.returns-in-Run-clause-serves
returns-in-Run-clause-serves g c l d none = links_same c.args.line.now c.args.draw.now c.run.result _ _ _ (ap takes_links c.in-Run.is)
