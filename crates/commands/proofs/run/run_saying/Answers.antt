use Rattle.std.proofs.Common.{◌≡◌, Err, refl, sym, ap, subst, ◌∙◌}
use Rattle.dir_model.specs.Local.{Local, IsActive, IsOpen}
use Rattle.commands.proofs.Sayings.{said_fault, busy_area, refusal_allowed, no_match_within}
use Rattle.command_outcomes.specs.declared.refusal.Refusal.TheVariants.{SpawnFault}
use Rattle.command_outcomes.proofs.Seen.{rose_wider}
use Rattle.commands.proofs.Claimed.{is_open, still_active}
use Rattle.commands.proofs.NewRuns.{kept_pod, kept_owned, made_went, unmade_went, made_worked, unmade_worked, made_knows, made_runs, made_keeps, unmade_keeps, run_in, prepare_in, never_spawns, made_says, unmade_says}
use Rattle.pod_build.proofs.Handing.{handed_before, run_until}
use Rattle.commands.proofs.NewRuns.{runs_hand_none}
use Rattle.pod_locks.proofs.Traces.{grown_by}
use Rattle.commands.proofs.run.run_saying.Goals as goal

pub kept-requires : goal.kept-requires
kept-requires g c = kept_pod c.args.draw.now.uuid (g.D.Dir.shown c.args.dir.now).local c.in-Ok.built c.in-Ok.ensures.answer

pub run_owned-requires-clause-active : goal.run_owned-requires-clause-active
run_owned-requires-clause-active g c =
    let m = (g.D.Dir.shown c.args.dir.now).local in
    let w = made_went m c.args.draw.now.uuid c.prepare.result c.in-Ok.built c.kept.result c.in-Ok.is c.kept.ensures c.prepare.ensures.went in
    subst IsActive (sym w.local_is) (still_active m _ c.requires.active)

pub run_owned-requires-clause-open : goal.run_owned-requires-clause-open
run_owned-requires-clause-open g c =
    let m = (g.D.Dir.shown c.args.dir.now).local in
    let w = made_went m c.args.draw.now.uuid c.prepare.result c.in-Ok.built c.kept.result c.in-Ok.is c.kept.ensures c.prepare.ensures.went in
    subst (λ (l : Local). IsOpen l c.kept.result.own) (sym w.local_is) (is_open m _ c.kept.result.own c.requires.free refl)

pub run_owned-requires-clause-runs : goal.run_owned-requires-clause-runs
run_owned-requires-clause-runs g c t =
    let D = g.D.Dir in
    let a = D.shown c.args.dir.now in
    let own = kept_owned c.args.draw.now.uuid a.local c.in-Ok.built c.kept.result c.kept.ensures c.in-Ok.ensures.answer in
    made_runs {observed = D.observed} c.args.draw.now c.args.now c.kept.result a (D.shown c.prepare.new.dir) own c.requires.can
    (λ t. made_knows c.args.draw.now c.args.now c.in-Ok.built c.kept.result a (D.shown c.prepare.new.dir) c.kept.ensures (c.in-Ok.ensures.knows t)) t

pub build_refusal-requires : goal.build_refusal-requires
build_refusal-requires g c place is = rw c.words.ensures (no_match_within c.args.wanted.now.images g.D.Dir.observed c.refs.result.now c.options.result.now c.args.draw.now c.refs.ensures c.in-Err.ensures.refused place is)

pub returns-in-Ok-clause-worked : goal.returns-in-Ok-clause-worked
returns-in-Ok-clause-worked g c =
    let m = (g.D.Dir.shown c.args.dir.now).local in
    let w = made_went m c.args.draw.now.uuid c.prepare.result c.in-Ok.built c.kept.result c.in-Ok.is c.kept.ensures c.prepare.ensures.went in
    made_worked c.args.draw.now.uuid c.kept.result _ (kept_owned c.args.draw.now.uuid m c.in-Ok.built c.kept.result c.kept.ensures c.in-Ok.ensures.answer) refl c.requires.free w c.run_owned.ensures.went

pub returns-in-Ok-clause-cause : goal.returns-in-Ok-clause-cause
returns-in-Ok-clause-cause g c is = rose_wider _ _ _ _ c.prepare.ensures.went.faults (c.run_owned.ensures.cause is) refl

pub returns-in-Ok-clause-refusals : goal.returns-in-Ok-clause-refusals
returns-in-Ok-clause-refusals g c = run_in c.run_owned.result c.run_owned.ensures.refusals

pub returns-in-Ok-clause-known : goal.returns-in-Ok-clause-known
returns-in-Ok-clause-known g c t intent began =
    let D = g.D.Dir in
    let a = D.shown c.args.dir.now in
    let b = D.shown c.prepare.new.dir in
    made_keeps {observed = D.observed} c.args.draw.now c.args.now c.kept.result intent a b (D.shown c.run_owned.new.dir)
    (kept_owned c.args.draw.now.uuid a.local c.in-Ok.built c.kept.result c.kept.ensures c.in-Ok.ensures.answer) t began
    (λ t. made_knows c.args.draw.now c.args.now c.in-Ok.built c.kept.result a b c.kept.ensures (c.in-Ok.ensures.knows t)) (c.run_owned.ensures.keeps t)

pub returns-in-Ok-clause-says : goal.returns-in-Ok-clause-says
returns-in-Ok-clause-says g c =
    let D = g.D.Dir in
    let S = g.S.Spawner in
    let a = D.shown c.args.dir.now in
    let b = D.shown c.prepare.new.dir in
    made_says D.observed S.observed c.args.wanted.now c.args.address.now c.args.now c.args.draw.now a (D.shown c.run_owned.new.dir) (S.shown c.args.spawner.now) (S.shown c.run_owned.new.spawner) c.run_owned.result c.refs.result.now b c.kept.result c.refs.ensures
    (kept_owned c.args.draw.now.uuid a.local c.in-Ok.built c.kept.result c.kept.ensures c.in-Ok.ensures.answer)
    c.prepare.ensures.went.same c.in-Ok.ensures.free (rw c.options.ensures at c.in-Ok.ensures.planned) c.prepare.ensures.went.extends
    (λ t. made_knows c.args.draw.now c.args.now c.in-Ok.built c.kept.result a b c.kept.ensures (c.in-Ok.ensures.knows t))
    (rw c.options.ensures at c.in-Ok.ensures.prepared) (λ t. grown_by (c.run_owned.ensures.went.extends t)) (rw c.requires.line at c.run_owned.ensures.says)

pub returns-in-Err-clause-worked : goal.returns-in-Err-clause-worked
returns-in-Err-clause-worked g c = unmade_worked c.args.draw.now.uuid (unmade_went (g.D.Dir.shown c.args.dir.now).local c.args.draw.now.uuid c.prepare.result c.in-Err.error c.in-Err.is c.prepare.ensures.went)

pub returns-in-Err-clause-cause : goal.returns-in-Err-clause-cause
returns-in-Err-clause-cause g c is = c.prepare.ensures.fault (c.in-Err.is ∙ ap Err (said_fault c.words.result.now c.in-Err.error c.build_refusal.result c.build_refusal.ensures cc))

pub returns-in-Err-clause-spawn_cause : goal.returns-in-Err-clause-spawn_cause
returns-in-Err-clause-spawn_cause g c is =
    let said : c.build_refusal.result ≡ SpawnFault = cc in
    never_spawns c.build_refusal.result (refusal_allowed c.words.result.now c.in-Err.error c.build_refusal.result c.build_refusal.ensures (busy_area c.args.draw.now c.in-Err.ensures.refused)) said

pub returns-in-Err-clause-refusals : goal.returns-in-Err-clause-refusals
returns-in-Err-clause-refusals g c = prepare_in c.build_refusal.result (refusal_allowed c.words.result.now c.in-Err.error c.build_refusal.result c.build_refusal.ensures (busy_area c.args.draw.now c.in-Err.ensures.refused))

pub returns-in-Err-clause-known : goal.returns-in-Err-clause-known
returns-in-Err-clause-known g c t intent began =
    let D = g.D.Dir in
    unmade_keeps {observed = D.observed} c.args.draw.now c.args.now intent (D.shown c.args.dir.now) (D.shown c.prepare.new.dir) t began c.in-Err.ensures.left

pub returns-in-Err-clause-says : goal.returns-in-Err-clause-says
returns-in-Err-clause-says g c =
    let D = g.D.Dir in
    let S = g.S.Spawner in
    unmade_says D.observed S.observed c.args.wanted.now c.args.address.now c.args.now c.args.draw.now (D.shown c.args.dir.now) (D.shown c.prepare.new.dir) (S.shown c.args.spawner.now) (S.shown c.args.spawner.now) (Err c.build_refusal.result)
    c.refs.result.now c.in-Err.error c.build_refusal.result refl c.refs.ensures (rw c.words.ensures at c.build_refusal.ensures) (rw c.options.ensures at c.in-Err.ensures.refused) c.in-Err.ensures.by_other_process c.in-Err.ensures.left refl

pub returns-in-Ok-clause-makers : goal.returns-in-Ok-clause-makers
returns-in-Ok-clause-makers g c t run intent hs began alone k =
    let ran = c.run_owned.ensures.went.extends t in
    handed_before (c.prepare.ensures.went.extends t) (c.prepare.ensures.makers t (run_until ran run) intent hs began alone k) c.prepare.ensures.went.same (runs_hand_none c.kept.result.pod c.kept.result.own) ran
