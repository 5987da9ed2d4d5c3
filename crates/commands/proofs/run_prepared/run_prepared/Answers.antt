use Rattle.std.proofs.Common.{◌≡◌, true, Err, refl, sym, ap, subst, ◌∙◌}
use Rattle.command_outcomes.specs.declared.refusal.Refusal.{Refusal}
use Rattle.command_outcomes.specs.declared.refusal.Refusal.TheVariants.{DirFault, SpawnFault}
use Rattle.command_outcomes.proofs.Seen.{rose_wider}
use Rattle.dir_model.specs.Local.{Local, IsActive, IsOpen}
use Rattle.dir_model.specs.Pods.{pod_text}
use Rattle.commands.specs.RunRefusals.{run_prepared_refusal}
use Rattle.commands.proofs.Claimed.{none_open, claimed_went, unclaimed_went, is_open, still_active, owned_runs, claimed_worked, unclaimed_worked, claimed_keeps, unclaimed_keeps}
use Rattle.commands.proofs.ClaimRefusals.{claim_fault, claim_no_spawn, claim_allowed, run_in, claimed_says, unclaimed_says}
use Rattle.pod_locks.proofs.Traces.{grown_by}
use Rattle.commands.proofs.run_prepared.run_prepared.Goals as goal

pub claim-requires-clause-alone : goal.claim-requires-clause-alone
claim-requires-clause-alone g c = none_open (g.D.Dir.shown c.args.dir.now).local (pod_text c.args.pod.bytes) c.requires.free

pub run_owned-requires-clause-active : goal.run_owned-requires-clause-active
run_owned-requires-clause-active g c = subst IsActive (sym (claimed_went (g.D.Dir.shown c.args.dir.now).local c.args.pod c.claim.result c.in-Ok.owned c.in-Ok.is c.claim.ensures.went).local_is) (still_active (g.D.Dir.shown c.args.dir.now).local _ c.requires.active)

pub run_owned-requires-clause-open : goal.run_owned-requires-clause-open
run_owned-requires-clause-open g c = subst (λ (m : Local). IsOpen m c.in-Ok.owned.own) (sym (claimed_went (g.D.Dir.shown c.args.dir.now).local c.args.pod c.claim.result c.in-Ok.owned c.in-Ok.is c.claim.ensures.went).local_is) (is_open (g.D.Dir.shown c.args.dir.now).local _ c.in-Ok.owned.own c.requires.free refl)

pub run_owned-requires-clause-runs : goal.run_owned-requires-clause-runs
run_owned-requires-clause-runs g c t =
    let D = g.D.Dir in
    owned_runs {observed = D.observed} c.args.pod c.in-Ok.owned (D.shown c.args.dir.now) (D.shown c.claim.new.dir) c.in-Ok.ensures.owned c.requires.can c.in-Ok.ensures.runs t

pub returns-in-Ok-clause-worked : goal.returns-in-Ok-clause-worked
returns-in-Ok-clause-worked g c = claimed_worked c.args.pod c.in-Ok.owned _ c.in-Ok.ensures.owned refl c.requires.free (claimed_went (g.D.Dir.shown c.args.dir.now).local c.args.pod c.claim.result c.in-Ok.owned c.in-Ok.is c.claim.ensures.went) c.run_owned.ensures.went

pub returns-in-Ok-clause-cause : goal.returns-in-Ok-clause-cause
returns-in-Ok-clause-cause g c is = rose_wider _ _ _ _ c.claim.ensures.went.faults (c.run_owned.ensures.cause is) refl

pub returns-in-Ok-clause-refusals : goal.returns-in-Ok-clause-refusals
returns-in-Ok-clause-refusals g c = run_in c.run_owned.result c.run_owned.ensures.refusals

pub returns-in-Ok-clause-known : goal.returns-in-Ok-clause-known
returns-in-Ok-clause-known g c t intent is =
    let D = g.D.Dir in
    claimed_keeps {observed = D.observed} c.args.pod c.in-Ok.owned intent (D.shown c.args.dir.now) (D.shown c.claim.new.dir) (D.shown c.run_owned.new.dir) c.in-Ok.ensures.owned t is c.in-Ok.ensures.held (c.run_owned.ensures.keeps t)

pub returns-in-Ok-clause-says : goal.returns-in-Ok-clause-says
returns-in-Ok-clause-says g c =
    let D = g.D.Dir in
    let S = g.S.Spawner in
    claimed_says D.observed S.observed c.args.pod c.args.address.now (D.shown c.args.dir.now) (D.shown c.run_owned.new.dir) (S.shown c.args.spawner.now) (S.shown c.run_owned.new.spawner) c.run_owned.result (D.shown c.claim.new.dir) c.in-Ok.owned
    c.in-Ok.ensures.owned c.claim.ensures.went.same c.claim.ensures.went.extends c.in-Ok.ensures.moved c.in-Ok.ensures.alone (λ t. grown_by (c.run_owned.ensures.went.extends t)) (rw c.new.ensures at c.run_owned.ensures.says)

pub returns-in-Err-clause-worked : goal.returns-in-Err-clause-worked
returns-in-Err-clause-worked g c = unclaimed_worked c.args.pod (unclaimed_went (g.D.Dir.shown c.args.dir.now).local c.args.pod c.claim.result c.in-Err.error c.in-Err.is c.claim.ensures.went)

pub returns-in-Err-clause-cause : goal.returns-in-Err-clause-cause
returns-in-Err-clause-cause g c is =
    let said : c.claim_refusal.result ≡ DirFault = cc in
    c.in-Err.ensures.cause.fault (claim_fault c.args.pod c.in-Err.error (sym c.claim_refusal.ensures ∙ said))

pub returns-in-Err-clause-spawn_cause : goal.returns-in-Err-clause-spawn_cause
returns-in-Err-clause-spawn_cause g c is =
    let said : c.claim_refusal.result ≡ SpawnFault = cc in
    claim_no_spawn c.args.pod c.in-Err.error (sym c.claim_refusal.ensures ∙ said)

pub returns-in-Err-clause-refusals : goal.returns-in-Err-clause-refusals
returns-in-Err-clause-refusals g c = subst (λ (r : Refusal). run_prepared_refusal r ≡ true) (sym c.claim_refusal.ensures) (claim_allowed c.args.pod c.in-Err.error)

pub returns-in-Err-clause-known : goal.returns-in-Err-clause-known
returns-in-Err-clause-known g c t intent is =
    let D = g.D.Dir in
    unclaimed_keeps {observed = D.observed} intent (D.shown c.args.dir.now) (D.shown c.claim.new.dir) t is c.in-Err.ensures.left

pub returns-in-Err-clause-says : goal.returns-in-Err-clause-says
returns-in-Err-clause-says g c =
    let D = g.D.Dir in
    let S = g.S.Spawner in
    unclaimed_says D.observed S.observed c.args.pod c.args.address.now (D.shown c.args.dir.now) (D.shown c.claim.new.dir) (S.shown c.args.spawner.now) (S.shown c.args.spawner.now) (Err c.claim_refusal.result) c.in-Err.error
    (ap Err c.claim_refusal.ensures) c.in-Err.ensures.cause c.in-Err.ensures.moves_nothing c.in-Err.ensures.by_other_process c.in-Err.ensures.owned_elsewhere c.in-Err.ensures.complete refl
