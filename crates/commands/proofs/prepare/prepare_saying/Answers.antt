use Rattle.std.proofs.Common.{Err, ap, refl, ◌∙◌}
use Rattle.command_outcomes.proofs.Seen.{rose_wider}
use Rattle.commands.proofs.Sayings.{said_fault, busy_area, refusal_allowed, no_match_within}
use Rattle.commands.proofs.Prepares.{prepare_worked, both_worked, sync_allowed, synced_keeps, refused_keeps, synced_says, refused_says}
use Rattle.pod_build.proofs.Handing.{handed_before, run_until}
use Rattle.commands.proofs.Prepares.{syncs_hand_none}
use Rattle.commands.proofs.prepare.prepare_saying.Goals as goal

pub build_refusal-requires : goal.build_refusal-requires
build_refusal-requires g c place is = rw c.words.ensures (no_match_within c.args.wanted.now.images g.D.Dir.observed c.refs.result.now c.options.result.now c.args.draw.now c.refs.ensures c.in-Err.ensures.refused place is)

pub returns-in-Ok-clause-worked : goal.returns-in-Ok-clause-worked
returns-in-Ok-clause-worked g c = both_worked c.args.draw.now.uuid (prepare_worked c.args.draw.now.uuid c.prepare.result c.prepare.ensures.answer c.prepare.ensures.went) c.sync_saying.ensures.worked

pub returns-in-Ok-clause-cause : goal.returns-in-Ok-clause-cause
returns-in-Ok-clause-cause g c is = rose_wider _ _ _ _ c.prepare.ensures.went.faults (c.sync_saying.ensures.cause is) refl

pub returns-in-Ok-clause-refusals : goal.returns-in-Ok-clause-refusals
returns-in-Ok-clause-refusals g c =
    let D = g.D.Dir in
    sync_allowed D.observed (D.shown c.prepare.new.dir) (D.shown c.sync_saying.new.dir) c.args.line c.sync_saying.result c.sync_saying.ensures.says

pub returns-in-Ok-clause-known : goal.returns-in-Ok-clause-known
returns-in-Ok-clause-known g c t intent began k =
    let D = g.D.Dir in
    synced_keeps D.observed (D.shown c.args.dir.now) (D.shown c.prepare.new.dir) (D.shown c.sync_saying.new.dir) c.args.draw.now c.args.now c.args.line c.in-Ok.field-0 c.sync_saying.result t c.in-Ok.ensures.answer
    (c.in-Ok.ensures.knows t) c.sync_saying.ensures.says intent began k

pub returns-in-Ok-clause-says : goal.returns-in-Ok-clause-says
returns-in-Ok-clause-says g c =
    let D = g.D.Dir in
    synced_says D.observed (D.shown c.args.dir.now) (D.shown c.prepare.new.dir) (D.shown c.sync_saying.new.dir) c.args.wanted.now c.refs.result.now c.args.now c.args.draw.now c.args.line c.in-Ok.field-0 c.sync_saying.result
    c.prepare.ensures.went.same c.refs.ensures c.in-Ok.ensures.answer c.in-Ok.ensures.free (rw c.options.ensures at c.in-Ok.ensures.planned) c.prepare.ensures.went.extends c.in-Ok.ensures.knows (rw c.options.ensures at c.in-Ok.ensures.prepared) c.requires.line c.sync_saying.ensures.says

pub returns-in-Err-clause-worked : goal.returns-in-Err-clause-worked
returns-in-Err-clause-worked g c = prepare_worked c.args.draw.now.uuid c.prepare.result c.prepare.ensures.answer c.prepare.ensures.went

pub returns-in-Err-clause-cause : goal.returns-in-Err-clause-cause
returns-in-Err-clause-cause g c is = c.prepare.ensures.fault (c.in-Err.is ∙ ap Err (said_fault c.words.result.now c.in-Err.error c.build_refusal.result c.build_refusal.ensures cc))

pub returns-in-Err-clause-refusals : goal.returns-in-Err-clause-refusals
returns-in-Err-clause-refusals g c = refusal_allowed c.words.result.now c.in-Err.error c.build_refusal.result c.build_refusal.ensures (busy_area c.args.draw.now c.in-Err.ensures.refused)

pub returns-in-Err-clause-known : goal.returns-in-Err-clause-known
returns-in-Err-clause-known g c t intent began k =
    let D = g.D.Dir in
    refused_keeps D.observed (D.shown c.args.dir.now) (D.shown c.prepare.new.dir) c.args.draw.now c.args.now (c.in-Err.ensures.left t) intent began k

pub returns-in-Err-clause-says : goal.returns-in-Err-clause-says
returns-in-Err-clause-says g c =
    let D = g.D.Dir in
    refused_says D.observed (D.shown c.args.dir.now) (D.shown c.prepare.new.dir) c.args.wanted.now c.refs.result.now c.args.now c.args.draw.now c.in-Err.error c.build_refusal.result c.refs.ensures
    (rw c.words.ensures at c.build_refusal.ensures) (rw c.options.ensures at c.in-Err.ensures.refused) c.in-Err.ensures.by_other_process c.in-Err.ensures.left

pub returns-in-Ok-clause-makers : goal.returns-in-Ok-clause-makers
returns-in-Ok-clause-makers g c t run intent hs began alone k =
    let synced = c.sync_saying.ensures.worked.extends t in
    handed_before (c.prepare.ensures.went.extends t) (c.prepare.ensures.makers t (run_until synced run) intent hs began alone k) c.prepare.ensures.went.same syncs_hand_none synced
