use Rattle.std.proofs.Common.{refl, sym, ◌∙◌}
use Rattle.dir_model.specs.declared.spot.Which.TheVariants.{Own}
use Rattle.dir_model.proofs.Chains.{nothing_yet, and_call}
use Rattle.dir_model.proofs.Moments.{found, at_before}
use Rattle.image_removal.specs.Requests.{looks_at_folder}
use Rattle.image_removal.proofs.Causes.{look_absent}
use Rattle.image_removal.proofs.Lawful.{look_never, look_finds_none}
use Rattle.image_removal.proofs.Knowing.{look_knows, missed_knows}
use Rattle.image_removal.proofs.Ends.{worked_look, worked_miss}
use Rattle.image_removal.proofs.look.is_there.Goals as goal

pub returns-in-Ok-clause-worked : goal.returns-in-Ok-clause-worked
returns-in-Ok-clause-worked g c = worked_look c.args.spot c.in-Ok.handle c.in-Ok.ensures.unopened c.in-Ok.ensures.called c.close.ensures.called

pub returns-in-Ok-clause-known : goal.returns-in-Ok-clause-known
returns-in-Ok-clause-known g c t = look_knows t c.in-Ok.ensures.unopened c.in-Ok.ensures.called c.close.ensures.called

pub returns-in-Err-clause-worked : goal.returns-in-Err-clause-worked
returns-in-Err-clause-worked g c = worked_miss c.args.spot c.in-Err.error c.in-Err.ensures.called

pub returns-in-Err-clause-absent : goal.returns-in-Err-clause-absent
returns-in-Err-clause-absent g c is t = look_absent c.in-Err.error (sym c.look_answer.ensures ∙ is) t c.in-Err.ensures.called

pub returns-in-Err-clause-known : goal.returns-in-Err-clause-known
returns-in-Err-clause-known g c t = missed_knows t c.in-Err.ensures.called

pub returns-in-Ok-clause-present : goal.returns-in-Ok-clause-present
returns-in-Ok-clause-present g c is t =
    let D = g.D.Dir in
    at_before (found (D.shown c.args.dir.now).process (D.shown c.args.dir.now).trace c.args.spot Own c.in-Ok.handle (D.shown c.open.new.self).trace (c.in-Ok.ensures.called.step t))
    c.in-Ok.ensures.called.same (and_call {asks = looks_at_folder c.args.spot} nothing_yet refl refl (c.close.ensures.called.step t))

pub returns-in-Err-clause-never_stray : goal.returns-in-Err-clause-never_stray
returns-in-Err-clause-never_stray g c is = look_never c.args.spot c.in-Err.error c.in-Err.ensures.refusals (sym c.look_answer.ensures ∙ is)

pub returns-in-Err-clause-present : goal.returns-in-Err-clause-present
returns-in-Err-clause-present g c is t = absurd (look_finds_none c.in-Err.error (sym c.look_answer.ensures ∙ is))
