use Rattle.std.proofs.Common.{◌≡◌, ◌+◌, ◌++◌, ◌∷◌, [], true, List, Result, Ok, Err, OnOk, sym, ap, subst, ◌∙◌}
use Rattle.plain_laws.proofs.Lists.{filter_kept}
use Rattle.dir_model.specs.declared.event.Event.{Event}
use Rattle.dir_model.specs.declared.request.Reply.TheVariants.{Begun}
use Rattle.dir_model.specs.Calls.{event}
use Rattle.dir_memory.specs.Schedules.{is_due, with_steps}
use Rattle.dir_memory.proofs.Schedules.{none_due}
use Rattle.dir_memory.proofs.step.begin_step.Goals as goal

always : {T E P : Type 0} (r : Result T E) → P → OnOk r P
always (Ok x) p = p
always (Err e) p = tt

pub returns-clause-grown : goal.returns-clause-grown
returns-clause-grown c =
    let n = c.args.calls + 1 in
    let came = sym (ap (with_steps c.args.me c.others_step.new.past.items) (none_due (is_due n true) c.others_step.new.pending.items c.in_ok-others_step.ensures.all)) ∙ c.others_step.ensures.first in
    subst (λ (h : List Event). OnOk c.begin_listing.result (c.begin_listing.new.past.items ≡ h ++ event c.args.me c.args.request.now Begun ∷ [])) came c.begin_listing.ensures.grown

pub returns-clause-steps : goal.returns-clause-steps
returns-clause-steps c = always c.begin_listing.result (sym (filter_kept (is_due (c.args.calls + 1) true) c.others_step.new.pending.items c.in_ok-others_step.ensures.all) ∙ c.others_step.ensures.later)
