use Rattle.std.proofs.Common.{◌+◌, Result, Ok, Err, OnOk, sym, ap, ◌∙◌}
use Rattle.plain_laws.proofs.Lists.{filter_kept}
use Rattle.dir_memory.specs.Schedules.{is_due, with_steps}
use Rattle.dir_memory.proofs.Schedules.{none_due}
use Rattle.dir_memory.proofs.step.steps_come.Goals as goal

then_so : {T E A B : Type 0} (r : Result T E) → OnOk r A → (A → B) → OnOk r B
then_so (Ok x) a f = f a
then_so (Err e) a f = tt

pub returns-clause-arrived : goal.returns-clause-arrived
returns-clause-arrived c =
    let t = is_due (c.args.calls + 1) c.args.listing in
    then_so c.others_step.result c.others_step.ensures.all (λ all. sym (ap (with_steps c.args.me c.others_step.new.past.items) (none_due t c.others_step.new.pending.items all)) ∙ c.others_step.ensures.first)

pub returns-clause-left : goal.returns-clause-left
returns-clause-left c =
    let t = is_due (c.args.calls + 1) c.args.listing in
    then_so c.others_step.result c.others_step.ensures.all (λ all. sym (filter_kept t c.others_step.new.pending.items all) ∙ c.others_step.ensures.later)
