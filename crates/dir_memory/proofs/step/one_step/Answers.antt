use Rattle.std.proofs.Common.{false, ◌≡◌, ◌+◌, ◌++◌, ◌∷◌, [], List, sym, ap, subst, ◌∙◌, Result, Ok, Err, IfOk, OnOk}
use Rattle.plain_laws.proofs.Lists.{filter_kept}
use Rattle.dir_model.specs.declared.event.Event.{Event}
use Rattle.dir_model.specs.Trace.{state_after}
use Rattle.dir_model.specs.Calls.{event}
use Rattle.dir_memory.specs.Schedules.{is_due, with_steps}
use Rattle.dir_memory.specs.Memories.{answer_or_failure}
use Rattle.dir_memory.proofs.Schedules.{none_due}
use Rattle.dir_memory.proofs.step.one_step.Goals as goal

always : {T E P : Type 0} (r : Result T E) → P → OnOk r P
always (Ok x) p = p
always (Err e) p = tt

pub returns-clause-reply : goal.returns-clause-reply
returns-clause-reply c =
    let n = c.args.calls + 1 in
    let came = sym (ap (with_steps c.args.me c.others_step.new.past.items) (none_due (is_due n false) c.others_step.new.pending.items c.in_ok-others_step.ensures.all)) ∙ c.others_step.ensures.first in
    subst (λ (h : List Event). IfOk c.own_step.result (λ reply. reply ≡ answer_or_failure c.args.fails (state_after h) c.args.me c.args.request)) came c.own_step.ensures.reply

pub returns-clause-grown : goal.returns-clause-grown
returns-clause-grown c =
    let n = c.args.calls + 1 in
    let came = sym (ap (with_steps c.args.me c.others_step.new.past.items) (none_due (is_due n false) c.others_step.new.pending.items c.in_ok-others_step.ensures.all)) ∙ c.others_step.ensures.first in
    subst (λ (h : List Event). IfOk c.own_step.result (λ reply. c.own_step.new.past.items ≡ h ++ event c.args.me c.args.request reply ∷ [])) came c.own_step.ensures.grown

pub returns-clause-steps : goal.returns-clause-steps
returns-clause-steps c = always c.own_step.result (sym (filter_kept (is_due (c.args.calls + 1) false) c.others_step.new.pending.items c.in_ok-others_step.ensures.all) ∙ c.others_step.ensures.later)
