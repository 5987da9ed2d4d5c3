use Rattle.std.proofs.Common.{◌∙◌}
use Rattle.dir_memory.proofs.Own.{cut_allowed, whole_allowed, whole_plain, whole_ends, cut_ends, whole_fails}
use Rattle.dir_memory.proofs.step.end_step.Goals as goal

pub add_plain-requires-clause-allowed : goal.add_plain-requires-clause-allowed
add_plain-requires-clause-allowed c = whole_allowed c.args.past.now.items c.args.me c.args.request c.requires.may c.requires.about c.args.fails c.in-Ok.copy (c.in-Ok.ensures.same ∙ c.in-Ok.ensures.reply)

pub add_plain-requires-clause-plain : goal.add_plain-requires-clause-plain
add_plain-requires-clause-plain c = whole_plain c.args.past.now.items c.args.me c.args.request c.requires.may c.requires.about c.args.fails c.in-Ok.copy c.requires.asks (c.in-Ok.ensures.same ∙ c.in-Ok.ensures.reply)

pub add_plain-requires-in-Err-clause-allowed : goal.add_plain-requires-in-Err-clause-allowed
add_plain-requires-in-Err-clause-allowed c = cut_allowed c.args.past.now.items c.args.me c.args.request c.requires.may c.requires.about c.refused.result c.refused.ensures

pub returns-in-Ok-clause-ends : goal.returns-in-Ok-clause-ends
returns-in-Ok-clause-ends c = whole_ends c.args.past.now.items c.args.me c.args.request c.requires.may c.requires.about c.args.fails c.in-Ok.reply c.requires.asks c.in-Ok.ensures.reply

pub returns-in-Err-clause-ends : goal.returns-in-Err-clause-ends
returns-in-Err-clause-ends c = cut_ends c.args.past.now.items c.args.me c.args.request c.requires.may c.requires.about _ c.requires.asks c.refused-in-Err.ensures

pub returns-in-Ok-clause-whole : goal.returns-in-Ok-clause-whole
returns-in-Ok-clause-whole c whole = (c.in-Ok.ensures.arrived, c.in-Ok.ensures.reply, whole_fails c.args.past.now.items c.args.me c.args.request c.requires.may c.requires.about c.args.fails c.in-Ok.reply c.in-Ok.ensures.reply)
