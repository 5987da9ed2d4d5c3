use Rattle.std.proofs.Common.{ap}
use Rattle.dir_model.specs.Reserved.{Reserved}
use Rattle.dir_model.specs.declared.event.Event.{Event}
use Rattle.dir_state.proofs.Pasts.{past_push}
use Rattle.dir_state.proofs.past.Past.add.Goals as goal

pub invariant_of-self : goal.invariant_of-self
invariant_of-self c = past_push c.args.self.now c.self.inside.events c.add_both.new.events c.self.inside.table c.add_both.new.table c.self.inside.spare c.args.event c.self.invariant (ap (λ (r : Reserved Event). r.items) c.self.view_is) c.requires.allowed c.add_both.ensures.events c.add_both.ensures.namespace c.add_both.ensures.trees c.add_both.ensures.state

pub returns-clause-run : goal.returns-clause-run
returns-clause-run c = (past_push c.args.self.now c.self.inside.events c.add_both.new.events c.self.inside.table c.add_both.new.table c.self.inside.spare c.args.event c.self.invariant (ap (λ (r : Reserved Event). r.items) c.self.view_is) c.requires.allowed c.add_both.ensures.events c.add_both.ensures.namespace c.add_both.ensures.trees c.add_both.ensures.state).run
