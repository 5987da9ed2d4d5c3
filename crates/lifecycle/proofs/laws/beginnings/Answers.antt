use Rattle.std.proofs.Common.{subst, List}
use Rattle.dir_model.specs.declared.event.Event.{Event}
use Rattle.lifecycle.specs.Executions.{IsConforming}
use Rattle.lifecycle.proofs.Draws.{conforming_left}
use Rattle.lifecycle.proofs.laws.beginnings.Goals as goal

pub returns : goal.returns
returns c = λ conforming before later is. conforming_left before later (subst (λ (x : List Event). IsConforming x) is conforming)
