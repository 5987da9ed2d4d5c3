use Rattle.std.proofs.Common.{rules, ◌<◌, length}
use Rattle.host_spawner.proofs.Places.{there, elsewhere}
use Rattle.host_spawner.proofs.children.wait_for.Goals as goal

pub returns-in-Ok-clause-ended : goal.returns-in-Ok-clause-ended
returns-in-Ok-clause-ended g c =
    let within : c.args.child.number < length c.args.children.now.items = search rules in
    record {
      child = c.wait.new.self;
      at = there c.args.children.now.items c.args.child.number c.wait.new.self within;
      status = c.in-Ok.status;
      ended = c.in-Ok.ensures.kept;
      tells = c.status_of.ensures;
    }

pub returns-in-Ok-clause-others : goal.returns-in-Ok-clause-others
returns-in-Ok-clause-others g c = elsewhere c.args.children.now.items c.args.child.number c.wait.new.self

pub returns-in-Err-clause-others : goal.returns-in-Err-clause-others
returns-in-Err-clause-others g c = elsewhere c.args.children.now.items c.args.child.number c.wait.new.self
