use Rattle.demo_inputs.proofs.Dependencies.{pushed}
use Rattle.demo_inputs.proofs.manifest.push_dependencies.Goals as goal

pub returns : goal.returns
returns c = pushed c.args.image c.args.text.now c.push.new.self c.push_name.new.text c.push-2.new.self c.push-2.result c.if-image-eq0.false c.in_ok-push.ensures c.in_ok-push_name.ensures c.push-2.ensures
