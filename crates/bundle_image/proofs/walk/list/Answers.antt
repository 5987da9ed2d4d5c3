use Rattle.std.proofs.Common.{rules, ◌≡◌, ◌++◌, subst}
use Rattle.dir_trait.specs.Bundles.{Lists}
use Rattle.bundle_image.proofs.Reading.{reads_call}
use Rattle.bundle_image.proofs.Lists.{lists_in}
use Rattle.bundle_image.proofs.walk.list.Goals as goal

pub returns-in_err-items-clause-reads : goal.returns-in_err-items-clause-reads
returns-in_err-items-clause-reads g c =
    let is : c.as_str.result.now ≡ c.args.root.now ++ c.args.path.now = search rules in
    reads_call c.args.root.now (c.args.path.now, is) c.list.ensures.called

pub returns-in-Ok-clause-reads : goal.returns-in-Ok-clause-reads
returns-in-Ok-clause-reads g c =
    let is : c.as_str.result.now ≡ c.args.root.now ++ c.args.path.now = search rules in
    reads_call c.args.root.now (c.args.path.now, is) c.list.ensures.called

pub returns-clause-reads : goal.returns-clause-reads
returns-clause-reads g c =
    let is : c.as_str.result.now ≡ c.args.root.now ++ c.args.path.now = search rules in
    reads_call c.args.root.now (c.args.path.now, is) c.list.ensures.called

pub returns-in-Ok-clause-children : goal.returns-in-Ok-clause-children
returns-in-Ok-clause-children g c =
    let is : c.as_str.result.now ≡ c.args.root.now ++ c.args.path.now = search rules in
    record {
      items = c.in_ok-items.items;
      tasks = search rules;
      named = search rules;
      ordered = c.in_ok-items.ensures.ordered;
      listed = λ t. lists_in _ c.args.root.now c.args.path.now c.in_ok-items.items c.requires (subst (λ p. Lists (g.B.Bundle.shown c.args.bundle.now).tree p c.in_ok-items.items) is (c.in_ok-items.ensures.listed t));
    }
