use Rattle.std.proofs.Common.{rules, ◌≡◌, ◌++◌, subst}
use Rattle.bundle_image.specs.Reads.{ReadsWithin}
use Rattle.bundle_image.proofs.Reading.{reads_wider}
use Rattle.bundle_image.proofs.entry.link_entry.Goals as goal

pub returns-in-Ok-Some-clause-reads : goal.returns-in-Ok-Some-clause-reads
returns-in-Ok-Some-clause-reads g c =
    let is : c.as_str.result.now ≡ c.args.root.now ++ c.args.path.now = search rules in
    reads_wider c.args.root.now c.args.path.now (subst (λ p. ReadsWithin g.B.Bundle.observed p (g.B.Bundle.shown c.args.bundle.now) (g.B.Bundle.shown c.read_target.new.bundle)) is c.read_target.ensures.reads)

pub returns-in-Ok-None-clause-reads : goal.returns-in-Ok-None-clause-reads
returns-in-Ok-None-clause-reads g c =
    let is : c.as_str.result.now ≡ c.args.root.now ++ c.args.path.now = search rules in
    reads_wider c.args.root.now c.args.path.now (subst (λ p. ReadsWithin g.B.Bundle.observed p (g.B.Bundle.shown c.args.bundle.now) (g.B.Bundle.shown c.read_target.new.bundle)) is c.read_target.ensures.reads)

pub returns-clause-reads : goal.returns-clause-reads
returns-clause-reads g c =
    let is : c.as_str.result.now ≡ c.args.root.now ++ c.args.path.now = search rules in
    reads_wider c.args.root.now c.args.path.now (subst (λ p. ReadsWithin g.B.Bundle.observed p (g.B.Bundle.shown c.args.bundle.now) (g.B.Bundle.shown c.read_target.new.bundle)) is c.read_target.ensures.reads)
