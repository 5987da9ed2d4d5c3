use Rattle.std.proofs.Common.{cond, sym, ap, ◌∙◌, Some}
use Rattle.std.specs.Cmp.Lexicographic.{slice_cmp, texts_ties}
use Rattle.std.specs.Ordering.{nat_cmp}
use Rattle.std.specs.BTreeMap.{get}
use Rattle.dir_memory.proofs.listing.add.Goals as goal

pub returns : goal.returns
returns c = rw c.in-Some.is (λ name. c.in_ok-insert.ensures.updates.0 name ∙ ap (λ b. cond b (Some c.in-Some.item.kind) (get (slice_cmp nat_cmp) c.args.kinds.now name)) (sym (texts_ties c.in-Some.item.name name)))
