use Rattle.std.proofs.Common.{◌≡◌, ◌==◌, true, false, length, sym, ◌∙◌}
use Rattle.dir_memory.proofs.BundlePaths.{below_prefix}
use Rattle.dir_memory.proofs.listing.behind.Goals as goal

pub returns-then-not-lies_below : goal.returns-then-not-lies_below
returns-then-not-lies_below c = λ rest e.
    let other : (length c.args.directory.now == 0) ≡ false = sym c.is_empty.ensures ∙ c.if-is_empty.false in
    let below : c.lies_below.result ≡ true = c.lies_below.ensures.below ∙ below_prefix c.args.path.now c.args.directory.now rest other e in
    let no : c.lies_below.result ≡ false = c.if-not-lies_below.true in
    cc
