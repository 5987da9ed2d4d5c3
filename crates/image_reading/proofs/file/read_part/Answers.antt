use Rattle.std.proofs.Common.{◌≡◌, true, ℕ, List, take, IsSomeAnd, subst}
use Rattle.dir_model.specs.declared.spot.Spot.{Spot}
use Rattle.dir_files.specs.Reads.{inner_at, FileStaysBetween}
use Rattle.image_reading.proofs.Asking.{image_file_at}
use Rattle.image_reading.proofs.Trees.{no_tree_file}
use Rattle.image_reading.proofs.file.read_part.Goals as goal

pub returns-in-Ok-clause-only : goal.returns-in-Ok-clause-only
returns-in-Ok-clause-only g c = image_file_at c.args.key c.args.name.now c.in_ok-spot.spot c.in_ok-spot.ensures.spot c.read_file.ensures.only

pub returns-in-Err-clause-only : goal.returns-in-Err-clause-only
returns-in-Err-clause-only g c = image_file_at c.args.key c.args.name.now c.in_ok-spot.spot c.in_ok-spot.ensures.spot c.read_file.ensures.only

pub returns-in-Ok-clause-whole : goal.returns-in-Ok-clause-whole
returns-in-Ok-clause-whole g c =
    let D = g.D.Dir in
    subst
    (λ (x : Spot). D.observed ≡ true → (file : List ℕ) → FileStaysBetween (inner_at x c.args.name.now) file (D.shown c.args.dir.now) (D.shown c.read_file.new.dir) → IsSomeAnd c.in-Ok.found (λ bytes. bytes.items ≡ take c.args.most file))
    c.in_ok-spot.ensures.spot c.in-Ok.ensures.whole

pub returns-in-Ok-clause-trees : goal.returns-in-Ok-clause-trees
returns-in-Ok-clause-trees g c other = no_tree_file c.in_ok-spot.spot c.args.name.now other c.read_file.ensures.only

pub returns-in-Err-clause-trees : goal.returns-in-Err-clause-trees
returns-in-Err-clause-trees g c other = no_tree_file c.in_ok-spot.spot c.args.name.now other c.read_file.ensures.only
