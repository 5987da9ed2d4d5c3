use Rattle.std.proofs.Common.{[], subst}
use Rattle.dir_model.specs.declared.spot.Spot.{Spot}
use Rattle.dir_model.specs.Replies.{items_reply}
use Rattle.dir_files.specs.Reads.{inner_at}
use Rattle.dir_files.specs.Listed.{ShowsDirectoryBetween}
use Rattle.image_reading.proofs.Asking.{image_items_at, present_at, absent_at}
use Rattle.image_reading.proofs.Trees.{no_tree_items}
use Rattle.image_reading.proofs.moment.read_items.Goals as goal

pub returns-in-Ok-clause-only : goal.returns-in-Ok-clause-only
returns-in-Ok-clause-only g c = image_items_at c.args.key c.in_ok-spot.spot c.items_of.result c.in_ok-spot.ensures.spot c.items_of.ensures.called

pub returns-in-Err-Missing-clause-only : goal.returns-in-Err-Missing-clause-only
returns-in-Err-Missing-clause-only g c = image_items_at c.args.key c.in_ok-spot.spot c.items_of.result c.in_ok-spot.ensures.spot c.items_of.ensures.called

pub returns-in-Err-clause-only : goal.returns-in-Err-clause-only
returns-in-Err-clause-only g c = image_items_at c.args.key c.in_ok-spot.spot c.items_of.result c.in_ok-spot.ensures.spot c.items_of.ensures.called

pub returns-in-Ok-clause-there : goal.returns-in-Ok-clause-there
returns-in-Ok-clause-there g c t = present_at c.args.key c.in_ok-spot.spot c.in_ok-spot.ensures.spot t c.in-Ok.ensures.called

pub returns-in-Err-Missing-clause-there : goal.returns-in-Err-Missing-clause-there
returns-in-Err-Missing-clause-there g c t = let e = rw c.in-Err-Missing.field-0-is at c.in-Err-Missing.ensures in absent_at c.args.key c.in_ok-spot.spot c.in_ok-spot.ensures.spot t e.called

pub returns-in-Ok-clause-shows : goal.returns-in-Ok-clause-shows
returns-in-Ok-clause-shows g c t =
    let D = g.D.Dir in
    subst (λ (x : Spot). ShowsDirectoryBetween (D.shown c.args.dir.now) (D.shown c.items_of.new.dir) (inner_at x []) c.in-Ok.items) c.in_ok-spot.ensures.spot (c.in-Ok.ensures.shows t)

pub returns-in-Ok-clause-trees : goal.returns-in-Ok-clause-trees
returns-in-Ok-clause-trees g c = no_tree_items (inner_at c.in_ok-spot.spot []) (items_reply c.items_of.result) c.items_of.ensures.called

pub returns-in-Err-Missing-clause-trees : goal.returns-in-Err-Missing-clause-trees
returns-in-Err-Missing-clause-trees g c = no_tree_items (inner_at c.in_ok-spot.spot []) (items_reply c.items_of.result) c.items_of.ensures.called

pub returns-in-Err-clause-trees : goal.returns-in-Err-clause-trees
returns-in-Err-clause-trees g c = no_tree_items (inner_at c.in_ok-spot.spot []) (items_reply c.items_of.result) c.items_of.ensures.called
