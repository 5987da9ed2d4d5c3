use Rattle.std.proofs.Common.{◌<◌, take, length, get_or, sym, ap, subst, ◌∙◌, arith}
use Rattle.std.proofs.lemmas.List.{take_more}
use Rattle.dir_memory.specs.MemoryBundles.{bundle_tree_of, AreFound}
use Rattle.dir_memory.proofs.BundleListings.{kinds_more, found_more}
use Rattle.dir_memory.proofs.listing.kinds_in.Goals as goal

pub entries-preserved : goal.entries-preserved
entries-preserved c =
    let inside : c.entries.entry-index < length c.args.entries.now = omega arith in
    record {
      kinds = kinds_more (bundle_tree_of c.args.entries.now) c.args.directory.now c.entries.kinds c.add.new.kinds c.in_ok-found.found c.entries.invariant.kinds c.in_ok-found.ensures.kind c.in_ok-add.ensures;
      found = subst (λ seen. AreFound (bundle_tree_of c.args.entries.now) c.args.directory.now seen c.add.new.kinds) (sym (take_more c.args.entries.now c.entries.entry-index c.entry-item.result inside))
          (found_more (bundle_tree_of c.args.entries.now) c.args.directory.now (take c.entries.entry-index c.args.entries.now) (get_or c.args.entries.now c.entries.entry-index c.entry-item.result) c.as_slice.result.now c.entries.kinds c.add.new.kinds c.in_ok-found.found c.entries.invariant.found
          (c.as_slice.ensures ∙ ap (λ e. e.path) c.entry-item.is) c.in_ok-found.ensures.found c.in_ok-add.ensures);
    }
