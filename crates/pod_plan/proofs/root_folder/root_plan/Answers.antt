use Rattle.std.proofs.Common.{◌≡◌, rules, codes, true, None, Option, List, ℕ, refl, sym, ap, subst, ◌∙◌}
use Rattle.std.specs.Vec.Iter.{into_iter_items}
use Rattle.path_map.specs.After.{is_after}
use Rattle.tree_digest.specs.declared.line.ListingLine.{ListingLine}
use Rattle.folder_building.specs.TreePlans.{tree_entries, CarriesOn, MakesTree}
use Rattle.pod_plan.specs.PodPlans.{root_entries}
use Rattle.pod_plan.specs.RootSteps.{path_before}
use Rattle.pod_plan.proofs.Behind.{comes_behind}
use Rattle.pod_plan.proofs.Roots.{goes_on, carries_on, makes_tree}
use Rattle.pod_plan.proofs.root_folder.root_plan.Goals as goal

pub lines-preserved : goal.lines-preserved
lines-preserved c = record {
  place = rw c.lines.invariant.place refl;
  at =
      goes_on c.args.images.now c.args.app.now c.as_slice-lines.result.now c.lines.line-index c.line-item.result c.args.plan.items (into_iter_items c.lines.made) (into_iter_items c.take_next-entry.new.made) c.lines.plan.items c.add.new.plan.items
      c.take_next-entry.result c.image_of-image.result (search (rules, c.lines-test.true)) c.lines.invariant.at (search (rules, c.line-item.is, c.take_next-entry.ensures.taken)) (search (rules, c.line-item.is, c.take_next-entry.ensures.left))
      (search (rules, c.line-item.is, c.image_of-image.ensures)) (search (rules, c.in_ok-add.ensures));
}

pub image_of-image-requires : goal.image_of-image-requires
image_of-image-requires c =
    let lines = c.as_slice-lines.result.now in
    subst (λ (behind : Option (List ℕ)). is_after behind c.line-item.result.path ≡ true) (sym (c.path_before.ensures ∙ ap (path_before lines) c.lines.invariant.place))
    (subst (λ (line : ListingLine). is_after (path_before lines c.lines.line-index) line.path ≡ true) (sym c.line-item.is)
    (comes_behind lines (search (rules, c.as_slice-lines.ensures)) c.lines.line-index c.line-item.result c.lines-test.true))

pub returns-clause-plan : goal.returns-clause-plan
returns-clause-plan c =
    subst (λ (r : List ℕ). CarriesOn r (codes "rootfs") (root_entries c.args.images.now c.args.app.now c.args.app.now.listing)) (sym c.requires.root)
    (carries_on c.args.images.now c.args.app.now c.args.app.now.listing (subst (λ (r : List ℕ). CarriesOn r (codes "rootfs") (tree_entries r None (codes "rootfs") c.args.app.now.listing)) c.requires.root c.in_ok-tree.ensures.plan))

pub returns-clause-tree : goal.returns-clause-tree
returns-clause-tree c =
    subst (λ (r : List ℕ). MakesTree r c.args.app.now.listing (root_entries c.args.images.now c.args.app.now c.args.app.now.listing)) (sym c.requires.root)
    (makes_tree c.args.images.now c.args.app.now c.args.app.now.listing (subst (λ (r : List ℕ). MakesTree r c.args.app.now.listing (tree_entries r None (codes "rootfs") c.args.app.now.listing)) c.requires.root c.in_ok-tree.ensures.tree))
