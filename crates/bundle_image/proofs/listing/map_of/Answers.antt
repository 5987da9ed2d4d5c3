use Rattle.std.proofs.Common.{◌≡◌, ◌+◌, ◌∷◌, ◌++◌, [], take, subst, sym, ap, ◌∙◌}
use Rattle.std.specs.List.{AllByRecursion}
use Rattle.std.proofs.lemmas.List.{take_more, take_all}
use Rattle.path_map.specs.Entries.{entry_at}
use Rattle.path_map.specs.Overlay.{overlaid}
use Rattle.path_map.proofs.EachEntries.{same_each}
use Rattle.tree_digest.specs.Listings.{entries_of, IsListable}
use Rattle.tree_digest.proofs.Listables.{IsListableAt, overlay_keeps_listable}
use Rattle.bundle_image.specs.Walks.{ComesBefore}
use Rattle.bundle_image.specs.Work.{HasDirectories}
use Rattle.bundle_image.proofs.Laying.{later_at, directories_at, listable_at, lay_line}
use Rattle.bundle_image.proofs.Sums.{few_in_map}
use Rattle.bundle_image.proofs.listing.map_of.Goals as goal

pub loop-line-preserved : goal.loop-line-preserved
loop-line-preserved c =
    let lines = c.args.lines.now in
    let i = c.loop-line.line-index in
    let line = c.line-item.result in
    let inside = c.loop-line-test.true in
    let later = subst (λ l. AllByRecursion (λ k. ComesBefore k.path l.path) (take i lines)) (sym c.line-item.is) (later_at lines i line c.requires.order inside) in
    let has = subst (λ l. HasDirectories (take i lines) l.path) (sym c.line-item.is) (directories_at [] lines i line c.requires.directories inside) in
    let listable = subst (λ l. IsListable l.entry) (sym c.line-item.is) (listable_at lines i line c.requires.listable inside) in
    let more : take i lines ++ line ∷ [] ≡ take (i + 1) lines = ap (λ l. take i lines ++ l ∷ []) c.line-item.is ∙ sym (take_more lines i line inside) in
    record {
      same = λ q.
          c.in_ok-map.ensures q
          ∙ ap (λ p. overlaid (entry_at c.loop-line.map) p c.in_ok-copy-2.field-0 q) c.in_ok-copy.ensures
          ∙ ap (λ e. overlaid (entry_at c.loop-line.map) line.path e q) c.in_ok-copy-2.ensures
          ∙ lay_line (take i lines) line later has (entry_at c.loop-line.map) c.loop-line.invariant.same q
          ∙ ap (λ ls. entry_at (entries_of ls) q) more;
      listable = same_each IsListableAt (overlaid (entry_at c.loop-line.map) c.in_ok-copy.field-0 c.in_ok-copy-2.field-0) _ c.in_ok-map.ensures
          (overlay_keeps_listable (entry_at c.loop-line.map) c.in_ok-copy.field-0 c.in_ok-copy-2.field-0 c.loop-line.invariant.listable (subst IsListable (sym c.in_ok-copy-2.ensures) listable));
    }

pub returns-clause-few : goal.returns-clause-few
returns-clause-few c =
    few_in_map c.loop-line.map c.args.lines.now c.iter-entries.ensures.kind.rising c.requires.order
    (λ q. c.loop-line.invariant.same q ∙ ap (λ ls. entry_at (entries_of ls) q) (take_all c.loop-line.line-index c.args.lines.now c.loop-line-test.false)) c.requires.few
