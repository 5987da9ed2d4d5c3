use Rattle.std.proofs.Common.{◌≡◌, ◌+◌, ◌∷◌, ◌++◌, [], take, subst, sym, ap, ◌∙◌}
use Rattle.std.proofs.lemmas.List.{take_more, take_all}
use Rattle.path_map.specs.Entries.{entry_at}
use Rattle.path_map.specs.Overlay.{overlaid}
use Rattle.path_map.proofs.Rising.{same_from_tree}
use Rattle.tree_digest.specs.Listings.{entries_of, AllFollow, Follows}
use Rattle.path_map.proofs.EachEntries.{same_each}
use Rattle.tree_digest.proofs.Listables.{IsListableAt}
use Rattle.tree_digest.proofs.MapLines.{none_known, known_at, lay_next, rising_lines, listing_is_listable}
use Rattle.tree_digest.proofs.listing.Listing.to_map.Goals as goal

pub loop-line-preserved : goal.loop-line-preserved
loop-line-preserved c = λ q.
    let lines = c.as_slice-lines.result.now in
    let all = subst (AllFollow []) (sym c.as_slice-lines.ensures.lines) c.as_slice-lines.ensures.kind.follow in
    let i = c.loop-line.line-index in
    let line = c.line-item.result in
    let known = known_at [] lines i line none_known all c.loop-line-test.true in
    let next = subst (λ l. Follows (take i lines) l) (sym c.line-item.is) known.1 in
    let more : take i lines ++ line ∷ [] ≡ take (i + 1) lines = ap (λ l. take i lines ++ l ∷ []) c.line-item.is ∙ sym (take_more lines i line c.loop-line-test.true) in
    c.in_ok-map.ensures q
    ∙ ap (λ p. overlaid (entry_at c.loop-line.map) p c.in_ok-copy-2.field-0 q) c.in_ok-copy.ensures
    ∙ ap (λ e. overlaid (entry_at c.loop-line.map) line.path e q) c.in_ok-copy-2.ensures
    ∙ lay_next (take i lines) line known.0 next (entry_at c.loop-line.map) c.loop-line.invariant q
    ∙ ap (λ ls. entry_at (entries_of ls) q) more

pub returns-clause-map : goal.returns-clause-map
returns-clause-map c =
    same_from_tree c.loop-line.map (entries_of c.args.self.now) c.iter-entries.ensures.kind.rising (rising_lines [] c.args.self.now c.as_slice-lines.ensures.kind.follow)
    (λ q.
    c.loop-line.invariant q
    ∙ ap (λ ls. entry_at (entries_of ls) q) (take_all c.loop-line.line-index c.as_slice-lines.result.now c.loop-line-test.false ∙ c.as_slice-lines.ensures.lines))

pub returns-clause-listable : goal.returns-clause-listable
returns-clause-listable c =
    let lines = c.as_slice-lines.result.now in
    let whole : take c.loop-line.line-index lines ≡ c.args.self.now = take_all c.loop-line.line-index lines c.loop-line-test.false ∙ c.as_slice-lines.ensures.lines in
    same_each IsListableAt (entry_at (entries_of c.args.self.now)) (entry_at c.loop-line.map)
    (λ q. c.loop-line.invariant q ∙ ap (λ ls. entry_at (entries_of ls) q) whole)
    (listing_is_listable c.args.self.now c.as_slice-lines.ensures.kind.follow)
