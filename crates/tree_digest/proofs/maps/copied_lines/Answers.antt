use Rattle.std.proofs.Common.{◌≡◌, ◌++◌, ◌∷◌, [], List, ℕ, subst, sym, ap, ◌∙◌, rules}
use Rattle.std.specs.List.{All}
use Rattle.path_map.specs.declared.entry.Entry.{Entry}
use Rattle.tree_digest.specs.Lines.{IsEntry}
use Rattle.tree_digest.specs.Listings.{lines_of, AllFollow, IsListable}
use Rattle.std.proofs.Math.Path.{ap₂}
use Rattle.std.proofs.lemmas.List.{append_assoc}
use Rattle.std.proofs.lemmas.List.Elements.{All-nil, All-cons, All-append}
use Rattle.tree_digest.specs.declared.line.ListingLine.{ListingLine}
use Rattle.tree_digest.proofs.MapFollow.{map_follows, valid_entries}
use Rattle.tree_digest.proofs.Listables.{listable_in_list}
use Rattle.tree_digest.proofs.maps.copied_lines.Goals as goal

Fits : ListingLine → Type 0
Fits line = IsListable line.entry → IsEntry line.entry

pub loop-path-preserved : goal.loop-path-preserved
unfolding Fits
loop-path-preserved c =
    let lines = c.loop-path.lines.items in
    let rest = c.next.new.self in
    let p = c.in-Some.path.now in
    let e = c.in-Some.entry.now in
    let line : ListingLine = record { path = c.in_ok-copy.field-0; entry = c.fitting.result } in
    let step : c.loop-path.path-iterator ≡ (p, e) ∷ rest = c.in-Some.ensures.steps in
    let entry : c.fitting.result ≡ e = c.fitting.ensures.entry ∙ c.in_ok-copy-2.ensures in
    let same : line ≡ record { path = p; entry = e } = ap₂ (λ (k : List ℕ) (v : Entry). record { path = k; entry = v }) c.in_ok-copy.ensures entry in
    let pushed : c.push.new.self.items ≡ lines ++ line ∷ [] = c.in_ok-push.ensures.items in
    let fits : Fits line = subst (λ (v : Entry). IsListable v → IsEntry v) (sym c.fitting.ensures.entry) c.fitting.ensures.fits in
    record {
      lines = ap (λ ls. ls ++ lines_of rest) pushed ∙ append_assoc lines (line ∷ []) (lines_of rest) ∙ ap (λ l. lines ++ l ∷ lines_of rest) same ∙ ap (λ t. lines ++ lines_of t) (sym step) ∙ c.loop-path.invariant.lines;
      valid = subst (All Fits) (sym pushed) (All-append Fits lines (line ∷ []) c.loop-path.invariant.valid (All-cons Fits line [] fits (All-nil Fits)));
    }

pub returns-clause-follow : goal.returns-clause-follow
returns-clause-follow c =
    let map = c.args.map.now in
    let whole : c.loop-path.lines.items ≡ lines_of map = search rules in
    let listable = listable_in_list map c.iter-path-items.ensures.kind c.requires in
    let valid = valid_entries map c.loop-path.lines.items whole c.loop-path.invariant.valid listable in
    subst (AllFollow []) (sym whole) (map_follows map c.iter-path-items.ensures.kind valid listable)
