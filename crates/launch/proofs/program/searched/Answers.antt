use Rattle.std.proofs.Common.{Bor, List, ℕ, map, length, sym, ap, ◌∙◌, arith, ◌<◌}
use Rattle.path_map.specs.Entries.{entry_at}
use Rattle.launch.specs.Programs.{found_among}
use Rattle.launch.proofs.Searched.{searched_more, searched_here}
use Rattle.launch.proofs.program.searched.Goals as goal

pub returns-in-Some : goal.returns-in-Some
returns-in-Some c =
    let items = c.deref-part-items.result.now in
    let inside : c.parts.part-index < length items = omega arith in
    sym (ap (λ (parts : List (List ℕ)). found_among (entry_at c.args.tree.now) c.args.word.now parts) (sym (ap (map (λ (p : Bor (List ℕ)). p.now)) c.deref-part-items.ensures.value ∙ c.in_ok-parts.ensures))
    ∙ searched_here (entry_at c.args.tree.now) c.args.word.now items c.parts.part-index _ c.in-Some.path inside c.parts.invariant (sym c.in_ok-path.ensures ∙ c.in-Some.is))

pub parts-preserved : goal.parts-preserved
parts-preserved c =
    let items = c.deref-part-items.result.now in
    let inside : c.parts.part-index < length items = omega arith in
    searched_more (entry_at c.args.tree.now) c.args.word.now items c.parts.part-index _ inside c.parts.invariant (sym c.in_ok-path.ensures ∙ c.in_default.is)
