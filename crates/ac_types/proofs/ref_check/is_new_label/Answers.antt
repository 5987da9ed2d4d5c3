use Rattle.std.proofs.Common.{false, sym, ◌∙◌, take, Bor, List, ℕ}
use Rattle.std.specs.Prelude.{option_map}
use Rattle.ac_types.specs.ReferenceSteps.{parts_in}
use Rattle.ac_types.proofs.RefChecks.{version_again, new_by_tests}
use Rattle.ac_types.proofs.ref_check.is_new_label.Goals as goal

pub returns-then-is_version : goal.returns-then-is_version
returns-then-is_version c =
    version_again c.args.versioned (take c.args.count (parts_in (option_map (λ (t : Bor (List ℕ)). t.now) c.args.labels)))
    c.args.part.now c.in-Some.name.now c.in-Some.ensures (sym c.eq.ensures ∙ c.if-eq.false) (sym c.is_version.ensures ∙ c.if-is_version.true)

pub returns : goal.returns
returns c =
    new_by_tests c.args.versioned (take c.args.count (parts_in (option_map (λ (t : Bor (List ℕ)). t.now) c.args.labels)))
    c.args.part.now c.in-Some.name.now false false c.came_before.result c.in-Some.ensures (sym c.eq.ensures ∙ c.if-eq.false)
    (sym c.is_version.ensures ∙ c.if-is_version.false) (sym c.came_before.ensures)
