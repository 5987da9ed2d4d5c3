use Rattle.std.proofs.Common.{◌≡◌, List, ℕ, Option, Ok, IfOk, subst}
use Rattle.std.specs.Prelude.{IfErr}
use Rattle.ac_types.specs.References.{head_part, version_labels}
use Rattle.ac_types.specs.ReferenceSteps.{IsRefused}
use Rattle.ac_types.proofs.ref_parts.read_head.Goals as goal

pub returns-in-Some-clause-ok : goal.returns-in-Some-clause-ok
returns-in-Some-clause-ok c =
    let P : Option (List ℕ × List ℕ) → Type 0 = λ o. IfOk c.read_versioned.result (λ h. head_part c.args.part.now o ≡ Ok (h.0, version_labels h.1)) in
    subst P c.in-Some.ensures (c.read_versioned.ensures.ok c.args.part.now)

pub returns-in-Some-clause-err : goal.returns-in-Some-clause-err
returns-in-Some-clause-err c =
    let P : Option (List ℕ × List ℕ) → Type 0 = λ o. IfErr c.read_versioned.result (IsRefused (head_part c.args.part.now o)) in
    subst P c.in-Some.ensures (c.read_versioned.ensures.err c.args.part.now)
