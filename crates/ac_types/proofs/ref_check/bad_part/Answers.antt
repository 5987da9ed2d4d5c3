use Rattle.std.proofs.Common.{◌≡◌, ◌+◌, ◌∙◌, sym, subst, ap, arith, length, List, ℕ, Bor}
use Rattle.std.specs.Prelude.{option_map}
use Rattle.ac_types.specs.References.{named}
use Rattle.ac_types.specs.ReferenceSteps.{parts_in, StopsAt, parts_size}
use Rattle.ac_types.proofs.RefSteps.{parts_size_split}
use Rattle.ac_types.proofs.RefChecks.{labels_next}
use Rattle.ac_types.proofs.ref_check.bad_part.Goals as goal

pub bad_label-requires : goal.bad_label-requires
bad_label-requires c =
    let size : (length c.first_part.result.0.now + 1) + parts_size (parts_in (option_map (λ (t : Bor (List ℕ)). t.now) c.first_part.result.1))
    ≡ length c.args.word.now + 1 =
    ap parts_size (sym c.first_part.ensures) ∙ parts_size_split _ c.args.word.now in
    record { fits = omega (arith, size, c.end_of-end.ensures) }

pub returns-in-Ok : goal.returns-in-Ok
returns-in-Ok c =
    let P : List (List ℕ) → Type 0 = λ ps. StopsAt (named ps) c.bad_label.result in
    subst P (sym c.first_part.ensures)
    (labels_next c.first_part.result.0.now (parts_in (option_map (λ (t : Bor (List ℕ)). t.now) c.first_part.result.1)) c.in-Ok.versioned
    c.bad_label.result c.in-Ok.ensures.ok c.bad_label.ensures)
