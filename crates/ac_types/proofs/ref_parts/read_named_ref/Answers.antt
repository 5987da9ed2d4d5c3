use Rattle.std.proofs.Common.{◌≡◌, ◌+◌, ◌∙◌, ap, arith, length, List, ℕ, Bor}
use Rattle.ac_types.specs.ReferenceSteps.{parts_size}
use Rattle.ac_types.proofs.RefSteps.{parts_size_split, texts}
use Rattle.ac_types.proofs.ref_parts.read_named_ref.Goals as goal

pub read_parts-requires : goal.read_parts-requires
read_parts-requires c =
    let size : parts_size (texts c.as_slice.result.now) ≡ length c.args.word.now + 1 =
    ap (λ (ps : List (Bor (List ℕ))). parts_size (texts ps)) c.as_slice.ensures.value ∙ ap parts_size c.in-Ok.ensures
    ∙ parts_size_split _ c.args.word.now in
    omega (arith, size, c.end_of-end.ensures)
