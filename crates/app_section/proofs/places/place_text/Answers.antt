use Rattle.std.proofs.Common.{◌∙◌, sym, ap, true, false, List, ℕ, Bor, map, Some}
use Rattle.app_section.specs.Places.{joined}
use Rattle.app_section.proofs.PlaceTexts.{judged}
use Rattle.app_section.proofs.places.place_text.Goals as goal

pub returns-then-has_parent : goal.returns-then-has_parent
returns-then-has_parent c =
    let cut = ap (λ (ss : List (Bor (List ℕ))). map (λ s. s.now) ss) c.as_slice.ensures.value ∙ c.in_ok-segments.ensures in
    sym (judged c.args.text.now c.as_slice.result.now true
    (sym c.is_rooted.ensures ∙ c.if-not-is_rooted.false) (sym c.has_nul.ensures ∙ c.if-has_nul.false) cut
    (sym c.if-has_parent.true ∙ c.has_parent.ensures))

pub returns : goal.returns
returns c =
    let cut = ap (λ (ss : List (Bor (List ℕ))). map (λ s. s.now) ss) c.as_slice.ensures.value ∙ c.in_ok-segments.ensures in
    let again = c.as_slice.ensures.value ∙ sym c.as_slice-2.ensures.value in
    ap Some (c.in_ok-joined.ensures ∙ ap (λ (ss : List (Bor (List ℕ))). joined (map (λ s. s.now) ss)) (sym again))
    ∙ sym (judged c.args.text.now c.as_slice.result.now false
    (sym c.is_rooted.ensures ∙ c.if-not-is_rooted.false) (sym c.has_nul.ensures ∙ c.if-has_nul.false) cut
    (sym c.if-has_parent.false ∙ c.has_parent.ensures))
