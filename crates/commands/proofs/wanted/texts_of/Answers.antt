use Rattle.std.proofs.Common.{◌∷◌, ◌++◌, [], ◌∙◌, List, ℕ, Some, ap, sym}
use Rattle.commands.proofs.Words.{take_one}
use Rattle.commands.proofs.wanted.texts_of.Goals as goal

pub words-preserved : goal.words-preserved
words-preserved c =
    let words = c.args.words.now in
    let place = c.words.place in
    c.in_ok-push-in-Some.ensures.items ∙ (ap (λ (l : List (List ℕ)). l ++ c.in_ok-of-in-Some.field-0 ∷ []) c.words.invariant ∙ sym (take_one words place c.in_ok-of-in-Some.field-0 (sym c.in-Some.ensures ∙ ap Some (sym c.in_ok-of-in-Some.ensures))))
