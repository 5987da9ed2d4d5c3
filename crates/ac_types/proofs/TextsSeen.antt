-- A set of texts beside the list of those that went into it.
use Rattle.std.proofs.Common.{◌≡◌, ℕ, Bool, true, false, ◌||◌, List, [], ◌∷◌, ◌++◌, refl, sym, ◌∙◌, ap}
use Rattle.std.specs.Prelude.{if◌then◌else◌}
use Rattle.std.specs.Str.{bytes_eq}
use Rattle.std.proofs.lemmas.List.Folds.{list_any-append}
use Rattle.ac_types.specs.SeenTexts.{is_among}

either : (new old : Bool) → (if new then true else old) ≡ (old || (new || false))
either true true = refl
either true false = refl
either false true = refl
either false false = refl

-- one text more at the end
pub among_more : (text query : List ℕ) (texts : List (List ℕ)) (before : Bool) → before ≡ is_among query texts
    → (if bytes_eq text query then true else before) ≡ is_among query (texts ++ text ∷ [])
among_more text query texts before is =
    either (bytes_eq text query) before
    ∙ ap (λ (b : Bool). b || (bytes_eq text query || false)) is
    ∙ sym (list_any-append (λ (t : List ℕ). bytes_eq t query) texts (text ∷ []))
