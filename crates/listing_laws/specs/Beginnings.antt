-- Beginnings of texts.
use Rattle.std.specs.Prelude.{◌≡◌, ◌⊎◌, ℕ, List, [], ◌∷◌, ◌++◌}

-- a text is empty or ends with a line end
abbrev pub IsEnded : List ℕ → Type 0
IsEnded text = (text ≡ []) ⊎ ((line : List ℕ) × (text ≡ line ++ 10 ∷ []))
