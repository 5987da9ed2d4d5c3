-- Whether a text is a place, from its segments.
use Rattle.std.proofs.Common.{◌≡◌, ℕ, Bool, true, false, ◌||◌, List, [], ◌∷◌, Some, None, map, codes, Bor, refl, sym, ◌∙◌, ap}
use Rattle.std.specs.Prelude.{if◌then◌else◌}
use Rattle.std.specs.List.{list_any, slice_split}
use Rattle.std.specs.Str.{bytes_eq}
use Rattle.app_section.specs.Places.{is_slash, is_rooted, has_nul, has_parent, place_text, joined}

any_shown : (segments : List (Bor (List ℕ)))
    → list_any (λ (s : Bor (List ℕ)). bytes_eq s.now (codes "..")) segments ≡ has_parent (map (λ s. s.now) segments)
any_shown [] = refl
any_shown (s ∷ ss) = ap (λ (b : Bool). bytes_eq s.now (codes "..") || b) (any_shown ss)

by_parent : (t : List ℕ) (upward : Bool) → is_rooted t ≡ true → has_nul t ≡ false → has_parent (slice_split is_slash t) ≡ upward
    → place_text t ≡ (if upward then None else Some (joined (slice_split is_slash t)))
unfolding place_text
by_parent t true rooted nul parent = rw (rooted, nul, parent) refl
by_parent t false rooted nul parent = rw (rooted, nul, parent) refl

pub judged : (t : List ℕ) (segments : List (Bor (List ℕ))) (upward : Bool) → is_rooted t ≡ true → has_nul t ≡ false
    → map (λ s. s.now) segments ≡ slice_split is_slash t
    → upward ≡ list_any (λ (s : Bor (List ℕ)). bytes_eq s.now (codes "..")) segments
    → place_text t ≡ (if upward then None else Some (joined (map (λ s. s.now) segments)))
judged t segments upward rooted nul cut found =
    by_parent t upward rooted nul (sym (found ∙ any_shown segments ∙ ap has_parent cut))
    ∙ ap (λ (ss : List (List ℕ)). if upward then None else Some (joined ss)) (sym cut)
