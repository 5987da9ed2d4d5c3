-- The names of the labels before a place, as a set of texts has them.
use Rattle.std.proofs.Common.{◌≡◌, ℕ, ◌<◌, ◌+◌, ◌||◌, Bool, true, false, not, List, [], ◌∷◌, ◌++◌, get_or, length, map, take, refl, sym, ◌∙◌, ap, subst}
use Rattle.std.specs.List.{list_any}
use Rattle.std.specs.Str.{bytes_eq}
use Rattle.std.proofs.lemmas.List.{take_more, map-append}
use Rattle.ac_types.specs.Labels.{name_at, came_before}
use Rattle.ac_types.specs.SeenTexts.{HasSeen, is_among}
use Rattle.ac_types.specs.declared.label.Label.{Label}
use Rattle.ac_types.specs.declared.seen_texts.SeenTexts.{SeenTexts}
use Rattle.ac_types.proofs.LabelPlaces.{before}

-- the names of labels
abbrev pub names : List Label → List (List ℕ)
names ls = map (λ (l : Label). l.name) ls

any_named : (name : List ℕ) (ls : List Label) → list_any (λ (l : Label). bytes_eq l.name name) ls ≡ is_among name (names ls)
any_named name [] = refl
any_named name (l ∷ ls) = ap (λ (b : Bool). bytes_eq l.name name || b) (any_named name ls)

turned : (among new b : Bool) → new ≡ not among → new ≡ b → among ≡ not b
turned true new b is h = sym (ap not (sym h ∙ is))
turned false new b is h = sym (ap not (sym h ∙ is))

-- whether a name that is taken in came before
pub name_seen : (seen : SeenTexts) (ls : List Label) (i : ℕ) {name : List ℕ} {new b : Bool} → name_at ls i ≡ name
    → HasSeen seen (names (take i ls))
    → ((texts : List (List ℕ)) → HasSeen seen texts → new ≡ not (is_among name texts)) → new ≡ b
    → came_before ls i ≡ not b
name_seen seen ls i {name} {new} {b} is has told found =
    before ls i is (any_named name (take i ls)
    ∙ turned (is_among name (names (take i ls))) new b (told (names (take i ls)) has) found)

-- the names up to the next place
pub names_next : (seen : SeenTexts) (ls : List Label) (i : ℕ) (l : Label) {name : List ℕ} → i < length ls → l ≡ get_or ls i l
    → name ≡ l.name → HasSeen seen (names (take i ls) ++ name ∷ []) → HasSeen seen (names (take (i + 1) ls))
names_next seen ls i l {name} within is named has =
    let P : List (List ℕ) → Type 0 = λ ns. HasSeen seen ns in
    let same : names (take (i + 1) ls) ≡ names (take i ls) ++ name ∷ [] =
    ap names (take_more ls i l within ∙ ap (λ (m : Label). take i ls ++ m ∷ []) (sym is))
    ∙ map-append (λ (m : Label). m.name) (take i ls) (l ∷ [])
    ∙ ap (λ (n : List ℕ). names (take i ls) ++ n ∷ []) (sym named) in
    subst P (sym same) has
