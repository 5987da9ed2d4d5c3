-- The names of a pod's apps, one after the other.
use Rattle.std.proofs.Common.{◌≡◌, ◌<◌, ◌+◌, ℕ, List, [], ◌∷◌, ◌++◌, length, take, drop, map, get_or, refl, sym, ap, ◌∙◌}
use Rattle.std.proofs.lemmas.List.{take_more, drop_more, take-append-drop}
use Rattle.dir_model.proofs.Lists.{map_push}
use Rattle.manifests.specs.declared.runtime_app.RuntimeApp.{RuntimeApp}

abbrev pub names : List RuntimeApp → List (List ℕ)
names apps = map (λ a. a.name) apps

pub names_append : (xs ys : List RuntimeApp) → names (xs ++ ys) ≡ names xs ++ names ys
names_append [] ys = refl
names_append (x ∷ xs) ys = ap (λ (l : List (List ℕ)). x.name ∷ l) (names_append xs ys)

pub names_more : (apps : List RuntimeApp) (i : ℕ) (app : RuntimeApp) → i < length apps → app ≡ get_or apps i app → names (take (i + 1) apps) ≡ names (take i apps) ++ app.name ∷ []
names_more apps i app h is = ap names (take_more apps i app h ∙ ap (λ (a : RuntimeApp). take i apps ++ a ∷ []) (sym is)) ∙ map_push (λ a. a.name) (take i apps) app

-- one of them, the ones before it and those behind
pub names_around : (apps : List RuntimeApp) (i : ℕ) (app : RuntimeApp) → i < length apps → app ≡ get_or apps i app → names apps ≡ names (take i apps) ++ app.name ∷ names (drop (i + 1) apps)
names_around apps i app h is =
    ap names (sym (take-append-drop i apps) ∙ ap (λ (l : List RuntimeApp). take i apps ++ l) (drop_more apps i app h ∙ ap (λ (a : RuntimeApp). a ∷ drop (i + 1) apps) (sym is)))
    ∙ names_append (take i apps) (app ∷ drop (i + 1) apps)
