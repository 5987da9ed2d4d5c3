-- The apps of a pod, made one after the other.
use Rattle.std.proofs.Common.{◌≡◌, ◌<◌, ◌+◌, ℕ, suc, List, [], ◌∷◌, ◌++◌, length, get_or, drop, sym, ap, ◌∙◌, append_assoc, append-nil}
use Rattle.std.proofs.lemmas.List.{drop_more}
use Rattle.manifests.specs.declared.runtime_app.RuntimeApp.{RuntimeApp}
use Rattle.pod_plan.specs.declared.app_root.Root.{Root}
use Rattle.pod_plan.specs.declared.pod_app.PodApp.{PodApp}
use Rattle.pod_plan.specs.Plans.{app_with_root, apps_with}

-- so many apps are made, and the others are to be made of the roots that are left
pub record AreMadeTo (manifests : List (List ℕ)) (picks : List ℕ) (named : List RuntimeApp) (roots : List Root) (i : ℕ) (left : List Root) (apps : List PodApp) : Type 0 where
  pub made : apps ++ apps_with manifests (drop i picks) (drop i named) left ≡ apps_with manifests picks named roots
  pub some : length left ≡ length (drop i picks)

module _ (manifests : List (List ℕ)) (picks : List ℕ) (named : List RuntimeApp) (roots : List Root) where
  pub none_made : (left : List Root) (apps : List PodApp) → left ≡ roots → apps ≡ [] → length roots ≡ length picks → AreMadeTo manifests picks named roots 0 left apps
  none_made left apps l a all = record {
    made = ap (λ (xs : List PodApp). xs ++ apps_with manifests picks named left) a ∙ ap (λ (rs : List Root). apps_with manifests picks named rs) l;
    some = ap (λ (rs : List Root). length rs) l ∙ all;
  }

  -- one app more
  pub made_more : (i pick : ℕ) (app : RuntimeApp) (root : Root) (left rest : List Root) (apps more : List PodApp) → i < length picks → i < length named → pick ≡ get_or picks i 0 → app ≡ get_or named i app → left ≡ root ∷ rest
      → more ≡ apps ++ app_with_root app (get_or manifests pick []) root ∷ [] → AreMadeTo manifests picks named roots i left apps → AreMadeTo manifests picks named roots (i + 1) rest more
  made_more i pick app root left rest apps more within known at is next grown before =
      let ps = drop (i + 1) picks in
      let others = drop (i + 1) named in
      let x = app_with_root app (get_or manifests pick []) root in
      let picked : drop i picks ≡ pick ∷ ps = drop_more picks i 0 within ∙ ap (λ (p : ℕ). p ∷ ps) (sym at) in
      let called : drop i named ≡ app ∷ others = drop_more named i app known ∙ ap (λ (a : RuntimeApp). a ∷ others) (sym is) in
      let whole : apps_with manifests (drop i picks) (drop i named) left ≡ x ∷ apps_with manifests ps others rest =
      ap (λ (l : List ℕ). apps_with manifests l (drop i named) left) picked
      ∙ (ap (λ (l : List RuntimeApp). apps_with manifests (pick ∷ ps) l left) called ∙ ap (λ (l : List Root). apps_with manifests (pick ∷ ps) (app ∷ others) l) next) in
      let long : suc (length rest) ≡ suc (length ps) = sym (ap (λ (l : List Root). length l) next) ∙ (before.some ∙ ap (λ (l : List ℕ). length l) picked) in
      record {
        made = ap (λ (l : List PodApp). l ++ apps_with manifests ps others rest) grown ∙ (append_assoc apps (x ∷ []) (apps_with manifests ps others rest) ∙ (ap (λ (l : List PodApp). apps ++ l) (sym whole) ∙ before.made));
        some = cc;
      }

  -- all are made
  pub all_made : (i : ℕ) (left : List Root) (apps : List PodApp) → drop i picks ≡ [] → AreMadeTo manifests picks named roots i left apps → apps ≡ apps_with manifests picks named roots
  all_made i left apps none known = sym (append-nil apps) ∙ (ap (λ (l : List ℕ). apps ++ apps_with manifests l (drop i named) left) (sym none) ∙ known.made)
