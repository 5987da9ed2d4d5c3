-- The apps of a pod start under names of which no two are one.
use Rattle.std.proofs.Common.{◌≡◌, ℕ, bytes_eq, List, [], ◌∷◌, map, refl, sym, ap, subst, ◌∙◌}
use Rattle.std.specs.List.{IsDistinct}
use Rattle.manifests.specs.declared.runtime_app.RuntimeApp.{RuntimeApp}
use Rattle.manifests.specs.PodData.{RuntimeAppData, runtime_app_data}
use Rattle.dir_model.specs.declared.pod.PodId.{PodId}
use Rattle.dir_trait.specs.DirCalls.{DirAt}
use Rattle.stage1.specs.declared.root.Root.{Root}
use Rattle.stage1.specs.declared.start.AppStart.{AppStart}
use Rattle.stage1.specs.Starts.{AreStarts, ReadsStarts}

names_of : (pod : PodId) (address token : List ℕ) (apps : List RuntimeApp) (roots : List Root) (starts : List AppStart) → AreStarts pod address token apps roots starts → map (λ (a : RuntimeAppData). a.name) (map runtime_app_data apps) ≡ map (λ (a : AppStart). a.name) starts
names_of pod address token [] [] [] are = refl
names_of pod address token (app ∷ apps) (root ∷ roots) (start ∷ starts) are =
    ap (λ (n : List ℕ). n ∷ map (λ (a : RuntimeAppData). a.name) (map runtime_app_data apps)) (sym are.0.name) ∙ ap (λ (l : List (List ℕ)). start.name ∷ l) (names_of pod address token apps roots starts are.1)
names_of pod address token _ _ _ are = absurd are

pub distinct_starts : {d d' : DirAt} (pod : PodId) (address : List ℕ) (starts : List AppStart) → ReadsStarts pod address starts d d' → IsDistinct bytes_eq (map (λ a. a.name) starts)
distinct_starts pod address starts r = subst (λ (l : List (List ℕ)). IsDistinct bytes_eq l) (names_of pod address r.token r.manifest.apps r.found.roots starts r.found.are) r.kind.app_names
