use Rattle.std.proofs.Common.{◌≡◌, ◌<◌, ℕ, zero, suc, List, length, map, get_or, sym, ◌∙◌, subst, arith}
use Rattle.std.specs.List.{All}
use Rattle.std.proofs.lemmas.Bool.{eqb-false}
use Rattle.std.proofs.lemmas.List.{get_or-map, length-map}
use Rattle.std.proofs.lemmas.Result.{MatchResult-weaker}
use Rattle.manifests.specs.ManifestRules.{IsMount, IsRuntimeApp}
use Rattle.manifests.specs.PodData.{runtime_app_data}
use Rattle.manifests.specs.declared.mount.Mount.{Mount}
use Rattle.manifests.specs.declared.runtime_app.RuntimeApp.{RuntimeApp}
use Rattle.pod_vectors.proofs.wishes.first_mounts.Goals as goal

some_there : (n : ℕ) → ((n ≡ 0) → ⊥) → 0 < n
some_there zero more = absurd (more (omega arith))
some_there (suc n) more = omega arith

mounts_good : (apps : List RuntimeApp) (app : RuntimeApp) → 0 < length apps → All IsRuntimeApp (map runtime_app_data apps)
    → All IsMount (get_or apps 0 app).mounts
mounts_good apps app some all =
    let within : 0 < length (map runtime_app_data apps) = rw length-map some in
    let here : get_or (map runtime_app_data apps) 0 (runtime_app_data app) ≡ runtime_app_data (get_or apps 0 app) =
    get_or-map runtime_app_data apps 0 app (runtime_app_data app) some in
    let good : IsRuntimeApp (runtime_app_data (get_or apps 0 app)) = subst IsRuntimeApp here (all 0 (runtime_app_data app) within) in
    good.mounted

pub returns : goal.returns
returns c =
    let some : 0 < length c.args.apps.now =
    some_there (length c.args.apps.now) (eqb-false (length c.args.apps.now) 0 (sym c.is_empty.ensures ∙ c.if-is_empty.false)) in
    let good = mounts_good c.args.apps.now c.index-apps-0.result some c.requires in
    let P : List Mount → Type 0 = λ ms. All IsMount ms in
    MatchResult-weaker c.copy.result c.copy.ensures (λ ms is. subst P (sym is) good) (λ error told. told)
