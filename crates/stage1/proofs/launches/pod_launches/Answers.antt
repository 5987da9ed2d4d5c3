use Rattle.std.proofs.Common.{rules, ◌≡◌, true, ℕ, List, subst}
use Rattle.plain_laws.proofs.Results.{if_ok, if_err, err_same}
use Rattle.manifests.specs.declared.runtime_app.RuntimeApp.{RuntimeApp}
use Rattle.image_reading.proofs.Widths.{file_after, file_before}
use Rattle.stage1.specs.Starts.{FindsStarts, ReadsStarts}
use Rattle.stage1.specs.LoadRefusals.{IsManifestLack, LacksStarts, LoadCause}
use Rattle.pod_files.proofs.Reading.{reads_more}
use Rattle.pod_files.specs.Files.{ReadsNoPodManifest}
use Rattle.stage1.proofs.Rooted.{finds_after}
use Rattle.stage1.proofs.Lacking.{lack_why, manifest_cause, token_cause, starts_cause}
use Rattle.stage1.proofs.launches.pod_launches.Goals as goal

pub returns-in_err-manifest-clause-lacks : goal.returns-in_err-manifest-clause-lacks
returns-in_err-manifest-clause-lacks g c =
    let D = g.D.Dir in
    let pod = c.args.pod in
    let old = D.shown c.args.dir.now in
    let new = D.shown c.read_manifest.new.dir in
    err_same (λ e. D.observed ≡ true → LoadCause pod e old new) c.read_manifest.result c.from_residual.result (λ e h. search (rules, h, c.from_residual.ensures, c.in_err-manifest.is))
    (if_err (IsManifestLack (D.observed ≡ true → ReadsNoPodManifest pod old new)) (λ e. D.observed ≡ true → LoadCause pod e old new) c.read_manifest.result
    (λ e is t. manifest_cause pod old new e (lack_why (D.observed ≡ true → ReadsNoPodManifest pod old new) (ReadsNoPodManifest pod old new) e (λ f. f t) is)) c.read_manifest.ensures.lacks)

pub returns-in-Ok-clause-only : goal.returns-in-Ok-clause-only
returns-in-Ok-clause-only g c = reads_more c.args.pod (reads_more c.args.pod c.read_manifest.ensures.only c.read_token.ensures.only) c.starts_with.ensures.only

pub returns-clause-only : goal.returns-clause-only
returns-clause-only g c = reads_more c.args.pod c.read_manifest.ensures.only c.read_token.ensures.only

pub returns-in-Ok-clause-read : goal.returns-in-Ok-clause-read
returns-in-Ok-clause-read g c =
    let D = g.D.Dir in
    let pod = c.args.pod in
    let old = D.shown c.args.dir.now in
    let mid = D.shown c.read_token.new.dir in
    let new = D.shown c.starts_with.new.dir in
    let manifest = c.in_ok-manifest.manifest in
    let token = c.in-Ok.token in
    let first = reads_more pod c.read_manifest.ensures.only c.read_token.ensures.only in
    if_ok (λ starts. D.observed ≡ true → FindsStarts pod c.args.address.now c.as_str.result.now c.as_slice.result.now starts.items mid new) (λ starts. D.observed ≡ true → ReadsStarts pod c.args.address.now starts.items old new) c.starts_with.result
    (λ starts found t. record {
      manifest = manifest;
      kind = c.in_ok-manifest.ensures.kind;
      manifest_read = file_before t (c.in_ok-manifest.ensures.read t) (reads_more pod c.read_token.ensures.only c.starts_with.ensures.only);
      token = token;
      token_read = file_before t (file_after t c.read_manifest.ensures.only (c.in-Ok.ensures.read t)) c.starts_with.ensures.only;
      found = finds_after t pod c.args.address.now new first
          (subst (λ (x : List ℕ). FindsStarts pod c.args.address.now x manifest.apps starts.items mid new) (search rules)
          (subst (λ (x : List RuntimeApp). FindsStarts pod c.args.address.now c.as_str.result.now x starts.items mid new) (search rules) (found t)));
    })
    c.starts_with.ensures.found

pub returns-in-Ok-clause-lacks : goal.returns-in-Ok-clause-lacks
returns-in-Ok-clause-lacks g c =
    let D = g.D.Dir in
    let pod = c.args.pod in
    let old = D.shown c.args.dir.now in
    let mid = D.shown c.read_token.new.dir in
    let new = D.shown c.starts_with.new.dir in
    let manifest = c.in_ok-manifest.manifest in
    if_err (λ e. D.observed ≡ true → LacksStarts pod c.as_slice.result.now e mid new) (λ e. D.observed ≡ true → LoadCause pod e old new) c.starts_with.result
    (λ e lacks t. starts_cause t pod manifest c.in-Ok.token e new c.read_manifest.ensures.only c.read_token.ensures.only (c.in_ok-manifest.ensures.read t) (c.in-Ok.ensures.read t)
    (subst (λ (x : List RuntimeApp). LacksStarts pod x e mid new) (search rules) (lacks t)))
    c.starts_with.ensures.lacks

pub returns-clause-lacks : goal.returns-clause-lacks
returns-clause-lacks g c t = token_cause t c.args.pod c.in_ok-manifest.manifest c.in-Err.error (g.D.Dir.shown c.read_token.new.dir) c.read_manifest.ensures.only (c.in_ok-manifest.ensures.read t) c.in-Err.ensures.lacks
