use Rattle.std.proofs.Common.{◌≡◌, inl, true}
use Rattle.plain_laws.proofs.Results.{if_ok, if_err}
use Rattle.dir_laws.proofs.Names.{manifest_form}
use Rattle.manifests.specs.PodData.{pod_data}
use Rattle.pod_files.specs.Places.{pod_file, pod_manifest_name}
use Rattle.pod_files.specs.Files.{IsManifestOf, IsNoManifest, ReadsPodManifest, ReadsNoPodManifest}
use Rattle.pod_files.specs.Lacks.{IsFileLack}
use Rattle.pod_files.proofs.Reading.{taken_so, not_taken}
use Rattle.pod_files.proofs.Lacking.{lack_why}
use Rattle.pod_files.proofs.manifest.read_manifest.Goals as goal
use Rattle.manifests.specs.ManifestSize.{most_of_manifest}

pub read_part-requires-clause-path : goal.read_part-requires-clause-path
read_part-requires-clause-path g c = manifest_form

pub returns-in-Ok-Some-clause-read : goal.returns-in-Ok-Some-clause-read
returns-in-Ok-Some-clause-read g c =
    let D = g.D.Dir in
    let e = rw c.in-Ok-Some.field-0-is at c.in-Ok-Some.ensures in
    let old = D.shown c.args.dir.now in
    let new = D.shown c.read_part.new.dir in
    if_ok (λ m. IsManifestOf (pod_data m) c.deref.result.now) (λ m. D.observed ≡ true → ReadsPodManifest c.args.pod (pod_data m) old new) c.manifest_of.result
    (λ m is. taken_so (pod_file c.args.pod pod_manifest_name) most_of_manifest c.in-Ok-Some.bytes.items c.deref.result.now c.deref.ensures.value e.most e.read (IsManifestOf (pod_data m)) is) c.manifest_of.ensures.ok

pub returns-in-Ok-Some-clause-lacks : goal.returns-in-Ok-Some-clause-lacks
returns-in-Ok-Some-clause-lacks g c =
    let D = g.D.Dir in
    let e = rw c.in-Ok-Some.field-0-is at c.in-Ok-Some.ensures in
    let old = D.shown c.args.dir.now in
    let new = D.shown c.read_part.new.dir in
    if_err (IsFileLack (IsNoManifest c.deref.result.now)) (IsFileLack (D.observed ≡ true → ReadsNoPodManifest c.args.pod old new)) c.manifest_of.result
    (λ e' is. lack_why (IsNoManifest c.deref.result.now) (D.observed ≡ true → ReadsNoPodManifest c.args.pod old new) e' (λ none. not_taken (pod_file c.args.pod pod_manifest_name) most_of_manifest c.in-Ok-Some.bytes.items c.deref.result.now c.deref.ensures.value e.most e.read IsNoManifest none) is)
    c.manifest_of.ensures.fault

pub returns-in-Ok-None-clause-lacks : goal.returns-in-Ok-None-clause-lacks
returns-in-Ok-None-clause-lacks g c =
    let e = rw c.in-Ok-None.field-0-is at c.in-Ok-None.ensures in
    λ t. inl (e.read t)

pub returns-in-Err-clause-lacks : goal.returns-in-Err-clause-lacks
returns-in-Err-clause-lacks g c =
    let D = g.D.Dir in
    lack_why ⊥ (D.observed ≡ true → ReadsNoPodManifest c.args.pod (D.shown c.args.dir.now) (D.shown c.read_part.new.dir)) c.file_error.result (λ none. absurd none) c.file_error.ensures.outside
