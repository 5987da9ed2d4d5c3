use Rattle.std.proofs.Common.{refl}
use Rattle.image_reading.specs.Places.{image_inner, stored_path, manifest_name}
use Rattle.image_reading.specs.Files.{IsKeptOf, IsNoImageManifest}
use Rattle.image_reading.proofs.Places.{manifest_path}
use Rattle.image_reading.proofs.Values.{manifest_front, no_manifest_front}
use Rattle.image_reading.proofs.Files.{some_read, some_lacks, some_whole}
use Rattle.image_reading.proofs.file.read_manifest.Goals as goal
use Rattle.manifests.specs.ManifestSize.{most_of_manifest}

pub read_part-requires-clause-path : goal.read_part-requires-clause-path
read_part-requires-clause-path g c = manifest_path

pub returns-in-Ok-Some-clause-read : goal.returns-in-Ok-Some-clause-read
returns-in-Ok-Some-clause-read g c =
    let D = g.D.Dir in
    let e = rw c.in-Ok-Some.field-0-is at c.in-Ok-Some.ensures in
    some_read (image_inner c.args.key manifest_name) most_of_manifest (D.shown c.args.dir.now) (D.shown c.read_part.new.dir) c.in-Ok-Some.bytes.items e.most e.read IsKeptOf IsNoImageManifest c.manifest_of.result c.manifest_of.ensures.ok

pub returns-in-Ok-Some-clause-damaged : goal.returns-in-Ok-Some-clause-damaged
returns-in-Ok-Some-clause-damaged g c =
    let D = g.D.Dir in
    let e = rw c.in-Ok-Some.field-0-is at c.in-Ok-Some.ensures in
    some_lacks (image_inner c.args.key manifest_name) most_of_manifest (D.shown c.args.dir.now) (D.shown c.read_part.new.dir) c.in-Ok-Some.bytes.items e.most e.read IsKeptOf IsNoImageManifest c.manifest_of.result (stored_path c.args.key manifest_name) c.manifest_of.ensures.fault

pub returns-in-Ok-Some-clause-whole : goal.returns-in-Ok-Some-clause-whole
returns-in-Ok-Some-clause-whole g c t file stays =
    let D = g.D.Dir in
    let e = rw c.in-Ok-Some.field-0-is at c.in-Ok-Some.ensures in
    some_whole (image_inner c.args.key manifest_name) most_of_manifest (D.shown c.args.dir.now) (D.shown c.read_part.new.dir) c.in-Ok-Some.bytes.items e.most e.read IsKeptOf IsNoImageManifest c.manifest_of.result (stored_path c.args.key manifest_name) c.manifest_of.ensures.ok c.manifest_of.ensures.fault
    file (e.whole t file stays) (manifest_front file) (no_manifest_front file)

pub returns-in-Ok-Some-clause-trees : goal.returns-in-Ok-Some-clause-trees
returns-in-Ok-Some-clause-trees g c = c.read_part.ensures.trees refl

pub returns-in-Ok-None-clause-trees : goal.returns-in-Ok-None-clause-trees
returns-in-Ok-None-clause-trees g c = c.read_part.ensures.trees refl

pub returns-in-Err-clause-trees : goal.returns-in-Err-clause-trees
returns-in-Err-clause-trees g c = c.read_part.ensures.trees refl
