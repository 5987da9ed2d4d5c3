-- The version of the pod manifests that are made.
use Rattle.std.proofs.Common.{codes, refl}
use Rattle.semver.specs.Parse.{digits_from}
use Rattle.manifest_parts.specs.PartRules.{IsVersion}

pub version_good : IsVersion (codes "0.8.0")
unfolding digits_from
version_good = refl
