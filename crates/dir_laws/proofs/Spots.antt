-- A place inside a folder is the same as itself.
use Rattle.std.proofs.Common.{◌≡◌, true, bytes_eq}
use Rattle.plain_laws.proofs.Texts.{same_bytes}
use Rattle.dir_model.specs.declared.item.Inner.{Inner}
use Rattle.dir_model.specs.State.{spot_eq}
use Rattle.dir_model.proofs.Lists.{and_both}
use Rattle.dir_model.proofs.Spots.{spot_self}
use Rattle.dir_rules.specs.Seen.{inner_eq}

pub inner_self : (inner : Inner) → inner_eq inner inner ≡ true
inner_self inner = and_both (spot_eq inner.spot inner.spot) (bytes_eq inner.path inner.path) (spot_self inner.spot) (same_bytes inner.path)
