use Rattle.std.proofs.Common.{◌≡◌, Some, None, ℕ, List, subst}
use Rattle.ac_types.specs.Ids.{key_read}
use Rattle.image_reading.proofs.Places.{name_key, name_no_key}
use Rattle.image_reading.proofs.place.key_of.Goals as goal

pub returns-in-Ok : goal.returns-in-Ok
returns-in-Ok c = name_key c.args.name.now c.in-Ok.key c.as_str.ensures.kind.1 (subst (λ (t : List ℕ). key_read t ≡ Some c.in-Ok.key.bytes) c.as_str.ensures.text c.in-Ok.ensures.reads)

pub returns-in-Err : goal.returns-in-Err
returns-in-Err c = name_no_key c.args.name.now c.as_str.ensures.kind.1 (subst (λ (t : List ℕ). key_read t ≡ None) c.as_str.ensures.text c.in-Err.ensures.reads)
