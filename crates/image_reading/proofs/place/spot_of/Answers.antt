use Rattle.std.proofs.Common.{rules, ◌≡◌, ◌<◌, ℕ, length, slice_index, sym, subst}
use Rattle.dir_model.specs.Names.{IsName}
use Rattle.ac_types.specs.Ids.{id_text}
use Rattle.image_reading.proofs.Places.{key_is_name}
use Rattle.image_reading.proofs.place.spot_of.Goals as goal

pub unreachable-requires : goal.unreachable-requires
unreachable-requires c =
    let long : length c.args.key.bytes ≡ 32 = search rules in
    let small : (i : ℕ) → slice_index c.args.key.bytes i < 256 = search rules in
    let text : c.as_str.result.now ≡ id_text c.args.key.bytes = search rules in
    let name : IsName c.as_str.result.now = subst IsName (sym text) (key_is_name c.args.key.bytes (long, small)) in
    let some = rw c.in-None.is at c.of.ensures.some in
    let e = some.1 name in
    cc
