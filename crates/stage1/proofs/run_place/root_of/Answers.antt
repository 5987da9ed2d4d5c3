use Rattle.std.proofs.Common.{rules, ◌≡◌, sym, subst}
use Rattle.ac_types.specs.Names.{IsAcName}
use Rattle.dir_model.specs.Names.{IsFileName}
use Rattle.dir_laws.proofs.Names.{app_name}
use Rattle.stage1.proofs.run_place.root_of.Goals as goal

pub unreachable-requires : goal.unreachable-requires
unreachable-requires c =
    let text : c.as_str.result.now ≡ c.args.app.now = search rules in
    let name : IsFileName c.as_str.result.now = (app_name c.as_str.result.now (subst IsAcName (sym text) c.as_str.ensures.kind)).file in
    let some = rw c.in-None.is at c.of.ensures.some in
    let e = some.1 name in
    cc
