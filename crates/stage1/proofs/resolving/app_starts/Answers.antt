use Rattle.std.proofs.Common.{rules, arith, ◌≡◌, ◌<◌, ◌∷◌, length, drop}
use Rattle.std.specs.Vec.Iter.{into_iter_items}
use Rattle.plain_laws.proofs.Results.{if_err, err_same}
use Rattle.stage1.specs.LoadRefusals.{AreMissing, IsMissingAmong}
use Rattle.stage1.proofs.Found.{start_next, missing_next, next_left}
use Rattle.stage1.proofs.resolving.app_starts.Goals as goal

pub apps-preserved : goal.apps-preserved
apps-preserved c =
    let i = c.apps.app-index in
    let inv = c.apps.invariant in
    let apps = c.args.apps.now in
    let roots = c.args.roots.items in
    let root = c.in-Some.root in
    let left = into_iter_items c.next.new.self in
    let within : i < length roots = omega (arith, c.apps-test.true, c.requires) in
    let rest : drop i roots ≡ root ∷ left = search rules in
    record {
      left = next_left roots i root left within rest;
      many = search rules;
      are = start_next c.args.pod c.args.address.now c.args.token.now apps roots i c.app-item.result root left c.apps-test.true within c.app-item.is rest c.apps.starts.items inv.are c.add_start.new.starts.items c.in_ok-add_start.ensures.added;
    }

pub returns-in_err-add_start-clause-missing : goal.returns-in_err-add_start-clause-missing
returns-in_err-add_start-clause-missing c =
    let i = c.apps.app-index in
    let inv = c.apps.invariant in
    let apps = c.args.apps.now in
    let roots = c.args.roots.items in
    let app = c.app-item.result in
    let root = c.in-Some.root in
    let left = into_iter_items c.next.new.self in
    let within : i < length roots = omega (arith, c.apps-test.true, c.requires) in
    let rest : drop i roots ≡ root ∷ left = search rules in
    err_same (IsMissingAmong apps roots) c.add_start.result c.from_residual.result (λ e h. search (rules, h, c.from_residual.ensures, c.in_err-add_start.is))
    (if_err (AreMissing app root) (IsMissingAmong apps roots) c.add_start.result (λ e is. missing_next c.args.pod c.args.address.now c.args.token.now apps roots i app root left c.apps-test.true within c.app-item.is rest c.apps.starts.items inv.are e is) c.add_start.ensures.missing)
