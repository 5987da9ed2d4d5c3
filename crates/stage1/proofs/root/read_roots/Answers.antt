use Rattle.std.proofs.Common.{rules, arith, ◌≡◌, ◌+◌, true, List, [], take, drop, refl, subst}
use Rattle.std.proofs.lemmas.List.{take_all}
use Rattle.plain_laws.proofs.Results.{if_err, err_same}
use Rattle.manifests.specs.declared.runtime_app.RuntimeApp.{RuntimeApp}
use Rattle.stage1.specs.AppPlaces.{tree_path, told_path}
use Rattle.stage1.specs.AppFiles.{LacksRootListing, AreAppRoots}
use Rattle.stage1.specs.LoadRefusals.{IsDamageFor, IsRootsLack}
use Rattle.pod_files.proofs.Reading.{reads_none, reads_more}
use Rattle.pod_files.proofs.AppNames.{names, names_around}
use Rattle.stage1.proofs.Rooted.{roots_none, roots_next}
use Rattle.stage1.proofs.Lacking.{lacks_one}
use Rattle.stage1.proofs.root.read_roots.Goals as goal

pub apps-init : goal.apps-init
apps-init g c = record { only = reads_none c.args.pod; each = search rules; read = λ t. roots_none c.args.pod [] c.new-roots.result.items (g.D.Dir.shown c.args.dir.now) refl c.new-roots.ensures.items }

pub apps-preserved : goal.apps-preserved
apps-preserved g c =
    let D = g.D.Dir in
    record {
      only = reads_more c.args.pod c.apps.invariant.only c.add_root.ensures.only;
      each = omega (arith, c.apps.invariant.each, c.in_ok-add_root.ensures.one);
      read = λ t. roots_next t c.args.pod (D.shown c.args.dir.now) (D.shown c.add_root.new.dir) c.args.apps.now c.apps.app-index c.app-item.result c.apps-test.true c.app-item.is c.apps.roots.items c.add_root.new.roots.items c.apps.invariant.only (c.apps.invariant.read t) c.add_root.ensures.only (c.in_ok-add_root.ensures.added t);
    }

pub returns-in_err-add_root-clause-only : goal.returns-in_err-add_root-clause-only
returns-in_err-add_root-clause-only g c = reads_more c.args.pod c.apps.invariant.only c.add_root.ensures.only

pub returns-in_err-add_root-clause-lacks : goal.returns-in_err-add_root-clause-lacks
returns-in_err-add_root-clause-lacks g c =
    let D = g.D.Dir in
    let old = D.shown c.args.dir.now in
    let mid = D.shown c.apps.dir in
    let new = D.shown c.add_root.new.dir in
    let pod = c.args.pod in
    let apps = c.args.apps.now in
    let app = c.app-item.result in
    err_same (λ e. D.observed ≡ true → IsRootsLack pod (names apps) e old new) c.add_root.result c.from_residual.result (λ e h. search (rules, h, c.from_residual.ensures, c.in_err-add_root.is))
    (if_err (IsDamageFor (told_path pod (tree_path app.name)) (D.observed ≡ true → LacksRootListing pod app.name mid new)) (λ e. D.observed ≡ true → IsRootsLack pod (names apps) e old new) c.add_root.result
    (λ e is t. lacks_one t pod (names (take c.apps.app-index apps)) app.name (names (drop (c.apps.app-index + 1) apps)) c.apps.roots.items e new (names_around apps c.apps.app-index app c.apps-test.true c.app-item.is) c.apps.invariant.only (c.apps.invariant.read t) is) c.add_root.ensures.lacks)

pub returns-clause-read : goal.returns-clause-read
returns-clause-read g c t =
    let D = g.D.Dir in
    subst (λ (l : List RuntimeApp). AreAppRoots c.args.pod (names l) c.apps.roots.items (D.shown c.args.dir.now) (D.shown c.apps.dir)) (take_all c.apps.app-index c.args.apps.now c.apps-test.false) (c.apps.invariant.read t)
