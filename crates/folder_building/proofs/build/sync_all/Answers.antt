use Rattle.std.proofs.Common.{◌≡◌, true, [], drop, IsErrOf, rules}
use Rattle.std.proofs.lemmas.List.{drop_all}
use Rattle.plain_laws.proofs.Results.{if_ok, if_err, any_err}
use Rattle.folder_building.specs.declared.error.BuildError.TheVariants.{Stray}
use Rattle.folder_building.specs.Changes.{SyncsPath, Unsyncs, SyncsAll, UnsyncsAll}
use Rattle.folder_building.proofs.Working.{worked_none, worked_more}
use Rattle.folder_building.proofs.Strays.{stray_after}
use Rattle.folder_building.proofs.Filling.{synced_none, synced_next, unsynced_next, synced_all, unsynced_all, planned_path}
use Rattle.folder_building.proofs.build.sync_all.Goals as goal

pub entries-init : goal.entries-init
entries-init g c = record { worked = worked_none; synced = λ t. synced_none c.args.spot.now c.args.plan.now (g.D.Dir.shown c.args.dir.now) }

pub sync-requires-clause-active : goal.sync-requires-clause-active
sync-requires-clause-active g c = rw c.entries.invariant.worked.local c.requires.active

pub sync-requires-clause-path : goal.sync-requires-clause-path
sync-requires-clause-path g c = rw c.as_str.ensures (planned_path c.args.plan.now c.entries.entry-index c.entry-item.result c.entries-test.true c.entry-item.is c.requires.plan)

pub entries-preserved : goal.entries-preserved
entries-preserved g c =
    let D = g.D.Dir in
    let i = c.entries.invariant in
    record {
      worked = worked_more i.worked c.sync.ensures.worked;
      synced = λ t. synced_next c.args.spot.now c.args.plan.now c.entries.entry-index c.entry-item.result c.entries-test.true c.entry-item.is (D.shown c.args.dir.now) (D.shown c.entries.dir) (D.shown c.sync.new.dir) (i.synced t) (rw c.as_str.ensures at (c.in_ok-sync.ensures.done t));
    }

pub returns-in_err-sync-clause-worked : goal.returns-in_err-sync-clause-worked
returns-in_err-sync-clause-worked g c = worked_more c.entries.invariant.worked c.sync.ensures.worked

pub returns-in_err-sync-clause-stray : goal.returns-in_err-sync-clause-stray
returns-in_err-sync-clause-stray g c h t =
    let k : IsErrOf c.sync.result Stray = search (rules, h, c.from_residual.ensures, c.in_err-sync.is) in
    stray_after (g.D.Dir.shown c.sync.new.dir) t c.entries.invariant.worked (c.sync.ensures.stray k t)

pub returns-in_err-sync-clause-refused : goal.returns-in_err-sync-clause-refused
returns-in_err-sync-clause-refused g c =
    let D = g.D.Dir in
    let i = c.entries.invariant in
    any_err _ c.from_residual.result (λ t. unsynced_next c.args.spot.now c.args.plan.now c.entries.entry-index c.entry-item.result c.entries-test.true c.entry-item.is (D.shown c.args.dir.now) (D.shown c.entries.dir) (D.shown c.sync.new.dir) (i.synced t) (rw c.as_str.ensures at (c.in_err-sync.ensures.refused t)))

pub returns-clause-worked : goal.returns-clause-worked
returns-clause-worked g c = worked_more c.entries.invariant.worked c.sync-2.ensures.worked

pub returns-clause-stray : goal.returns-clause-stray
returns-clause-stray g c h t = stray_after (g.D.Dir.shown c.sync-2.new.dir) t c.entries.invariant.worked (c.sync-2.ensures.stray h t)

pub returns-clause-done : goal.returns-clause-done
returns-clause-done g c =
    let D = g.D.Dir in
    let spot = c.args.spot.now in
    let plan = c.args.plan.now in
    let old = D.shown c.args.dir.now in
    let mid = D.shown c.entries.dir in
    let new = D.shown c.sync-2.new.dir in
    let left = drop c.entries.entry-index plan in
    if_ok (λ done. D.observed ≡ true → SyncsPath spot [] mid new) (λ done. D.observed ≡ true → SyncsAll spot plan old new) c.sync-2.result (λ done f t. synced_all spot plan old mid new left (drop_all c.entries.entry-index plan c.entries-test.false) (c.entries.invariant.synced t) (f t)) c.sync-2.ensures.done

pub returns-clause-refused : goal.returns-clause-refused
returns-clause-refused g c =
    let D = g.D.Dir in
    let spot = c.args.spot.now in
    let plan = c.args.plan.now in
    let old = D.shown c.args.dir.now in
    let mid = D.shown c.entries.dir in
    let new = D.shown c.sync-2.new.dir in
    let left = drop c.entries.entry-index plan in
    if_err (λ e. D.observed ≡ true → Unsyncs spot [] mid new) (λ e. D.observed ≡ true → UnsyncsAll spot plan old new) c.sync-2.result (λ e f t. unsynced_all spot plan old mid new left (c.entries.invariant.synced t) (f t)) c.sync-2.ensures.refused
