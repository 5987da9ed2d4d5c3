use Rattle.std.proofs.Common.{◌≡◌, true, codes, ℕ, List, sym, subst}
use Rattle.plain_laws.proofs.Results.{if_ok}
use Rattle.dir_model.specs.declared.spot.Spot.{Spot}
use Rattle.dir_laws.proofs.Names.{manifest_form}
use Rattle.dir_trait.specs.DirCalls.{HeldBetween}
use Rattle.dir_files.specs.Reads.{inner_at, OnlyReads, TellsFile, IsPiece, WasMissing}
use Rattle.dir_model.specs.Spots.{pod_spot}
use Rattle.pod_report.proofs.Asking.{asks_more}
use Rattle.pod_report.specs.Sights.{IsSightOf, Sees, SeesNoFile}
use Rattle.pod_report.proofs.Reading.{looks_file, sees_bytes, sees_missing}
use Rattle.pod_report.proofs.sight.see_manifest.Goals as goal

pub read_whole-requires-clause-path : goal.read_whole-requires-clause-path
read_whole-requires-clause-path g c = manifest_form

pub returns-in-Ok-Some-clause-only : goal.returns-in-Ok-Some-clause-only
returns-in-Ok-Some-clause-only g c =
    let D = g.D.Dir in
    looks_file c.args.pod c.args.area (codes "pod") c.requires.stage (subst (λ (x : Spot). OnlyReads D.observed (inner_at x (codes "pod")) (D.shown c.args.dir.now) (D.shown c.read_whole.new.dir)) c.of_pod.ensures c.read_whole.ensures.only)

pub returns-in-Err-clause-only : goal.returns-in-Err-clause-only
returns-in-Err-clause-only g c =
    let D = g.D.Dir in
    looks_file c.args.pod c.args.area (codes "pod") c.requires.stage (subst (λ (x : Spot). OnlyReads D.observed (inner_at x (codes "pod")) (D.shown c.args.dir.now) (D.shown c.read_whole.new.dir)) c.of_pod.ensures c.read_whole.ensures.only)

pub returns-in-Ok-None-clause-only : goal.returns-in-Ok-None-clause-only
returns-in-Ok-None-clause-only g c =
    let D = g.D.Dir in
    asks_more (looks_file c.args.pod c.args.area (codes "pod") c.requires.stage (subst (λ (x : Spot). OnlyReads D.observed (inner_at x (codes "pod")) (D.shown c.args.dir.now) (D.shown c.read_whole.new.dir)) c.of_pod.ensures c.read_whole.ensures.only)) c.sight_missing.ensures.only

pub returns-in-Ok-Some-clause-seen : goal.returns-in-Ok-Some-clause-seen
returns-in-Ok-Some-clause-seen g c =
    let D = g.D.Dir in
    let old = D.shown c.args.dir.now in
    let new = D.shown c.read_whole.new.dir in
    let e = rw c.in-Ok-Some.field-0-is at c.in-Ok-Some.ensures in
    let told = λ (t : D.observed ≡ true). subst (λ (x : Spot). HeldBetween old new (TellsFile (inner_at x (codes "pod")) (IsPiece 0 1048577 c.in-Ok-Some.bytes.items))) c.of_pod.ensures (e.read t) in
    if_ok (IsSightOf c.deref.result.now) (λ sight. D.observed ≡ true → Sees c.args.pod c.args.area sight old new) c.sight_of.result
    (λ sight is t. sees_bytes c.args.pod c.args.area c.deref.result.now sight old new is (subst (λ (l : List ℕ). HeldBetween old new (TellsFile (inner_at (pod_spot c.args.pod c.args.area) (codes "pod")) (IsPiece 0 1048577 l))) (sym c.deref.ensures.value) (told t))) c.sight_of.ensures.seen

pub returns-in-Ok-None-clause-seen : goal.returns-in-Ok-None-clause-seen
returns-in-Ok-None-clause-seen g c =
    let D = g.D.Dir in
    let old = D.shown c.args.dir.now in
    let mid = D.shown c.read_whole.new.dir in
    let new = D.shown c.sight_missing.new.dir in
    let e = rw c.in-Ok-None.field-0-is at c.in-Ok-None.ensures in
    let first = looks_file c.args.pod c.args.area (codes "pod") c.requires.stage (subst (λ (x : Spot). OnlyReads D.observed (inner_at x (codes "pod")) old mid) c.of_pod.ensures c.read_whole.ensures.only) in
    if_ok (λ sight. D.observed ≡ true → SeesNoFile c.args.pod c.args.area sight mid new) (λ sight. D.observed ≡ true → Sees c.args.pod c.args.area sight old new) c.sight_missing.result
    (λ sight sees t. sees_missing c.args.pod c.args.area sight old mid new t first (subst (λ (x : Spot). WasMissing (inner_at x (codes "pod")) old mid) c.of_pod.ensures (e.read t)) (sees t)) c.sight_missing.ensures.seen
