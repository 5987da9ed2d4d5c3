use Rattle.std.proofs.Common.{◌≡◌, true, ℕ, List, MatchOption, sym, subst}
use Rattle.plain_laws.proofs.Results.{if_ok}
use Rattle.dir_model.specs.declared.spot.Spot.{Spot}
use Rattle.dir_trait.specs.DirCalls.{HeldBetween}
use Rattle.dir_files.specs.Reads.{inner_at, OnlyReads, TellsFile, IsPiece, WasMissing}
use Rattle.dir_model.specs.Spots.{pod_spot}
use Rattle.pod_report.specs.Ends.{IsStatusText, IsNoStatus, status_path}
use Rattle.pod_report.specs.Inspections.{TellsEnd}
use Rattle.pod_report.proofs.Asking.{asks_wider, visits_inspect}
use Rattle.pod_report.proofs.Reading.{looks_file}
use Rattle.pod_report.proofs.TellingEnds.{end_told, end_missing}
use Rattle.pod_report.proofs.ends.end_at.Goals as goal

pub returns-in-Ok-Some-clause-only : goal.returns-in-Ok-Some-clause-only
returns-in-Ok-Some-clause-only g c =
    let D = g.D.Dir in
    asks_wider (visits_inspect c.args.pod) (looks_file c.args.pod c.args.area c.args.path.now c.requires.stage (subst (λ (x : Spot). OnlyReads D.observed (inner_at x c.args.path.now) (D.shown c.args.dir.now) (D.shown c.read_whole.new.dir)) c.of_pod.ensures c.read_whole.ensures.only))

pub returns-in-Ok-None-clause-only : goal.returns-in-Ok-None-clause-only
returns-in-Ok-None-clause-only g c =
    let D = g.D.Dir in
    asks_wider (visits_inspect c.args.pod) (looks_file c.args.pod c.args.area c.args.path.now c.requires.stage (subst (λ (x : Spot). OnlyReads D.observed (inner_at x c.args.path.now) (D.shown c.args.dir.now) (D.shown c.read_whole.new.dir)) c.of_pod.ensures c.read_whole.ensures.only))

pub returns-in-Err-clause-only : goal.returns-in-Err-clause-only
returns-in-Err-clause-only g c =
    let D = g.D.Dir in
    asks_wider (visits_inspect c.args.pod) (looks_file c.args.pod c.args.area c.args.path.now c.requires.stage (subst (λ (x : Spot). OnlyReads D.observed (inner_at x c.args.path.now) (D.shown c.args.dir.now) (D.shown c.read_whole.new.dir)) c.of_pod.ensures c.read_whole.ensures.only))

pub returns-in-Ok-Some-clause-answer_holds : goal.returns-in-Ok-Some-clause-answer_holds
returns-in-Ok-Some-clause-answer_holds g c =
    let D = g.D.Dir in
    let old = D.shown c.args.dir.now in
    let new = D.shown c.read_whole.new.dir in
    let e = rw c.in-Ok-Some.field-0-is at c.in-Ok-Some.ensures in
    let bytes = c.deref.result.now in
    let told = λ (t : D.observed ≡ true). subst (λ (l : List ℕ). HeldBetween old new (TellsFile (inner_at (pod_spot c.args.pod c.args.area) c.args.path.now) (IsPiece 0 5 l))) (sym c.deref.ensures.value)
    (subst (λ (x : Spot). HeldBetween old new (TellsFile (inner_at x c.args.path.now) (IsPiece 0 5 c.in-Ok-Some.bytes.items))) c.of_pod.ensures (e.read t)) in
    if_ok (λ found. MatchOption found (IsNoStatus bytes) (λ n. IsStatusText n bytes)) (λ found. D.observed ≡ true → (app : List ℕ) → c.args.path.now ≡ status_path app → TellsEnd c.args.pod c.args.area app found old.process old.trace new.trace) c.status_in.result
    (λ found is t app path. end_told c.args.pod c.args.area app bytes found is (subst (λ (p : List ℕ). HeldBetween old new (TellsFile (inner_at (pod_spot c.args.pod c.args.area) p) (IsPiece 0 5 bytes))) path (told t))) c.status_in.ensures.read

pub returns-in-Ok-None-clause-answer_holds : goal.returns-in-Ok-None-clause-answer_holds
returns-in-Ok-None-clause-answer_holds g c t app path =
    let D = g.D.Dir in
    let old = D.shown c.args.dir.now in
    let new = D.shown c.read_whole.new.dir in
    let e = rw c.in-Ok-None.field-0-is at c.in-Ok-None.ensures in
    end_missing c.args.pod c.args.area app (subst (λ (p : List ℕ). WasMissing (inner_at (pod_spot c.args.pod c.args.area) p) old new) path (subst (λ (x : Spot). WasMissing (inner_at x c.args.path.now) old new) c.of_pod.ensures (e.read t)))
