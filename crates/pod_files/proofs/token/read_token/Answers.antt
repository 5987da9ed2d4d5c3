use Rattle.std.proofs.Common.{◌≡◌, inl, true}
use Rattle.plain_laws.proofs.Results.{if_ok, if_err}
use Rattle.dir_laws.proofs.Names.{token_form}
use Rattle.pod_files.specs.Places.{pod_file, token_name}
use Rattle.pod_files.specs.Files.{IsTokenOf, IsNoToken, ReadsToken, ReadsNoToken, most_of_token}
use Rattle.pod_files.specs.Lacks.{IsFileLack}
use Rattle.pod_files.proofs.Reading.{taken_so, not_taken}
use Rattle.pod_files.proofs.Lacking.{lack_why}
use Rattle.pod_files.proofs.token.read_token.Goals as goal

pub read_part-requires-clause-path : goal.read_part-requires-clause-path
read_part-requires-clause-path g c = token_form

pub returns-in-Ok-Some-clause-read : goal.returns-in-Ok-Some-clause-read
returns-in-Ok-Some-clause-read g c =
    let D = g.D.Dir in
    let e = rw c.in-Ok-Some.field-0-is at c.in-Ok-Some.ensures in
    let old = D.shown c.args.dir.now in
    let new = D.shown c.read_part.new.dir in
    if_ok (λ token. IsTokenOf token c.deref.result.now) (λ token. D.observed ≡ true → ReadsToken c.args.pod token old new) c.token_of.result
    (λ token is. taken_so (pod_file c.args.pod token_name) most_of_token c.in-Ok-Some.bytes.items c.deref.result.now c.deref.ensures.value e.most e.read (IsTokenOf token) is) c.token_of.ensures.ok

pub returns-in-Ok-Some-clause-lacks : goal.returns-in-Ok-Some-clause-lacks
returns-in-Ok-Some-clause-lacks g c =
    let D = g.D.Dir in
    let e = rw c.in-Ok-Some.field-0-is at c.in-Ok-Some.ensures in
    let old = D.shown c.args.dir.now in
    let new = D.shown c.read_part.new.dir in
    if_err (IsFileLack (IsNoToken c.deref.result.now)) (IsFileLack (D.observed ≡ true → ReadsNoToken c.args.pod old new)) c.token_of.result
    (λ e' is. lack_why (IsNoToken c.deref.result.now) (D.observed ≡ true → ReadsNoToken c.args.pod old new) e' (λ none. not_taken (pod_file c.args.pod token_name) most_of_token c.in-Ok-Some.bytes.items c.deref.result.now c.deref.ensures.value e.most e.read IsNoToken none) is)
    c.token_of.ensures.fault

pub returns-in-Ok-None-clause-lacks : goal.returns-in-Ok-None-clause-lacks
returns-in-Ok-None-clause-lacks g c =
    let e = rw c.in-Ok-None.field-0-is at c.in-Ok-None.ensures in
    λ t. inl (e.read t)

pub returns-in-Err-clause-lacks : goal.returns-in-Err-clause-lacks
returns-in-Err-clause-lacks g c =
    let D = g.D.Dir in
    lack_why ⊥ (D.observed ≡ true → ReadsNoToken c.args.pod (D.shown c.args.dir.now) (D.shown c.read_part.new.dir)) c.file_error.result (λ none. absurd none) c.file_error.ensures.outside
