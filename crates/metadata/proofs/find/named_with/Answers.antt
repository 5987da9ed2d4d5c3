use Rattle.std.proofs.Common.{◌≡◌, rules, true, option_map, Some, None}
use Rattle.plain_laws.proofs.Results.{if_ok}
use Rattle.dir_model.specs.Pods.{pod_of_text}
use Rattle.metadata_reply.specs.Views.{view_data}
use Rattle.pod_report.proofs.Asking.{asks_none}
use Rattle.metadata.specs.PodViews.{TellsPod, TellsNamed}
use Rattle.metadata.proofs.Finding.{named_told, no_pod_told}
use Rattle.metadata.proofs.find.named_with.Goals as goal

pub returns-in-Some-clause-tells : goal.returns-in-Some-clause-tells
returns-in-Some-clause-tells g c =
    let D = g.D.Dir in
    let old = D.shown c.args.dir.now in
    let new = D.shown c.pod_with.new.dir in
    let pod = c.in-Some.pod in
    let here : pod_of_text c.args.name.now ≡ Some pod = search rules in
    if_ok (λ found. D.observed ≡ true → TellsPod pod c.args.digits.now (option_map view_data found) old new) (λ found. D.observed ≡ true → TellsNamed c.args.name.now c.args.digits.now (option_map view_data found) old new) c.pod_with.result
    (λ found tells t. named_told c.args.name.now c.args.digits.now pod (option_map view_data found) old new here (tells t)) c.pod_with.ensures.tells

pub returns-in-None-clause-only : goal.returns-in-None-clause-only
returns-in-None-clause-only g c = asks_none

pub returns-in-None-clause-tells : goal.returns-in-None-clause-tells
returns-in-None-clause-tells g c t =
    let D = g.D.Dir in
    let none : pod_of_text c.args.name.now ≡ None = search rules in
    no_pod_told c.args.name.now c.args.digits.now (D.shown c.args.dir.now) (D.shown c.args.dir.now) none
