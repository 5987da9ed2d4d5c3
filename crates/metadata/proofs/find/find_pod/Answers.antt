use Rattle.std.proofs.Common.{◌≡◌, ◌∙◌, true, option_map, List, ℕ, subst}
use Rattle.plain_laws.proofs.Results.{if_ok}
use Rattle.hex.specs.Hex.{encode_lower}
use Rattle.metadata_reply.specs.Views.{view_data}
use Rattle.pod_report.proofs.Asking.{asks_more}
use Rattle.metadata.specs.Finding.{TellsAll}
use Rattle.metadata.specs.PodViews.{FindsPodByToken}
use Rattle.metadata.proofs.Finding.{finds}
use Rattle.metadata.proofs.find.find_pod.Goals as goal

pub returns-in-Ok-clause-only : goal.returns-in-Ok-clause-only
returns-in-Ok-clause-only g c = asks_more c.names_in_run.ensures.only c.among_names.ensures.only

pub returns-in-Ok-clause-finds : goal.returns-in-Ok-clause-finds
returns-in-Ok-clause-finds g c =
    let D = g.D.Dir in
    let old = D.shown c.args.dir.now in
    let mid = D.shown c.names_in_run.new.dir in
    let new = D.shown c.among_names.new.dir in
    let names = c.in-Ok.names in
    let digits = encode_lower c.args.token.now in
    if_ok (λ found. D.observed ≡ true → TellsAll c.as_slice.result.now c.as_slice-in-Ok.result.now (option_map view_data found) mid new) (λ found. D.observed ≡ true → FindsPodByToken c.args.token.now (option_map view_data found) old new) c.among_names.result
    (λ found tells t. finds t digits old mid new c.names_in_run.ensures.only c.among_names.ensures.only names (option_map view_data found) (c.in-Ok.ensures.shows t)
    (subst (λ (ns : List (List ℕ)). TellsAll ns digits (option_map view_data found) mid new) c.as_slice.ensures
    (subst (λ (ds : List ℕ). TellsAll c.as_slice.result.now ds (option_map view_data found) mid new) (c.as_slice-in-Ok.ensures ∙ c.token_digits-digits.ensures) (tells t)))) c.among_names.ensures.tells
