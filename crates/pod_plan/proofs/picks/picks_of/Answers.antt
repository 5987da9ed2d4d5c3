use Rattle.std.proofs.Common.{◌≡◌, ◌+◌, ◌<◌, ℕ, None, Some, List, take, length, sym, subst, rules}
use Rattle.std.specs.List.{All}
use Rattle.std.proofs.lemmas.List.Elements.{All-push}
use Rattle.plain_laws.proofs.Results.{passed_on}
use Rattle.pod_plan.specs.declared.choice_error.ChoiceError.{ChoiceError}
use Rattle.pod_plan.specs.declared.choice_error.ChoiceError.TheVariants.{NoMatch}
use Rattle.pod_plan.specs.Choices.{best_of, ArePicks, IsPickRefusal}
use Rattle.pod_plan.proofs.Mapped.{mapped_more}
use Rattle.pod_plan.proofs.ChoiceFaults.{unmatched}
use Rattle.pod_plan.proofs.picks.picks_of.Goals as goal

pub returns-in_err-image-clause-refused : goal.returns-in_err-image-clause-refused
returns-in_err-image-clause-refused c =
    let list = c.args.list.now in
    let refs = c.args.refs.now in
    passed_on (λ (e : ChoiceError). (e ≡ NoMatch c.len.result) × (best_of list c.wanted-item.result ≡ None)) (IsPickRefusal list refs) c.pick.result c.from_residual.result
    (λ e h. search (rules, h, c.from_residual.ensures, c.in_err-image.is))
    (unmatched list refs c.refs.wanted-index c.wanted-item.result c.refs.picks c.len.result c.refs-test.true c.wanted-item.is c.len.ensures c.refs.invariant.picked) c.pick.ensures.refused

pub refs-preserved : goal.refs-preserved
refs-preserved c =
    let list = c.args.list.now in
    let refs = c.args.refs.now in
    let i = c.refs.wanted-index in
    let picks = c.refs.picks in
    record {
      picked = subst (λ (ps : List ℕ). ArePicks list (take (i + 1) refs) ps) (sym c.in_ok-picks.ensures)
          (mapped_more (best_of list) Some refs i c.wanted-item.result c.wanted-item.result picks c.in_ok-image.image c.refs-test.true c.wanted-item.is c.refs.invariant.picked c.in_ok-image.ensures.picked);
      within = subst (λ (ps : List ℕ). All (λ p. p < length list) ps) (sym c.in_ok-picks.ensures) (All-push (λ p. p < length list) picks c.in_ok-image.image c.refs.invariant.within c.in_ok-image.ensures.within);
    }
