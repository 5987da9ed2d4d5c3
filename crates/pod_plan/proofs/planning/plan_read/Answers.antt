use Rattle.std.proofs.Common.{List, sym, subst, inl, inr}
use Rattle.plain_laws.proofs.Results.{if_err}
use Rattle.dep_match.specs.declared.stored.Stored.{Stored}
use Rattle.image_reading.proofs.Asking.{images_none}
use Rattle.image_reading.proofs.Trees.{trees_none}
use Rattle.pod_plan.specs.Choices.{IsChoice, IsChoiceRefused}
use Rattle.pod_plan.specs.declared.plan_error.PlanError.{PlanError}
use Rattle.pod_plan.specs.RootRefusals.{IsRootsRefusal}
use Rattle.pod_plan.specs.NoPlans.{IsUnplanned}
use Rattle.pod_plan.proofs.Plans.{unchosen, unrooted}
use Rattle.pod_plan.proofs.planning.plan_read.Goals as goal

pub plan_chosen-requires-clause-chosen : goal.plan_chosen-requires-clause-chosen
plan_chosen-requires-clause-chosen g c =
    subst (λ (xs : List Stored). IsChoice xs c.args.refs.now c.args.options.now c.in-Ok.choice) c.as_slice.ensures.value c.in-Ok.ensures.ok

pub returns-in-Ok-clause-refused : goal.returns-in-Ok-clause-refused
returns-in-Ok-clause-refused g c =
    let D = g.D.Dir in
    let old = D.shown c.args.dir.now in
    let new = D.shown c.plan_chosen.new.dir in
    let images = c.args.read.now.images.items in
    let refs = c.args.refs.now in
    let options = c.args.options.now in
    let choice = c.in-Ok.choice in
    let chosen = subst (λ (xs : List Stored). IsChoice xs refs options choice) c.as_slice.ensures.value c.in-Ok.ensures.ok in
    if_err (λ e. IsRootsRefusal D.observed images choice.trees e old new) (λ e. IsUnplanned D.observed images refs options e old new) c.plan_chosen.result
    (λ e h. unrooted D.observed old new images refs options choice chosen e h) c.plan_chosen.ensures.refused

pub returns-in-Err-clause-only : goal.returns-in-Err-clause-only
returns-in-Err-clause-only g c = images_none

pub returns-in-Err-clause-refused : goal.returns-in-Err-clause-refused
returns-in-Err-clause-refused g c =
    let D = g.D.Dir in
    let here = D.shown c.args.dir.now in
    let images = c.args.read.now.images.items in
    let refs = c.args.refs.now in
    let options = c.args.options.now in
    subst (λ (e : PlanError). IsUnplanned D.observed images refs options e here here) (sym c.choice_refusal.ensures)
    (unchosen D.observed here here images refs options c.in-Err.error (subst (λ (xs : List Stored). IsChoiceRefused xs refs options c.in-Err.error) c.as_slice.ensures.value c.in-Err.ensures.refused))

pub returns-in-Ok-clause-trees : goal.returns-in-Ok-clause-trees
returns-in-Ok-clause-trees g c =
    inr (record {
      choice = c.in-Ok.choice;
      chosen = subst (λ (xs : List Stored). IsChoice xs c.args.refs.now c.args.options.now c.in-Ok.choice) c.as_slice.ensures.value c.in-Ok.ensures.ok;
      trees = c.plan_chosen.ensures.trees;
    })

pub returns-in-Err-clause-trees : goal.returns-in-Err-clause-trees
returns-in-Err-clause-trees g c = inl trees_none
