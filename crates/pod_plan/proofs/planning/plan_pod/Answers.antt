use Rattle.std.proofs.Common.{◌≡◌, true, sym, subst, inl, List, ℕ, ◌∙◌, ap}
use Rattle.plain_laws.proofs.Results.{if_ok, if_err}
use Rattle.image_reading.proofs.Asking.{images_more}
use Rattle.image_reading.proofs.Holding.{knows_images}
use Rattle.pod_plan.specs.declared.plan_error.PlanError.{PlanError}
use Rattle.pod_plan.specs.Plans.{PlansChoice}
use Rattle.pod_plan.specs.FaithfulPods.{PlansFaithfully}
use Rattle.pod_plan.specs.NoPlans.{IsUnplanned, IsNoPlan}
use Rattle.pod_plan.proofs.Again.{as_many, have_manifests, listed_before, manifests_before}
use Rattle.pod_plan.proofs.Plans.{choice_since, none_planned, none_read}
use Rattle.pod_plan.proofs.Faithful.{plans_faithfully}
use Rattle.pod_plan.specs.PickedTrees.{copies_no_tree}
use Rattle.pod_plan.proofs.PickedTrees.{picked_after}
use Rattle.pod_plan.proofs.NoTrees.{choice_copies}
use Rattle.pod_plan.proofs.planning.plan_pod.Goals as goal

pub plan_read-requires-clause-whole : goal.plan_read-requires-clause-whole
plan_read-requires-clause-whole g c = as_many c.in-Ok.read c.in-Ok.ensures.read

pub returns-in-Ok-clause-only : goal.returns-in-Ok-clause-only
returns-in-Ok-clause-only g c = images_more c.read_images.ensures.only c.plan_read.ensures.only

pub returns-in-Ok-clause-known : goal.returns-in-Ok-clause-known
returns-in-Ok-clause-known g c t = knows_images c.args.gate c.requires.held (images_more c.read_images.ensures.only c.plan_read.ensures.only) t

pub returns-in-Ok-clause-refused : goal.returns-in-Ok-clause-refused
returns-in-Ok-clause-refused g c =
    let D = g.D.Dir in
    let old = D.shown c.args.dir.now in
    let mid = D.shown c.read_images.new.dir in
    let new = D.shown c.plan_read.new.dir in
    let images = c.in-Ok.read.images.items in
    let refs = c.args.refs.now in
    let options = c.args.options.now in
    if_err (λ e. IsUnplanned D.observed images refs options e mid new) (IsNoPlan D.observed refs options old new) c.plan_read.result
    (λ e none. none_planned D.observed old mid new c.read_images.ensures.only images (λ t. listed_before t images (c.in-Ok.ensures.read.listed t) c.plan_read.ensures.only) refs options e none) c.plan_read.ensures.refused

pub returns-in-Ok-clause-made : goal.returns-in-Ok-clause-made
returns-in-Ok-clause-made g c =
    let D = g.D.Dir in
    let old = D.shown c.args.dir.now in
    let mid = D.shown c.read_images.new.dir in
    let new = D.shown c.plan_read.new.dir in
    let images = c.in-Ok.read.images.items in
    let manifests = c.in-Ok.read.manifests.items in
    let refs = c.args.refs.now in
    let options = c.args.options.now in
    if_ok (λ plan. PlansChoice D.observed images manifests refs options c.args.now c.args.token.now plan.items mid new) _ c.plan_read.result
    (λ plan p. (images, manifests, choice_since D.observed old mid new c.read_images.ensures.only p)) c.plan_read.ensures.made

pub returns-in-Ok-clause-faithful : goal.returns-in-Ok-clause-faithful
returns-in-Ok-clause-faithful g c =
    let D = g.D.Dir in
    let old = D.shown c.args.dir.now in
    let mid = D.shown c.read_images.new.dir in
    let new = D.shown c.plan_read.new.dir in
    let read = c.in-Ok.read in
    let known = c.in-Ok.ensures.read in
    let images = read.images.items in
    let manifests = read.manifests.items in
    let refs = c.args.refs.now in
    let options = c.args.options.now in
    if_ok (λ plan. PlansChoice D.observed images manifests refs options c.args.now c.args.token.now plan.items mid new)
    (λ plan. D.observed ≡ true → PlansFaithfully refs options c.args.now c.args.token.now plan.items old new) c.plan_read.result
    (λ plan p t. plans_faithfully t images manifests (listed_before t images (known.listed t) c.plan_read.ensures.only)
    (manifests_before old t images manifests (have_manifests read known t) c.plan_read.ensures.only) (choice_since D.observed old mid new c.read_images.ensures.only p)) c.plan_read.ensures.made

pub returns-in-Err-clause-refused : goal.returns-in-Err-clause-refused
returns-in-Err-clause-refused g c =
    let D = g.D.Dir in
    let old = D.shown c.args.dir.now in
    let new = D.shown c.read_images.new.dir in
    let refs = c.args.refs.now in
    let options = c.args.options.now in
    subst (λ (e : PlanError). IsNoPlan D.observed refs options old new e) (sym c.store_refusal.ensures) (none_read D.observed refs options old new c.in-Err.error c.in-Err.ensures.lacks)

pub returns-in-Ok-clause-trees : goal.returns-in-Ok-clause-trees
returns-in-Ok-clause-trees g c =
    let images = c.in-Ok.read.images.items in
    picked_after images c.args.refs.now c.args.options.now c.read_images.ensures.trees (λ t. listed_before t images (c.in-Ok.ensures.read.listed t) c.plan_read.ensures.only) c.plan_read.ensures.trees

pub returns-in-Err-clause-trees : goal.returns-in-Err-clause-trees
returns-in-Err-clause-trees g c = inl c.read_images.ensures.trees

pub returns-in-Ok-clause-copies : goal.returns-in-Ok-clause-copies
returns-in-Ok-clause-copies g c =
    let D = g.D.Dir in
    let mid = D.shown c.read_images.new.dir in
    let new = D.shown c.plan_read.new.dir in
    if_ok (λ plan. PlansChoice D.observed c.in-Ok.read.images.items c.in-Ok.read.manifests.items c.args.refs.now c.args.options.now c.args.now c.args.token.now plan.items mid new) (λ plan. copies_no_tree plan.items ≡ true) c.plan_read.result
    (λ plan p. choice_copies p) c.plan_read.ensures.made
