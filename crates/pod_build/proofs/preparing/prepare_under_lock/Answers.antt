use Rattle.std.proofs.Common.{◌≡◌, ℕ, true, inl, inr, List, sym, subst}
use Rattle.plain_laws.proofs.Results.{if_ok, if_err}
use Rattle.folder_building.specs.declared.plan.PlanEntry.{PlanEntry}
use Rattle.folder_building.proofs.Following.{nothing_follows}
use Rattle.pod_plan.specs.FaithfulPods.{PlansFaithfully}
use Rattle.pod_build.specs.Progress.{nothing_made}
use Rattle.pod_build.specs.Work.{MayMake, MakesUnderImages, WhereMakingPod, HasMakerFolder}
use Rattle.pod_build.specs.Makings.{HasMade}
use Rattle.pod_build.proofs.Knowing.{has_nothing}
use Rattle.pod_build.proofs.Times.{follows_went}
use Rattle.pod_build.specs.Answers.{target, held_with}
use Rattle.pod_build.specs.Causes.{FailsPlan, FailsMaking, FollowsPlan, IsMadeByPlan, IsRefusedUnderLock, AreaHeldElsewhere}
use Rattle.pod_build.specs.Preparations.{Began, HasGateAlone, HasPrepared, ReadsThenMakes}
use Rattle.pod_build.proofs.Parts.{during_first, during_last}
use Rattle.pod_build.proofs.Working.{follows_reads, went_reads, went_under, worked_reads, may_make, under_images, knows_read, elsewhere_within}
use Rattle.pod_build.specs.Handovers.{BeforeHandingOver, HandsOverMade}
use Rattle.pod_build.proofs.Handing.{none_handed, handed_among, handed_so, handed_then}
use Rattle.pod_build.proofs.Working.{reads_hand_none}
use Rattle.image_reading.proofs.Trees.{trees_none}
use Rattle.pod_plan.specs.PickedTrees.{copies_no_tree}
use Rattle.pod_build.proofs.TreesUnread.{picked_alone}
use Rattle.pod_build.proofs.preparing.prepare_under_lock.Goals as goal

pub returns-in-Ok-clause-went : goal.returns-in-Ok-clause-went
returns-in-Ok-clause-went g c = went_under c.args.draw.now.uuid (target c.args.keep_owner) c.make.result c.plan_pod.ensures.only c.make.ensures.went

pub returns-in-Ok-clause-refused : goal.returns-in-Ok-clause-refused
returns-in-Ok-clause-refused g c =
    let D = g.D.Dir in
    let old = D.shown c.args.dir.now in
    let mid = D.shown c.plan_pod.new.dir in
    let new = D.shown c.make.new.dir in
    let draw = c.args.draw.now in
    let plan = c.in-Ok.plan.items in
    if_err (λ e. FailsMaking D.observed draw.uuid c.deref.result.now e mid new) (λ e. IsRefusedUnderLock D.observed c.args.refs.now c.args.options.now draw c.args.now e old new) c.make.result
    (λ e x. inr (
      plan,
      during_first (λ a b. D.observed ≡ true → PlansFaithfully c.args.refs.now c.args.options.now c.args.now draw.token plan a b) (follows_went c.make.ensures.went) (λ t. c.in-Ok.ensures.faithful t),
      during_last (λ a b. FailsMaking D.observed draw.uuid plan e a b) (follows_reads c.plan_pod.ensures.only)
          (subst (λ (entries : List PlanEntry). FailsMaking D.observed draw.uuid entries e mid new) c.deref.ensures.value x),
    )) c.make.ensures.refused

pub returns-in-Ok-clause-by_other_process : goal.returns-in-Ok-clause-by_other_process
returns-in-Ok-clause-by_other_process g c =
    let D = g.D.Dir in
    let old = D.shown c.args.dir.now in
    let mid = D.shown c.plan_pod.new.dir in
    let new = D.shown c.make.new.dir in
    let draw = c.args.draw.now in
    let to = target c.args.keep_owner in
    let entries = c.deref.result.now in
    if_err (λ e. D.observed ≡ true → WhereMakingPod (MayMake to entries draw.uuid) (MakesUnderImages draw.uuid) nothing_made mid (λ intent hs. AreaHeldElsewhere e mid new))
    (λ e. D.observed ≡ true → WhereMakingPod (Began to draw c.args.now) (HasGateAlone c.args.gate) nothing_made old (λ intent hs. AreaHeldElsewhere e old new)) c.make.result
    (λ e x t intent hs began alone k. elsewhere_within old mid new new t (follows_reads c.plan_pod.ensures.only) c.make.ensures.went.same nothing_follows
    (x t intent hs (subst (λ (plan : List PlanEntry). MayMake to plan draw.uuid intent) (sym c.deref.ensures.value) (may_make began c.in-Ok.ensures.turn c.in-Ok.ensures.whole)) (under_images draw.uuid c.args.gate alone) (knows_read c.args.gate alone (c.plan_pod.ensures.known t) k)))
    c.make.ensures.by_other_process

pub returns-in-Ok-clause-planned : goal.returns-in-Ok-clause-planned
returns-in-Ok-clause-planned g c =
    let D = g.D.Dir in
    let old = D.shown c.args.dir.now in
    let mid = D.shown c.plan_pod.new.dir in
    let new = D.shown c.make.new.dir in
    let draw = c.args.draw.now in
    let plan = c.in-Ok.plan.items in
    if_ok (λ built. D.observed ≡ true → FollowsPlan draw.uuid c.deref.result.now mid new) (λ built. IsMadeByPlan D.observed c.args.refs.now c.args.options.now draw c.args.now old new) c.make.result
    (λ built x. (
      plan,
      during_first (λ a b. D.observed ≡ true → PlansFaithfully c.args.refs.now c.args.options.now c.args.now draw.token plan a b) (follows_went c.make.ensures.went) (λ t. c.in-Ok.ensures.faithful t),
      during_last (λ a b. D.observed ≡ true → FollowsPlan draw.uuid plan a b) (follows_reads c.plan_pod.ensures.only)
          (subst (λ (entries : List PlanEntry). D.observed ≡ true → FollowsPlan draw.uuid entries mid new) c.deref.ensures.value x),
    )) c.make.ensures.followed

pub returns-in-Ok-clause-prepared : goal.returns-in-Ok-clause-prepared
returns-in-Ok-clause-prepared g c =
    let D = g.D.Dir in
    let old = D.shown c.args.dir.now in
    let mid = D.shown c.plan_pod.new.dir in
    let new = D.shown c.make.new.dir in
    let draw = c.args.draw.now in
    let to = target c.args.keep_owner in
    let entries = c.deref.result.now in
    if_ok (λ built. D.observed ≡ true → WhereMakingPod (MayMake to entries draw.uuid) (MakesUnderImages draw.uuid) nothing_made mid (λ intent hs. HasMade draw.uuid to entries intent (held_with draw.uuid built hs) mid new))
    (λ built. D.observed ≡ true → WhereMakingPod (Began to draw c.args.now) (HasGateAlone c.args.gate) nothing_made old (λ intent hs. HasPrepared c.args.refs.now c.args.options.now draw c.args.now to intent (held_with draw.uuid built hs) old new)) c.make.result
    (λ built x t intent hs began alone k. record {
      mid = mid;
      reads = worked_reads t c.plan_pod.ensures.only;
      plan = c.in-Ok.plan.items;
      planned = c.in-Ok.ensures.faithful t;
      works = c.make.ensures.went.extends t;
      made = subst (λ (plan : List PlanEntry). HasMade draw.uuid to plan intent (held_with draw.uuid built hs) mid new) c.deref.ensures.value
          (x t intent hs (subst (λ (plan : List PlanEntry). MayMake to plan draw.uuid intent) (sym c.deref.ensures.value) (may_make began c.in-Ok.ensures.turn c.in-Ok.ensures.whole)) (under_images draw.uuid c.args.gate alone) (knows_read c.args.gate alone (c.plan_pod.ensures.known t) k));
    }) c.make.ensures.made

pub returns-in-Ok-clause-left : goal.returns-in-Ok-clause-left
returns-in-Ok-clause-left g c =
    let D = g.D.Dir in
    let old = D.shown c.args.dir.now in
    let mid = D.shown c.plan_pod.new.dir in
    let new = D.shown c.make.new.dir in
    let draw = c.args.draw.now in
    let to = target c.args.keep_owner in
    let entries = c.deref.result.now in
    if_err (λ e. D.observed ≡ true → WhereMakingPod (MayMake to entries draw.uuid) (MakesUnderImages draw.uuid) nothing_made mid (λ intent hs. HasMakerFolder draw.uuid intent hs new))
    (λ e. D.observed ≡ true → WhereMakingPod (Began to draw c.args.now) (HasGateAlone c.args.gate) nothing_made old (λ intent hs. HasMakerFolder draw.uuid intent hs new)) c.make.result
    (λ e x t intent hs began alone k. x t intent hs (subst (λ (plan : List PlanEntry). MayMake to plan draw.uuid intent) (sym c.deref.ensures.value) (may_make began c.in-Ok.ensures.turn c.in-Ok.ensures.whole)) (under_images draw.uuid c.args.gate alone) (knows_read c.args.gate alone (c.plan_pod.ensures.known t) k))
    c.make.ensures.left

pub returns-in-Err-clause-went : goal.returns-in-Err-clause-went
returns-in-Err-clause-went g c = went_reads c.args.draw.now.uuid (target c.args.keep_owner) c.plan_pod.ensures.only

pub returns-in-Err-clause-refused : goal.returns-in-Err-clause-refused
returns-in-Err-clause-refused g c =
    let D = g.D.Dir in
    let error = c.plan_refusal.result in
    inl (during_first (λ a b. FailsPlan D.observed c.args.refs.now c.args.options.now error a b) nothing_follows (c.in-Err.error, c.plan_refusal.ensures, c.in-Err.ensures.refused))

pub returns-in-Err-clause-left : goal.returns-in-Err-clause-left
returns-in-Err-clause-left g c t intent hs began alone k = has_nothing (knows_read c.args.gate alone (c.plan_pod.ensures.known t) k)

pub returns-in-Err-clause-whole : goal.returns-in-Err-clause-whole
returns-in-Err-clause-whole g c t intent hs began alone k = none_handed reads_hand_none (c.plan_pod.ensures.only.extends t)

pub returns-in-Ok-clause-whole : goal.returns-in-Ok-clause-whole
returns-in-Ok-clause-whole g c t intent hs began alone k =
    let D = g.D.Dir in
    let old = D.shown c.args.dir.now in
    let mid = D.shown c.plan_pod.new.dir in
    let new = D.shown c.make.new.dir in
    let draw = c.args.draw.now in
    let to = target c.args.keep_owner in
    let read = c.plan_pod.ensures.only.extends t in
    let make = c.make.ensures.went.extends t in
    let same = c.plan_pod.ensures.only.same in
    let made : HandsOverMade draw.uuid c.in-Ok.plan.items intent mid new = subst (λ (plan : List PlanEntry). HandsOverMade draw.uuid plan intent mid new) c.deref.ensures.value
    (c.make.ensures.whole t intent hs (subst (λ (plan : List PlanEntry). MayMake to plan draw.uuid intent) (sym c.deref.ensures.value) (may_make began c.in-Ok.ensures.turn c.in-Ok.ensures.whole)) (under_images draw.uuid c.args.gate alone) (knows_read c.args.gate alone (c.plan_pod.ensures.known t) k)) in
    let Planned = λ (p : ℕ). BeforeHandingOver (ReadsThenMakes c.args.refs.now c.args.options.now draw c.args.now to intent old) p mid.trace new.trace in
    let second : Planned mid.process =
    handed_so (λ before x. record { mid = mid; reads = worked_reads t c.plan_pod.ensures.only; plan = c.in-Ok.plan.items; planned = c.in-Ok.ensures.faithful t; makes = x.1; knew = x.0 }) (handed_among make made) in
    handed_then read.more make.more read.grown make.grown (none_handed reads_hand_none read) (subst Planned same second)

pub returns-in-Ok-clause-trees : goal.returns-in-Ok-clause-trees
returns-in-Ok-clause-trees g c =
    picked_alone c.plan_pod.ensures.trees (c.make.ensures.trees (subst (λ (entries : List PlanEntry). copies_no_tree entries ≡ true) (sym c.deref.ensures.value) c.in-Ok.ensures.copies))

pub returns-in-Err-clause-trees : goal.returns-in-Err-clause-trees
returns-in-Err-clause-trees g c = picked_alone c.plan_pod.ensures.trees trees_none
