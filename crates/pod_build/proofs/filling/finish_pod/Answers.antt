use Rattle.std.proofs.Common.{◌≡◌, true, [], List, IsErrOf, rules}
use Rattle.plain_laws.proofs.Results.{if_ok, if_err, err_same}
use Rattle.folder_building.specs.declared.plan.PlanEntry.{PlanEntry}
use Rattle.dir_model.specs.declared.area.Area.{Area}
use Rattle.dir_trait.specs.Knowledge.{Knows}
use Rattle.pod_build.specs.Handovers.{KnewMade}
use Rattle.folder_building.specs.Sources.{in_images}
use Rattle.folder_building.proofs.Copying.{ok_any}
use Rattle.folder_building.proofs.Stored.{all_had_before}
use Rattle.folder_building.proofs.Working.{worked_more, worked_wider}
use Rattle.folder_building.proofs.Following.{follows_work, nothing_follows}
use Rattle.pod_build.specs.Progress.{seen_making, in_prepare}
use Rattle.pod_build.specs.Work.{MayMake, Owns, WhereMakingPod, HasMakerFolder}
use Rattle.pod_build.specs.MakingCauses.{MakingWorkCause}
use Rattle.pod_build.specs.Makings.{WherePlanFilled, IsHanded, HasMade}
use Rattle.pod_build.proofs.Knowing.{has_prepare, handed_made}
use Rattle.pod_build.proofs.Outcomes.{fills_finishes, hands_finishes}
use Rattle.pod_build.proofs.Times.{cause_after, cause_planned, answered_after}
use Rattle.pod_build.specs.declared.make_error.MakeError.TheVariants.{Stray}
use Rattle.pod_build.specs.MakingRequests.{shows_changed}
use Rattle.pod_build.proofs.Handing.{none_handed, handed_after, fills_hand_none}
use Rattle.image_reading.proofs.Trees.{trees_more}
use Rattle.pod_build.proofs.TreesUnread.{handed_unread}
use Rattle.pod_build.proofs.filling.finish_pod.Goals as goal

pub returns-in_err-fill-clause-worked : goal.returns-in_err-fill-clause-worked
returns-in_err-fill-clause-worked g c = worked_wider (fills_finishes c.args.draw c.args.to) c.fill.ensures.worked

pub returns-in_err-fill-clause-left : goal.returns-in_err-fill-clause-left
returns-in_err-fill-clause-left g c =
    let D = g.D.Dir in
    let draw = c.args.draw in
    let plan = c.args.plan.now in
    let old = D.shown c.args.dir.now in
    let new = D.shown c.fill.new.dir in
    err_same (λ e. D.observed ≡ true → WhereMakingPod (MayMake c.args.to plan draw) (Owns draw) (in_prepare draw []) old (λ intent hs. HasMakerFolder draw intent hs new)) c.fill.result c.from_residual.result
    (λ e h. search (rules, h, c.from_residual.ensures, c.in_err-fill.is))
    (if_err (λ e. D.observed ≡ true → (to : Area) → WhereMakingPod (MayMake to plan draw) (Owns draw) (in_prepare draw []) old (λ intent hs. HasMakerFolder draw intent hs new))
    (λ e. D.observed ≡ true → WhereMakingPod (MayMake c.args.to plan draw) (Owns draw) (in_prepare draw []) old (λ intent hs. HasMakerFolder draw intent hs new)) c.fill.result (λ e f t. f t c.args.to) c.fill.ensures.left)

pub returns-clause-worked : goal.returns-clause-worked
returns-clause-worked g c = worked_more (worked_wider (fills_finishes c.args.draw c.args.to) c.fill.ensures.worked) (worked_wider (hands_finishes c.args.draw c.args.to) c.hand_over.ensures.worked)

pub returns-clause-cause : goal.returns-clause-cause
returns-clause-cause g c =
    let D = g.D.Dir in
    let draw = c.args.draw in
    let plan = c.args.plan.now in
    let new = D.shown c.hand_over.new.dir in
    if_err (λ e. MakingWorkCause D.observed [] e (D.shown c.fill.new.dir) new) (λ e. MakingWorkCause D.observed plan e (D.shown c.args.dir.now) new) c.hand_over.result
    (λ e x. cause_after (follows_work c.fill.ensures.worked) (cause_planned plan x)) c.hand_over.ensures.cause

pub returns-clause-made : goal.returns-clause-made
returns-clause-made g c =
    let D = g.D.Dir in
    let draw = c.args.draw in
    let to = c.args.to in
    let whole = c.args.plan.now in
    let old = D.shown c.args.dir.now in
    let mid = D.shown c.fill.new.dir in
    let new = D.shown c.hand_over.new.dir in
    if_ok (λ done. D.observed ≡ true → (plan : List PlanEntry) → WherePlanFilled to plan draw mid (λ intent hs entries. IsHanded draw to intent hs entries mid new))
    (λ done. D.observed ≡ true → WhereMakingPod (MayMake to whole draw) (Owns draw) (in_prepare draw []) old (λ intent hs. HasMade draw to whole intent hs old new)) c.hand_over.result
    (λ done f t intent hs may owns k. let x = c.in_ok-fill.ensures.filled t to intent hs may owns k in handed_made old mid new t (follows_work c.fill.ensures.worked) nothing_follows x (f t whole intent hs x.entries may owns x.made x.knows))
    c.hand_over.ensures.handed

pub returns-clause-left : goal.returns-clause-left
returns-clause-left g c =
    let D = g.D.Dir in
    let draw = c.args.draw in
    let to = c.args.to in
    let whole = c.args.plan.now in
    let old = D.shown c.args.dir.now in
    let mid = D.shown c.fill.new.dir in
    let new = D.shown c.hand_over.new.dir in
    if_err (λ e. D.observed ≡ true → (plan : List PlanEntry) → WherePlanFilled to plan draw mid (λ intent hs entries. Knows new (seen_making intent hs (in_prepare draw entries))))
    (λ e. D.observed ≡ true → WhereMakingPod (MayMake to whole draw) (Owns draw) (in_prepare draw []) old (λ intent hs. HasMakerFolder draw intent hs new)) c.hand_over.result
    (λ e f t intent hs may owns k. let x = c.in_ok-fill.ensures.filled t to intent hs may owns k in has_prepare x.entries (f t whole intent hs x.entries may owns x.made x.knows))
    c.hand_over.ensures.left

pub returns-in_err-fill-clause-whole : goal.returns-in_err-fill-clause-whole
returns-in_err-fill-clause-whole g c t intent hs may owns k = none_handed (fills_hand_none c.args.draw) (c.fill.ensures.worked.extends t)

pub returns-clause-whole : goal.returns-clause-whole
returns-clause-whole g c t intent hs may owns k =
    let draw = c.args.draw in
    let plan = c.args.plan.now in
    let x = c.in_ok-fill.ensures.filled t c.args.to intent hs may owns k in
    handed_after (λ me. KnewMade me draw plan intent) (fills_hand_none draw) (c.fill.ensures.worked.extends t) c.fill.ensures.worked.same (c.hand_over.ensures.worked.extends t) (c.hand_over.ensures.whole t plan intent hs x.entries may owns x.made x.knows)

pub returns-in_err-fill-clause-stray : goal.returns-in_err-fill-clause-stray
returns-in_err-fill-clause-stray g c h t =
    let k : IsErrOf c.fill.result Stray = search (rules, h, c.from_residual.ensures, c.in_err-fill.is) in
    c.fill.ensures.stray k t

pub returns-clause-stray : goal.returns-clause-stray
returns-clause-stray g c h t = answered_after (shows_changed c.args.draw) (c.fill.ensures.worked.extends t) c.fill.ensures.worked.same (c.hand_over.ensures.stray h t)

pub returns-clause-had : goal.returns-clause-had
returns-clause-had g c =
    let D = g.D.Dir in
    ok_any c.hand_over.result (λ t. all_had_before (D.shown c.fill.new.dir) (D.shown c.hand_over.new.dir) (c.hand_over.ensures.worked.extends t) in_images c.args.plan.now (D.shown c.args.dir.now) c.fill.ensures.worked.same (c.in_ok-fill.ensures.had t))

pub returns-clause-trees : goal.returns-clause-trees
returns-clause-trees g c free = trees_more (c.fill.ensures.trees free) (handed_unread c.args.draw c.args.to c.hand_over.ensures.worked)
