use Rattle.std.proofs.Common.{◌≡◌, true, Some, Err, ap, Ok, [], ◌∷◌, refl, rules, ◌∙◌}
use Rattle.plain_laws.proofs.Results.{if_ok, if_err, err_same}
use Rattle.dir_model.specs.declared.area.Area.TheVariants.{Prepared}
use Rattle.dir_model.specs.declared.spot.Mode.TheVariants.{Exclusive}
use Rattle.dir_files.proofs.Locking.{number_is_new}
use Rattle.folder_building.specs.Sources.{in_images}
use Rattle.folder_building.specs.Stored.{HadContents}
use Rattle.folder_building.proofs.Copying.{ok_any}
use Rattle.folder_building.proofs.Stored.{all_had_after, all_had_before}
use Rattle.folder_building.proofs.Working.{worked_wider}
use Rattle.pod_build.specs.Progress.{nothing_made, in_prepare, own_held}
use Rattle.pod_build.specs.Work.{MayMake, MakesUnderImages, Owns, WhereMakingPod, HasMakerFolder}
use Rattle.pod_build.specs.MakingCauses.{MakingWorkCause, MakeCause}
use Rattle.pod_build.specs.Makings.{HasMade}
use Rattle.pod_build.specs.Handovers.{KnewMade}
use Rattle.pod_build.proofs.Steps.{is_maker_of}
use Rattle.pod_build.proofs.Knowing.{owns_images, own_back, made_free}
use Rattle.pod_build.proofs.Outcomes.{err_with, held_is, follows_close, went_worked, went_closed, begins_makes, finishes_makes, worked_residual}
use Rattle.pod_build.proofs.Times.{follows_went, calm_cause, cause_after, cause_before, folder_before, brought_changed, own_before, make_planned, went_wider, worked_went}
use Rattle.pod_build.proofs.Handing.{none_handed, handed_after, handed_close, follow_on, begins_hand_none}
use Rattle.pod_build.proofs.MakingLawful.{refused_stray}
use Rattle.image_reading.proofs.Trees.{trees_more}
use Rattle.pod_build.proofs.TreesUnread.{begun_unread, closed_unread}
use Rattle.pod_build.proofs.making.make_prepared.Goals as goal

pub returns-in_err-own-clause-worked : goal.returns-in_err-own-clause-worked
returns-in_err-own-clause-worked g c = worked_went (went_wider (begins_makes c.args.draw Prepared) (worked_residual c.args.draw c.begin_pod.result c.in_err-own.field-0.0 c.in_err-own.was c.begin_pod.ensures.went))

pub returns-in_err-own-clause-cause : goal.returns-in_err-own-clause-cause
returns-in_err-own-clause-cause g c =
    let D = g.D.Dir in
    let old = D.shown c.args.dir.now in
    let new = D.shown c.begin_pod.new.dir in
    err_same (λ e. MakeCause D.observed c.args.draw c.args.plan.now e old new) c.begin_pod.result c.from_residual.result (λ e h. search (rules, h, c.from_residual.ensures, c.in_err-own.is))
    (if_err (λ e. MakeCause D.observed c.args.draw [] e old new) (λ e. MakeCause D.observed c.args.draw c.args.plan.now e old new) c.begin_pod.result (λ e x. make_planned c.args.plan.now x) c.begin_pod.ensures.cause)

pub returns-clause-worked : goal.returns-clause-worked
returns-clause-worked g c =
    let ok : c.begin_pod.result ≡ Ok c.in_ok-own.own = search (rules, c.branch-own.ensures, c.in_ok-own.is) in
    let before = (g.D.Dir.shown c.args.dir.now).local in
    worked_went (went_closed c.args.draw refl c.in_ok-own.ensures.unopened
    (went_worked (went_wider (begins_makes c.args.draw Prepared) c.begin_pod.ensures.went) (worked_wider (finishes_makes c.args.draw Prepared) c.finish_pod-result.ensures.worked))
    (held_is before c.args.draw c.begin_pod.result c.in_ok-own.own ok (c.finish_pod-result.ensures.worked.local ∙ c.begin_pod.ensures.went.local_is)) c.close.ensures.called)

pub returns-clause-cause : goal.returns-clause-cause
returns-clause-cause g c =
    let D = g.D.Dir in
    let plan = c.args.plan.now in
    let mid = D.shown c.begin_pod.new.dir in
    let late = D.shown c.finish_pod-result.new.dir in
    let closes = follows_close c.close.ensures.faultless c.close.ensures.called in
    err_with (λ e. MakingWorkCause D.observed plan e mid late) (λ e. MakeCause D.observed c.args.draw plan e (D.shown c.args.dir.now) (D.shown c.close.new.self)) c.finish_pod-result.result
    (λ e was x. calm_cause (λ t. folder_before (D.shown c.args.dir.now) late (D.shown c.close.new.self) (folder_before (D.shown c.args.dir.now) mid late (c.in_ok-own.ensures.begins t) c.begin_pod.ensures.went.same (c.finish_pod-result.ensures.worked.extends t)) (c.finish_pod-result.ensures.worked.same ∙ c.begin_pod.ensures.went.same) (closes.extends t)) (λ is t. own_before (D.shown c.args.dir.now) late (D.shown c.close.new.self) (brought_changed (D.shown c.args.dir.now) mid late (c.in_ok-own.ensures.brings t) c.begin_pod.ensures.went.same (c.finish_pod-result.ensures.stray (was ∙ ap Err is) t)) (closes.extends t)) (cause_before (c.finish_pod-result.ensures.worked.same ∙ c.begin_pod.ensures.went.same) (cause_after (follows_went c.begin_pod.ensures.went) x) (follows_close c.close.ensures.faultless c.close.ensures.called)))
    c.finish_pod-result.ensures.cause

pub returns-clause-made : goal.returns-clause-made
returns-clause-made g c =
    let D = g.D.Dir in
    let draw = c.args.draw in
    let plan = c.args.plan.now in
    let own = c.in_ok-own.own in
    let old = D.shown c.args.dir.now in
    let mid = D.shown c.begin_pod.new.dir in
    let late = D.shown c.finish_pod-result.new.dir in
    let new = D.shown c.close.new.self in
    if_ok (λ done. D.observed ≡ true → WhereMakingPod (MayMake Prepared plan draw) (Owns draw) (in_prepare draw []) mid (λ intent hs. HasMade draw Prepared plan intent hs mid late))
    (λ done. D.observed ≡ true → WhereMakingPod (MayMake Prepared plan draw) (MakesUnderImages draw) nothing_made old (λ intent hs. HasMade draw Prepared plan intent hs old new)) c.finish_pod-result.result
    (λ done f t intent hs may under k. made_free draw Prepared plan intent old mid late new t hs own (number_is_new own k c.in_ok-own.ensures.unopened) (follows_went c.begin_pod.ensures.went) (follows_close c.close.ensures.faultless c.close.ensures.called) c.close.ensures.called
    (f t intent (own_held draw own (Some Exclusive) ∷ hs) may (owns_images own under) (c.in_ok-own.ensures.held t intent hs (is_maker_of may) under k)))
    c.finish_pod-result.ensures.made

pub returns-clause-left : goal.returns-clause-left
returns-clause-left g c =
    let D = g.D.Dir in
    let draw = c.args.draw in
    let plan = c.args.plan.now in
    let own = c.in_ok-own.own in
    let old = D.shown c.args.dir.now in
    let mid = D.shown c.begin_pod.new.dir in
    let late = D.shown c.finish_pod-result.new.dir in
    let new = D.shown c.close.new.self in
    if_err (λ e. D.observed ≡ true → WhereMakingPod (MayMake Prepared plan draw) (Owns draw) (in_prepare draw []) mid (λ intent hs. HasMakerFolder draw intent hs late))
    (λ e. D.observed ≡ true → WhereMakingPod (MayMake Prepared plan draw) (MakesUnderImages draw) nothing_made old (λ intent hs. HasMakerFolder draw intent hs new)) c.finish_pod-result.result
    (λ e f t intent hs may under k. own_back t (number_is_new own k c.in_ok-own.ensures.unopened) c.close.ensures.called
    (f t intent (own_held draw own (Some Exclusive) ∷ hs) may (owns_images own under) (c.in_ok-own.ensures.held t intent hs (is_maker_of may) under k)))
    c.finish_pod-result.ensures.left

pub returns-in_err-own-clause-whole : goal.returns-in_err-own-clause-whole
returns-in_err-own-clause-whole g c t intent hs may under k = none_handed (begins_hand_none c.args.draw) (c.begin_pod.ensures.went.extends t)

pub returns-clause-whole : goal.returns-clause-whole
returns-clause-whole g c t intent hs may under k =
    let draw = c.args.draw in
    let plan = c.args.plan.now in
    let own = c.in_ok-own.own in
    handed_close (follow_on (c.begin_pod.ensures.went.extends t) c.begin_pod.ensures.went.same (c.finish_pod-result.ensures.worked.extends t))
    (c.finish_pod-result.ensures.worked.same ∙ c.begin_pod.ensures.went.same)
    (handed_after (λ me. KnewMade me draw plan intent) (begins_hand_none draw) (c.begin_pod.ensures.went.extends t) c.begin_pod.ensures.went.same (c.finish_pod-result.ensures.worked.extends t)
    (c.finish_pod-result.ensures.whole t intent (own_held draw own (Some Exclusive) ∷ hs) may (owns_images own under) (c.in_ok-own.ensures.held t intent hs (is_maker_of may) under k)))
    (c.close.ensures.called.step t)

pub returns-in_err-own-clause-lawful : goal.returns-in_err-own-clause-lawful
returns-in_err-own-clause-lawful g c is t conforming =
    let D = g.D.Dir in
    refused_stray c.args.draw c.args.plan.now (D.shown c.args.dir.now) (D.shown c.begin_pod.new.dir) c.from_residual.result (returns-in_err-own-clause-cause g c) is t conforming

pub returns-clause-lawful : goal.returns-clause-lawful
returns-clause-lawful g c is t conforming =
    let D = g.D.Dir in
    refused_stray c.args.draw c.args.plan.now (D.shown c.args.dir.now) (D.shown c.close.new.self) c.finish_pod-result.result (returns-clause-cause g c) is t conforming

pub returns-clause-begins : goal.returns-clause-begins
returns-clause-begins g c =
    let D = g.D.Dir in
    let old = D.shown c.args.dir.now in
    let mid = D.shown c.begin_pod.new.dir in
    let late = D.shown c.finish_pod-result.new.dir in
    let new = D.shown c.close.new.self in
    let closes = follows_close c.close.ensures.faultless c.close.ensures.called in
    ok_any c.finish_pod-result.result (λ t. folder_before old late new (folder_before old mid late (c.in_ok-own.ensures.begins t) c.begin_pod.ensures.went.same (c.finish_pod-result.ensures.worked.extends t)) (c.finish_pod-result.ensures.worked.same ∙ c.begin_pod.ensures.went.same) (closes.extends t))

pub returns-clause-had : goal.returns-clause-had
returns-clause-had g c =
    let D = g.D.Dir in
    let plan = c.args.plan.now in
    let old = D.shown c.args.dir.now in
    let mid = D.shown c.begin_pod.new.dir in
    let late = D.shown c.finish_pod-result.new.dir in
    let new = D.shown c.close.new.self in
    let closes = follows_close c.close.ensures.faultless c.close.ensures.called in
    if_ok (λ done. D.observed ≡ true → HadContents in_images plan mid late) (λ done. D.observed ≡ true → HadContents in_images plan old new) c.finish_pod-result.result
    (λ done f t. all_had_after old mid (c.begin_pod.ensures.went.extends t) c.begin_pod.ensures.went.same in_images plan new (all_had_before late new (closes.extends t) in_images plan mid c.finish_pod-result.ensures.worked.same (f t)))
    c.finish_pod-result.ensures.had

pub returns-in_err-own-clause-trees : goal.returns-in_err-own-clause-trees
returns-in_err-own-clause-trees g c free = begun_unread c.args.draw c.begin_pod.ensures.went

pub returns-clause-trees : goal.returns-clause-trees
returns-clause-trees g c free = trees_more (trees_more (begun_unread c.args.draw c.begin_pod.ensures.went) (c.finish_pod-result.ensures.trees free)) (closed_unread c.close.ensures.called)
