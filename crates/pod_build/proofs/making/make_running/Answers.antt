use Rattle.std.proofs.Common.{◌≡◌, Some, Err, ap, Ok, [], ◌∷◌, refl, rules, ◌∙◌}
use Rattle.plain_laws.proofs.Results.{if_err, err_same}
use Rattle.dir_model.specs.declared.area.Area.TheVariants.{Run}
use Rattle.dir_model.specs.declared.spot.Mode.TheVariants.{Exclusive}
use Rattle.dir_files.proofs.Locking.{number_is_new}
use Rattle.folder_building.specs.Sources.{in_images}
use Rattle.folder_building.proofs.Stored.{all_had_after}
use Rattle.folder_building.proofs.Working.{worked_wider}
use Rattle.folder_building.proofs.Following.{nothing_follows}
use Rattle.pod_build.specs.declared.make_error.MakeError.TheVariants.{Stray}
use Rattle.pod_build.specs.Progress.{own_held}
use Rattle.pod_build.specs.MakingCauses.{MakeCause}
use Rattle.pod_build.specs.Handovers.{KnewMade}
use Rattle.pod_build.proofs.Steps.{is_maker_of}
use Rattle.pod_build.proofs.Knowing.{owns_images, own_back, made_kept, runs_pod}
use Rattle.pod_build.proofs.Outcomes.{held_is, follows_close, went_worked, went_closed, went_as, went_residual, begins_makes, finishes_makes, worked_residual}
use Rattle.pod_build.proofs.Times.{follows_went, calm_cause, cause_after, cause_before, folder_before, brought_changed, own_before, make_planned, went_wider}
use Rattle.pod_build.proofs.Handing.{none_handed, handed_after, handed_close, follow_on, begins_hand_none}
use Rattle.pod_build.proofs.MakingLawful.{never_stray, refused_stray}
use Rattle.image_reading.proofs.Trees.{trees_more}
use Rattle.pod_build.proofs.TreesUnread.{begun_unread, closed_unread}
use Rattle.pod_build.proofs.making.make_running.Goals as goal

pub returns-in_err-own-clause-went : goal.returns-in_err-own-clause-went
returns-in_err-own-clause-went g c =
    let before = (g.D.Dir.shown c.args.dir.now).local in
    went_residual before c.args.draw c.from_residual.result c.from_residual.ensures.0 (went_wider (begins_makes c.args.draw Run) (worked_residual c.args.draw c.begin_pod.result c.in_err-own.field-0.0 c.in_err-own.was c.begin_pod.ensures.went))

pub returns-in_err-own-clause-cause : goal.returns-in_err-own-clause-cause
returns-in_err-own-clause-cause g c =
    let D = g.D.Dir in
    let old = D.shown c.args.dir.now in
    let new = D.shown c.begin_pod.new.dir in
    err_same (λ e. MakeCause D.observed c.args.draw c.args.plan.now e old new) c.begin_pod.result c.from_residual.result (λ e h. search (rules, h, c.from_residual.ensures, c.in_err-own.is))
    (if_err (λ e. MakeCause D.observed c.args.draw [] e old new) (λ e. MakeCause D.observed c.args.draw c.args.plan.now e old new) c.begin_pod.result (λ e x. make_planned c.args.plan.now x) c.begin_pod.ensures.cause)

pub returns-in-Ok-clause-owned : goal.returns-in-Ok-clause-owned
returns-in-Ok-clause-owned g c = record { is = refl; area = refl; unopened = c.in_ok-own.ensures.unopened }

pub returns-in-Ok-clause-went : goal.returns-in-Ok-clause-went
returns-in-Ok-clause-went g c =
    let ok : c.begin_pod.result ≡ Ok c.in_ok-own.own = search (rules, c.branch-own.ensures, c.in_ok-own.is) in
    went_as (g.D.Dir.shown c.args.dir.now).local c.args.draw c.begin_pod.result (Ok c.in_ok-own.own) ok (went_worked (went_wider (begins_makes c.args.draw Run) c.begin_pod.ensures.went) (worked_wider (finishes_makes c.args.draw Run) c.finish_pod.ensures.worked))

pub returns-in-Ok-clause-runs : goal.returns-in-Ok-clause-runs
returns-in-Ok-clause-runs g c t intent hs may under k =
    let draw = c.args.draw in
    let own = c.in_ok-own.own in
    runs_pod (c.in-Ok.ensures.made t intent (own_held draw own (Some Exclusive) ∷ hs) may (owns_images own under) (c.in_ok-own.ensures.held t intent hs (is_maker_of may) under k))

pub returns-in-Ok-clause-made : goal.returns-in-Ok-clause-made
returns-in-Ok-clause-made g c t intent hs may under k =
    let D = g.D.Dir in
    let draw = c.args.draw in
    let own = c.in_ok-own.own in
    made_kept draw Run c.args.plan.now intent (D.shown c.args.dir.now) (D.shown c.begin_pod.new.dir) (D.shown c.finish_pod.new.dir) (D.shown c.finish_pod.new.dir) t (own_held draw own (Some Exclusive) ∷ hs) (follows_went c.begin_pod.ensures.went) nothing_follows
    (c.in-Ok.ensures.made t intent (own_held draw own (Some Exclusive) ∷ hs) may (owns_images own under) (c.in_ok-own.ensures.held t intent hs (is_maker_of may) under k))

pub returns-in-Err-clause-went : goal.returns-in-Err-clause-went
returns-in-Err-clause-went g c =
    let ok : c.begin_pod.result ≡ Ok c.in_ok-own.own = search (rules, c.branch-own.ensures, c.in_ok-own.is) in
    let before = (g.D.Dir.shown c.args.dir.now).local in
    went_closed c.args.draw refl c.in_ok-own.ensures.unopened
    (went_worked (went_wider (begins_makes c.args.draw Run) c.begin_pod.ensures.went) (worked_wider (finishes_makes c.args.draw Run) c.finish_pod.ensures.worked))
    (held_is before c.args.draw c.begin_pod.result c.in_ok-own.own ok (c.finish_pod.ensures.worked.local ∙ c.begin_pod.ensures.went.local_is)) c.close.ensures.called

pub returns-in-Err-clause-cause : goal.returns-in-Err-clause-cause
returns-in-Err-clause-cause g c =
    let D = g.D.Dir in
    let closes = follows_close c.close.ensures.faultless c.close.ensures.called in
    calm_cause (λ t. folder_before (D.shown c.args.dir.now) (D.shown c.finish_pod.new.dir) (D.shown c.close.new.self) (folder_before (D.shown c.args.dir.now) (D.shown c.begin_pod.new.dir) (D.shown c.finish_pod.new.dir) (c.in_ok-own.ensures.begins t) c.begin_pod.ensures.went.same (c.finish_pod.ensures.worked.extends t)) (c.finish_pod.ensures.worked.same ∙ c.begin_pod.ensures.went.same) (closes.extends t))
    (λ is t. own_before (D.shown c.args.dir.now) (D.shown c.finish_pod.new.dir) (D.shown c.close.new.self) (brought_changed (D.shown c.args.dir.now) (D.shown c.begin_pod.new.dir) (D.shown c.finish_pod.new.dir) (c.in_ok-own.ensures.brings t) c.begin_pod.ensures.went.same (c.in-Err.ensures.stray (ap Err is) t)) (closes.extends t)) (cause_before (c.finish_pod.ensures.worked.same ∙ c.begin_pod.ensures.went.same) (cause_after (follows_went c.begin_pod.ensures.went) c.in-Err.ensures.cause) (follows_close c.close.ensures.faultless c.close.ensures.called))

pub returns-in-Err-clause-left : goal.returns-in-Err-clause-left
returns-in-Err-clause-left g c t intent hs may under k =
    let draw = c.args.draw in
    let own = c.in_ok-own.own in
    own_back t (number_is_new own k c.in_ok-own.ensures.unopened) c.close.ensures.called
    (c.in-Err.ensures.left t intent (own_held draw own (Some Exclusive) ∷ hs) may (owns_images own under) (c.in_ok-own.ensures.held t intent hs (is_maker_of may) under k))

pub returns-in_err-own-clause-whole : goal.returns-in_err-own-clause-whole
returns-in_err-own-clause-whole g c t intent hs may under k = none_handed (begins_hand_none c.args.draw) (c.begin_pod.ensures.went.extends t)

pub returns-in-Ok-clause-whole : goal.returns-in-Ok-clause-whole
returns-in-Ok-clause-whole g c t intent hs may under k =
    let draw = c.args.draw in
    let plan = c.args.plan.now in
    let own = c.in_ok-own.own in
    handed_after (λ me. KnewMade me draw plan intent) (begins_hand_none draw) (c.begin_pod.ensures.went.extends t) c.begin_pod.ensures.went.same (c.finish_pod.ensures.worked.extends t)
    (c.finish_pod.ensures.whole t intent (own_held draw own (Some Exclusive) ∷ hs) may (owns_images own under) (c.in_ok-own.ensures.held t intent hs (is_maker_of may) under k))

pub returns-in-Err-clause-whole : goal.returns-in-Err-clause-whole
returns-in-Err-clause-whole g c t intent hs may under k =
    let draw = c.args.draw in
    let plan = c.args.plan.now in
    let own = c.in_ok-own.own in
    handed_close (follow_on (c.begin_pod.ensures.went.extends t) c.begin_pod.ensures.went.same (c.finish_pod.ensures.worked.extends t))
    (c.finish_pod.ensures.worked.same ∙ c.begin_pod.ensures.went.same)
    (handed_after (λ me. KnewMade me draw plan intent) (begins_hand_none draw) (c.begin_pod.ensures.went.extends t) c.begin_pod.ensures.went.same (c.finish_pod.ensures.worked.extends t)
    (c.finish_pod.ensures.whole t intent (own_held draw own (Some Exclusive) ∷ hs) may (owns_images own under) (c.in_ok-own.ensures.held t intent hs (is_maker_of may) under k)))
    (c.close.ensures.called.step t)

pub returns-in_err-own-clause-lawful : goal.returns-in_err-own-clause-lawful
returns-in_err-own-clause-lawful g c is t conforming =
    let D = g.D.Dir in
    refused_stray c.args.draw c.args.plan.now (D.shown c.args.dir.now) (D.shown c.begin_pod.new.dir) c.from_residual.result (returns-in_err-own-clause-cause g c) is t conforming

pub returns-in-Err-clause-lawful : goal.returns-in-Err-clause-lawful
returns-in-Err-clause-lawful g c is t conforming =
    let same : c.in-Err.error ≡ Stray = cc in
    never_stray (returns-in-Err-clause-cause g c) same t conforming

pub returns-in-Ok-clause-begins : goal.returns-in-Ok-clause-begins
returns-in-Ok-clause-begins g c t =
    let D = g.D.Dir in
    folder_before (D.shown c.args.dir.now) (D.shown c.begin_pod.new.dir) (D.shown c.finish_pod.new.dir) (c.in_ok-own.ensures.begins t) c.begin_pod.ensures.went.same (c.finish_pod.ensures.worked.extends t)

pub returns-in-Ok-clause-had : goal.returns-in-Ok-clause-had
returns-in-Ok-clause-had g c t =
    let D = g.D.Dir in
    all_had_after (D.shown c.args.dir.now) (D.shown c.begin_pod.new.dir) (c.begin_pod.ensures.went.extends t) c.begin_pod.ensures.went.same in_images c.args.plan.now (D.shown c.finish_pod.new.dir) (c.in-Ok.ensures.had t)

pub returns-in_err-own-clause-trees : goal.returns-in_err-own-clause-trees
returns-in_err-own-clause-trees g c free = begun_unread c.args.draw c.begin_pod.ensures.went

pub returns-in-Ok-clause-trees : goal.returns-in-Ok-clause-trees
returns-in-Ok-clause-trees g c free = trees_more (begun_unread c.args.draw c.begin_pod.ensures.went) (c.finish_pod.ensures.trees free)

pub returns-in-Err-clause-trees : goal.returns-in-Err-clause-trees
returns-in-Err-clause-trees g c free = trees_more (trees_more (begun_unread c.args.draw c.begin_pod.ensures.went) (c.finish_pod.ensures.trees free)) (closed_unread c.close.ensures.called)
