use Rattle.pod_build.specs.declared.make_error.MakeError.TheVariants.{Stray}
use Rattle.pod_build.specs.MakingRequests.{is_move_to_prepare}
use Rattle.std.proofs.Common.{◌≡◌, IsErrOf, rules, Some, Err, ap, Ok, refl, ◌∷◌, ◌∙◌}
use Rattle.dir_model.specs.declared.spot.Mode.TheVariants.{Exclusive}
use Rattle.dir_files.proofs.Locking.{number_is_new}
use Rattle.pod_build.specs.Progress.{own_held}
use Rattle.pod_build.proofs.Knowing.{has_embryo, own_back, owns_both}
use Rattle.pod_build.proofs.Outcomes.{held_is, follows_close, went_worked, went_closed, went_as}
use Rattle.pod_build.proofs.Times.{follows_went, cause_after, cause_before, answered_after, taken_after, taken_before}
use Rattle.pod_build.proofs.embryo.take_out.Goals as goal

pub returns-in-Ok-clause-went : goal.returns-in-Ok-clause-went
returns-in-Ok-clause-went g c =
    let ok : c.lock_own.result ≡ Ok c.in_ok-own.own = search (rules, c.branch-own.ensures, c.in_ok-own.is) in
    went_as (g.D.Dir.shown c.args.dir.now).local c.args.draw c.lock_own.result (Ok c.in_ok-own.own) ok (went_worked c.lock_own.ensures.went c.leave_embryo.ensures.worked)

pub returns-in-Err-clause-went : goal.returns-in-Err-clause-went
returns-in-Err-clause-went g c =
    let ok : c.lock_own.result ≡ Ok c.in_ok-own.own = search (rules, c.branch-own.ensures, c.in_ok-own.is) in
    let before = (g.D.Dir.shown c.args.dir.now).local in
    went_closed c.args.draw refl c.in_ok-own.ensures.unopened (went_worked c.lock_own.ensures.went c.leave_embryo.ensures.worked)
    (held_is before c.args.draw c.lock_own.result c.in_ok-own.own ok (c.leave_embryo.ensures.worked.local ∙ c.lock_own.ensures.went.local_is)) c.close.ensures.called

pub returns-in-Err-clause-cause : goal.returns-in-Err-clause-cause
returns-in-Err-clause-cause g c =
    cause_before (c.leave_embryo.ensures.worked.same ∙ c.lock_own.ensures.went.same) (cause_after (follows_went c.lock_own.ensures.went) c.in-Err.ensures.cause) (follows_close c.close.ensures.faultless c.close.ensures.called)

pub returns-in-Err-clause-left : goal.returns-in-Err-clause-left
returns-in-Err-clause-left g c t intent hs maker under k =
    let own = c.in_ok-own.own in
    own_back t (number_is_new own k c.in_ok-own.ensures.unopened) c.close.ensures.called
    (has_embryo (c.in-Err.ensures.left t intent (own_held c.args.draw own (Some Exclusive) ∷ hs) maker (owns_both own under) (c.in_ok-own.ensures.held t intent hs maker under k)))

pub returns-in_err-own-clause-stray : goal.returns-in_err-own-clause-stray
returns-in_err-own-clause-stray g c h t =
    let k : IsErrOf c.lock_own.result Stray = search (rules, h, c.from_residual.ensures, c.in_err-own.is) in
    c.lock_own.ensures.stray k t

pub returns-in-Ok-clause-brings : goal.returns-in-Ok-clause-brings
returns-in-Ok-clause-brings g c t = answered_after (is_move_to_prepare c.args.draw) (c.lock_own.ensures.went.extends t) c.lock_own.ensures.went.same (c.in-Ok.ensures.brings t)

pub returns-in-Err-clause-stray : goal.returns-in-Err-clause-stray
returns-in-Err-clause-stray g c h t =
    let is : c.in-Err.error ≡ Stray = cc in
    taken_before (taken_after (c.in_ok-own.ensures.locks t) c.lock_own.ensures.went.same (c.in-Err.ensures.stray (ap Err is) t)) ((follows_close c.close.ensures.faultless c.close.ensures.called).extends t)
