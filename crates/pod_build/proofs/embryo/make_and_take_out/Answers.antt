use Rattle.std.proofs.Common.{◌≡◌, true, [], IsErrOf, rules}
use Rattle.plain_laws.proofs.Results.{if_ok, if_err}
use Rattle.dir_model.specs.declared.spot.Handle.{Handle}
use Rattle.folder_building.proofs.Copying.{ok_any}
use Rattle.folder_building.proofs.Following.{follows_work}
use Rattle.pod_build.specs.declared.make_error.MakeError.TheVariants.{Stray}
use Rattle.pod_build.specs.MakingRequests.{is_move_to_prepare}
use Rattle.pod_build.specs.MakingCauses.{MakingWorkCause, EmbryoCause, BringsToPrepare}
use Rattle.dir_model.specs.Local.{Local}
use Rattle.pod_build.specs.Progress.{with_own}
use Rattle.pod_build.proofs.Times.{went_after, made_taken, answered_after, embryo_cause}
use Rattle.pod_build.proofs.embryo.make_and_take_out.Goals as goal

pub returns-clause-went : goal.returns-clause-went
returns-clause-went g c = went_after (λ (m : Local). with_own m c.args.draw c.take_out.result) c.make_embryo.ensures.worked c.take_out.ensures.went

pub returns-in_err-make_embryo-clause-stray : goal.returns-in_err-make_embryo-clause-stray
returns-in_err-make_embryo-clause-stray g c h t =
    let k : IsErrOf c.make_embryo.result Stray = search (rules, h, c.from_residual.ensures, c.in_err-make_embryo.is) in
    absurd (c.make_embryo.ensures.plain k)

pub returns-clause-stray : goal.returns-clause-stray
returns-clause-stray g c h t = made_taken (g.D.Dir.shown c.args.dir.now) (g.D.Dir.shown c.make_embryo.new.dir) (g.D.Dir.shown c.take_out.new.dir) (c.in_ok-make_embryo.ensures.makes t) c.make_embryo.ensures.worked.same (c.take_out.ensures.stray h t)

pub returns-clause-brings : goal.returns-clause-brings
returns-clause-brings g c =
    let D = g.D.Dir in
    if_ok (λ (own : Handle). D.observed ≡ true → BringsToPrepare c.args.draw (D.shown c.make_embryo.new.dir) (D.shown c.take_out.new.dir)) (λ (own : Handle). D.observed ≡ true → BringsToPrepare c.args.draw (D.shown c.args.dir.now) (D.shown c.take_out.new.dir)) c.take_out.result
    (λ own f t. answered_after (is_move_to_prepare c.args.draw) (c.make_embryo.ensures.worked.extends t) c.make_embryo.ensures.worked.same (f t)) c.take_out.ensures.brings

pub returns-clause-cause : goal.returns-clause-cause
returns-clause-cause g c =
    let D = g.D.Dir in
    let new = D.shown c.take_out.new.dir in
    if_err (λ e. MakingWorkCause D.observed [] e (D.shown c.make_embryo.new.dir) new) (λ e. EmbryoCause D.observed c.args.draw e (D.shown c.args.dir.now) new) c.take_out.result (λ e x. embryo_cause (follows_work c.make_embryo.ensures.worked) x) c.take_out.ensures.cause

pub returns-clause-first : goal.returns-clause-first
returns-clause-first g c =
    ok_any c.take_out.result (λ t. let x = c.take_out.ensures.went.extends t in record { after = (g.D.Dir.shown c.make_embryo.new.dir).trace; later = x.more; asks = c.in_ok-make_embryo.ensures.makes t; ends = x.grown })
