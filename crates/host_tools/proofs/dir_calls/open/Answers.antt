use Rattle.std.proofs.Common.{refl}
use Rattle.dir_model.specs.declared.spot.Which.TheVariants as which
use Rattle.dir_model.specs.declared.opening.Target.TheVariants.{Own, Claim, Gate}
use Rattle.dir_model.specs.declared.request.Request.TheVariants.{Open, OpenArea}
use Rattle.host_tools.proofs.Handles.{unlocked_opened}
use Rattle.host_tools.proofs.dir_calls.open.Goals as goal

pub returns-in-Own-clause-unlocked : goal.returns-in-Own-clause-unlocked
returns-in-Own-clause-unlocked g c = unlocked_opened (g.D.Dir.shown c.args.dir.now).local _ (Open c.in-Own.spot which.Own) (Own c.in-Own.spot) c.open.result (λ h. refl) c.open.ensures.unopened c.open.ensures.called.local

pub returns-in-Claim-clause-unlocked : goal.returns-in-Claim-clause-unlocked
returns-in-Claim-clause-unlocked g c = unlocked_opened (g.D.Dir.shown c.args.dir.now).local _ (Open c.in-Claim.spot which.Claim) (Claim c.in-Claim.spot) c.open-in-Claim.result (λ h. refl) c.open-in-Claim.ensures.unopened c.open-in-Claim.ensures.called.local

pub returns-in-Gate-clause-unlocked : goal.returns-in-Gate-clause-unlocked
returns-in-Gate-clause-unlocked g c = unlocked_opened (g.D.Dir.shown c.args.dir.now).local _ (OpenArea c.in-Gate.area) (Gate c.in-Gate.area) c.open_area.result (λ h. refl) c.open_area.ensures.unopened c.open_area.ensures.called.local
