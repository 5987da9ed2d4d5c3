use Rattle.std.proofs.Common.{inr}
use Rattle.dir_model.specs.Replies.{is_look_at}
use Rattle.dir_model.specs.State.{spot_eq}
use Rattle.dir_model.proofs.Chains.{and_more}
use Rattle.dir_model.proofs.Moments.{at_after, at_weaker, settle, told_before}
use Rattle.phase_read.specs.Read.{HasPhase}
use Rattle.phase_read.proofs.Stages.{has_phase}
use Rattle.dir_trait.proofs.Looking.{looks_more}
use Rattle.phase_read.proofs.read.read_at.Goals as goal

pub returns-in_err-there-in-Some-clause-extends : goal.returns-in_err-there-in-Some-clause-extends
returns-in_err-there-in-Some-clause-extends g c t = and_more (c.ask.ensures.extends t) c.ask.ensures.same (c.look-in-Some.ensures.extends t)

pub returns-then-there-2-clause-extends : goal.returns-then-there-2-clause-extends
returns-then-there-2-clause-extends g c t = and_more (c.ask.ensures.extends t) c.ask.ensures.same (c.look-in-Some.ensures.extends t)

pub returns-else-there-2-clause-extends : goal.returns-else-there-2-clause-extends
returns-else-there-2-clause-extends g c t = and_more (c.ask.ensures.extends t) c.ask.ensures.same (c.look-in-Some.ensures.extends t)

pub returns-then-there-2-clause-there : goal.returns-then-there-2-clause-there
returns-then-there-2-clause-there g c t = at_after (c.ask.ensures.extends t) c.ask.ensures.same (rw c.if-there-2.true at (c.in_ok-there-in-Some.ensures.there t))

pub returns-else-there-2-clause-there : goal.returns-else-there-2-clause-there
returns-else-there-2-clause-there g c t = at_after (c.ask.ensures.extends t) c.ask.ensures.same (rw c.if-there-2.false at (c.in_ok-there-in-Some.ensures.there t))

pub returns-then-there-clause-phase : goal.returns-then-there-clause-phase
returns-then-there-clause-phase g c t stays =
    at_weaker (HasPhase c.args.spot c.stage_phase.result) (has_phase c.args.spot c.stage_phase.result c.in-Embryo.is c.stage_phase.ensures) (rw c.if-there.true at (c.in_ok-there-in-Embryo.ensures.there t))

pub returns-then-there-2-clause-phase : goal.returns-then-there-2-clause-phase
returns-then-there-2-clause-phase g c t stays =
    let look = rw (c.if-there-2.true, c.ask.ensures.same) at (c.in_ok-there-in-Some.ensures.there t) in
    let told = rw c.in-Some.is at (c.in_ok-ask-in_default.ensures.answer_holds) in
    at_weaker (HasPhase c.args.spot c.stage_phase-then-there-2.result) (λ w here. record { owned = c.in-Some.owned; here = here; is = c.stage_phase-then-there-2.ensures }) (settle c.requires.area (told t) look stays)

pub returns-then-there-2-clause-found : goal.returns-then-there-2-clause-found
returns-then-there-2-clause-found g c t =
    let told = rw c.in-Some.is at (c.in_ok-ask-in_default.ensures.answer_holds) in
    inr (c.in-Some.owned, told_before {asks = is_look_at (spot_eq c.args.spot)} (told t) c.ask.ensures.same (c.look-in-Some.ensures.extends t), c.stage_phase-then-there-2.ensures)

pub returns-in_err-there-in-Some-clause-known : goal.returns-in_err-there-in-Some-clause-known
returns-in_err-there-in-Some-clause-known g c t = looks_more (c.ask.ensures.known t) (c.look-in-Some.ensures.known t)

pub returns-then-there-2-clause-known : goal.returns-then-there-2-clause-known
returns-then-there-2-clause-known g c t = looks_more (c.ask.ensures.known t) (c.look-in-Some.ensures.known t)

pub returns-else-there-2-clause-known : goal.returns-else-there-2-clause-known
returns-else-there-2-clause-known g c t = looks_more (c.ask.ensures.known t) (c.look-in-Some.ensures.known t)
