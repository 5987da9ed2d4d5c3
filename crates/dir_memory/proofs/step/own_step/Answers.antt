use Rattle.std.proofs.Common.{◌≡◌, true, false, List, sym, subst}
use Rattle.dir_model.specs.declared.event.Event.{Event}
use Rattle.dir_model.specs.Trace.{state_after}
use Rattle.dir_model.specs.Listings.{is_listing}
use Rattle.dir_model.specs.Calls.{may_step}
use Rattle.dir_memory.proofs.Own.{own_allowed}
use Rattle.dir_memory.proofs.step.own_step.Goals as goal

pub add-requires-clause-allowed : goal.add-requires-clause-allowed
add-requires-clause-allowed c =
    own_allowed c.args.fails (state_after c.reserve-2.new.self.items) c.args.me c.args.request c.in_ok-reply.reply
    (subst (λ (h : List Event). may_step (state_after h) c.args.me c.args.request ≡ true) (sym c.in_ok-reserve-2.ensures.same) c.requires.may)
    (subst (λ (h : List Event). is_listing (state_after h) c.args.me ≡ false) (sym c.in_ok-reserve-2.ensures.same) c.requires.none)
    c.requires.plain c.requires.fallible c.in_ok-reply.ensures
