-- A process that lists takes no other step until its listing ends, but it may be killed.
use Rattle.std.proofs.Common.{◌≡◌, Bool, true, false, not, ◌||◌, List, [], ◌∷◌, ◌++◌, refl}
use Rattle.dir_model.specs.declared.event.Event.{Event}
use Rattle.dir_model.specs.State.{empty_state}
use Rattle.dir_model.specs.Trace.{state_next, state_after}
use Rattle.dir_model.specs.Calls.{is_kill, is_allowed, is_run_from}
use Rattle.dir_model.specs.Listings.{is_listing, is_listing_request}
use Rattle.dir_model.proofs.Allowed.{allowed_turn}
use Rattle.dir_model.proofs.Chains.{run_from-right}
use Rattle.dir_model.proofs.Lists.{and_left}
use Rattle.lifecycle.specs.Executions.{IsConforming}

pub lists_at_once : (h : List Event) (e : Event) → IsConforming (h ++ e ∷ []) → is_listing (state_after h) e.process ≡ true → is_kill e.request ≡ false →
    is_listing_request e.request ≡ true
lists_at_once h e c lists alive =
    by (is_listing_request e.request) (is_kill e.request) (is_listing (state_after h) e.process) alive lists
    (allowed_turn (state_after h) e.process e.request e.reply
    (and_left (is_allowed (state_after h) e) (is_run_from (state_next (state_after h) e) []) (run_from-right empty_state h (e ∷ []) c.run)))
  where
    by : (a k l : Bool) → k ≡ false → l ≡ true → ((a || k) || not l) ≡ true → a ≡ true
    by true k l f g h = refl
    by false false true f g h = cc
    by false true l f g h = cc
    by false k false f g h = cc
