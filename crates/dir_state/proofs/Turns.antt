-- A process takes its next step once it has ended its last call.
use Rattle.std.proofs.Common.{◌≡◌, ℕ, Bool, true, false, not, ◌&&◌, ◌||◌, Option, Some, None, refl}
use Rattle.dir_model.specs.declared.tree.OpenListing.{OpenListing}
use Rattle.dir_model.specs.declared.request.Request.{Request}
use Rattle.dir_model.specs.declared.request.Request.TheVariants.{ListArea, ListIn}
use Rattle.dir_model.specs.declared.request.Reply.{Reply}
use Rattle.dir_model.specs.State.{DirState}
use Rattle.dir_model.specs.Listings.{is_listing_request, is_listing, is_open_listing}
use Rattle.dir_model.specs.Replies.{is_reply}
use Rattle.dir_model.specs.Calls.{is_kill, may_step, lists_on, is_allowed, event}
use Rattle.dir_model.proofs.Lists.{and_both, and_left, or_last}
use Rattle.dir_state.specs.Answers.{is_met, finds_handle}

-- only a request for a listing is about one
pub open_asks : (request : Request) (o : Option OpenListing) → is_open_listing request o ≡ true → is_listing_request request ≡ true
open_asks (ListArea area) o about = refl
open_asks (ListIn inner) o about = refl
open_asks request None about = cc
open_asks _ (Some l) about = cc

turn_by : (lists kills free : Bool) → (kills || free) ≡ true → ((lists || kills) || free) ≡ true
turn_by true kills free h = refl
turn_by false kills free h = h

module _ (s : DirState) (p : ℕ) (request : Request) where
  -- an event that is allowed
  pub allowed_by : (reply : Reply) → may_step s p request ≡ true → lists_on s p request ≡ true → is_reply s p request reply ≡ true → is_allowed s (event p request reply) ≡ true
  allowed_by reply may turn replied =
      and_both (may_step s p request) (lists_on s p request && is_reply s p request reply) may
      (and_both (lists_on s p request) (is_reply s p request reply) turn replied)

  -- what is met is in turn
  pub met_turn : is_met s p request ≡ true → lists_on s p request ≡ true
  met_turn met =
      turn_by (is_listing_request request) (is_kill request) (not (is_listing s p))
      (and_left (is_kill request || not (is_listing s p)) (finds_handle s p request) met)

  -- and so is all where no listing is open
  pub free_turn : is_listing s p ≡ false → lists_on s p request ≡ true
  free_turn none = or_last (is_listing_request request || is_kill request) (not (is_listing s p)) (rw none refl)

  -- and the end of the open one
  pub end_turn : (o : Option OpenListing) → is_open_listing request o ≡ true → lists_on s p request ≡ true
  end_turn o about = rw (open_asks request o about) refl
