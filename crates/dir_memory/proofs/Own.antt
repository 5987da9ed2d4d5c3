-- An own event is one that the state allows, and what others' steps and it leave.
use Rattle.std.proofs.Common.{◌≡◌, ℕ, Bool, true, false, not, ◌&&◌, ◌==◌, cond, Option, Some, None, Result, OnOk, OnErr, List, [], ◌∷◌, ◌++◌, refl, sym, ap, subst, ◌∙◌}
use Rattle.dir_model.specs.declared.event.Event.{Event}
use Rattle.dir_model.specs.declared.memory.NoMemory.{NoMemory}
use Rattle.dir_model.specs.declared.request.DirError.TheVariants.{Failed, NoMemory as RunsOut}
use Rattle.dir_model.specs.declared.request.Request.{Request}
use Rattle.dir_model.specs.declared.request.Reply.{Reply}
use Rattle.dir_model.specs.declared.request.Reply.TheVariants.{Begun, Refused}
use Rattle.dir_model.specs.State.{DirState}
use Rattle.dir_model.specs.Trace.{state_next, state_after}
use Rattle.dir_model.specs.Listings.{is_listing, is_listing_request, listing_of, is_about, is_open_listing}
use Rattle.dir_model.specs.declared.tree.Listed.{Listed}
use Rattle.dir_model.specs.declared.tree.Listed.TheVariants as listed
use Rattle.dir_model.specs.declared.tree.OpenListing.{OpenListing}
use Rattle.dir_model.specs.declared.request.Request.TheVariants.{ListArea, ListIn}
use Rattle.dir_model.specs.Replies.{is_fallible}
use Rattle.dir_model.specs.Calls.{may_step, is_allowed, event}
use Rattle.dir_model.proofs.Chains.{state_after-push}
use Rattle.dir_state.specs.Parts.{brings_nothing}
use Rattle.dir_state.specs.Answers.{is_possible, step_of, shown, shown_or_refused, listing_answer}
use Rattle.dir_state.proofs.Orders.{in_order_ascends}
use Rattle.dir_state.proofs.Ending.{end_allowed, end_fails, items_ascend}
use Rattle.dir_state.proofs.Answering.{plain_allowed, fault_allowed}
use Rattle.dir_state.proofs.Whole.{begun_open}
use Rattle.dir_memory.specs.declared.planned.Planned.{Planned}
use Rattle.dir_memory.specs.Interludes.{Interlude, is_about_open}
use Rattle.dir_memory.specs.Memories.{answer_or_failure, is_end_of}
use Rattle.dir_memory.proofs.Meanwhile.{step_came}
use Rattle.dir_memory.proofs.OpenListings.{listing_about}

-- the own answer to what isn't a listing is one that the state allows
pub own_allowed : (fails : Bool) (s : DirState) (p : ℕ) (request : Request) (reply : Reply) → may_step s p request ≡ true → is_listing s p ≡ false → is_listing_request request ≡ false → (fails ≡ true → is_fallible request ≡ true) → reply ≡ answer_or_failure fails s p request → is_allowed s (event p request reply) ≡ true
own_allowed true s p request reply may none plain fallible is = rw is (fault_allowed s p request Failed may none plain (fallible refl) refl)
own_allowed false s p request reply may none plain fallible is = rw is (plain_allowed s p request may none plain)

-- a step of another process came, where it was possible
pub taken : (r : Result (Unit {0}) NoMemory) (me : ℕ) (old new : List Event) (step : Planned) → (step.process == me) ≡ false → OnOk r (new ≡ old ++ cond (is_possible (state_after old) step.process step.request) (step_of (state_after old) step.process step.request) []) → OnErr r (new ≡ old) → Interlude me old new
taken r me old new step apart ok err =
    step_came r me old new step
    (subst (λ (b : Bool). OnOk r (new ≡ old ++ cond (not b && is_possible (state_after old) step.process step.request) (step_of (state_after old) step.process step.request) [])) (sym apart) ok) err

-- a listing that has begun is open
pub open_after : (h mid : List Event) (me : ℕ) (request copy : Request) → copy ≡ request → mid ≡ h ++ event me copy Begun ∷ [] → is_listing_request request ≡ true → is_listing (state_after h) me ≡ false → is_about_open (state_after mid) me request ≡ true
open_after h mid me request copy same grown asks none =
    let next : state_after mid ≡ state_next (state_after h) (event me request Begun) = ap state_after grown ∙ (state_after-push h (event me copy Begun) ∙ ap (λ (r : Request). state_next (state_after h) (event me r Begun)) same) in
    ap (λ (s : DirState). is_about_open s me request) next
    ∙ (sym (listing_about (state_next (state_after h) (event me request Begun)) me request) ∙ begun_open (state_after h) me none request asks)

-- the end of the listing that is open
module _ (h : List Event) (me : ℕ) (request : Request) (may : may_step (state_after h) me request ≡ true) (about : is_about_open (state_after h) me request ≡ true) where
  is_open : is_open_listing request (listing_of (state_after h) me) ≡ true
  is_open = listing_about (state_after h) me request ∙ about

  pub cut_allowed : (reply : Reply) → reply ≡ Refused RunsOut 0 → is_allowed (state_after h) (event me request reply) ≡ true
  cut_allowed reply is = rw is (end_fails (state_after h) me request RunsOut may refl is_open)

  pub whole_allowed : (fails : Bool) (reply : Reply) → reply ≡ cond fails (Refused Failed 0) (listing_answer (state_after h) me) → is_allowed (state_after h) (event me request reply) ≡ true
  whole_allowed true reply is = rw is (end_fails (state_after h) me request Failed may refl is_open)
  whole_allowed false reply is = rw is (end_allowed (state_after h) me request may is_open)

  cut_by : (r : Request) → is_listing_request r ≡ true → brings_nothing r (Refused RunsOut 0) ≡ true
  cut_by (ListArea area) asks = refl
  cut_by (ListIn inner) asks = refl
  cut_by _ asks = cc

  fail_by : (r : Request) → is_listing_request r ≡ true → brings_nothing r (Refused Failed 0) ≡ true
  fail_by (ListArea area) asks = refl
  fail_by (ListIn inner) asks = refl
  fail_by _ asks = cc

  shown_by : (r : Request) (x : Listed) → is_about r x ≡ true → brings_nothing r (shown x) ≡ true
  shown_by (ListArea area) (listed.Area here through ever) is = refl
  shown_by (ListIn inner) (listed.Missing here) is = refl
  shown_by (ListIn inner) (listed.Inside here folder through ever) is = refl
  shown_by r x is = cc

  open_by : (o : Option OpenListing) → is_open_listing request o ≡ true → brings_nothing request (shown_or_refused o) ≡ true
  open_by None is = cc
  open_by (Some l) is = shown_by request l.listed is

  pub cut_plain : (reply : Reply) → is_listing_request request ≡ true → reply ≡ Refused RunsOut 0 → brings_nothing request reply ≡ true
  cut_plain reply asks is = rw is (cut_by request asks)

  pub whole_plain : (fails : Bool) (reply : Reply) → is_listing_request request ≡ true → reply ≡ cond fails (Refused Failed 0) (listing_answer (state_after h) me) → brings_nothing request reply ≡ true
  whole_plain true reply asks is = rw is (fail_by request asks)
  whole_plain false reply asks is = rw is (open_by (listing_of (state_after h) me) is_open)

  end_by : (r : Request) (x : Listed) → is_about r x ≡ true → is_end_of r (shown x) ≡ true
  end_by (ListArea area) (listed.Area here through ever) is = in_order_ascends [] through refl
  end_by (ListIn inner) (listed.Missing here) is = refl
  end_by (ListIn inner) (listed.Inside here folder through ever) is = items_ascend through
  end_by r x is = cc

  ends_by : (o : Option OpenListing) → is_open_listing request o ≡ true → is_end_of request (shown_or_refused o) ≡ true
  ends_by None is = cc
  ends_by (Some l) is = end_by request l.listed is

  fail_ends : (r : Request) → is_listing_request r ≡ true → is_end_of r (Refused Failed 0) ≡ true
  fail_ends (ListArea area) asks = refl
  fail_ends (ListIn inner) asks = refl
  fail_ends _ asks = cc

  cut_ends_by : (r : Request) → is_listing_request r ≡ true → is_end_of r (Refused RunsOut 0) ≡ true
  cut_ends_by (ListArea area) asks = refl
  cut_ends_by (ListIn inner) asks = refl
  cut_ends_by _ asks = cc

  pub whole_ends : (fails : Bool) (reply : Reply) → is_listing_request request ≡ true → reply ≡ cond fails (Refused Failed 0) (listing_answer (state_after h) me) → is_end_of request reply ≡ true
  whole_ends true reply asks is = rw is (fail_ends request asks)
  whole_ends false reply asks is = rw is (ends_by (listing_of (state_after h) me) is_open)

  pub cut_ends : (reply : Reply) → is_listing_request request ≡ true → reply ≡ Refused RunsOut 0 → is_end_of request reply ≡ true
  cut_ends reply asks is = rw is (cut_ends_by request asks)

  shown_fine : (x : Listed) (left : ℕ) → shown x ≡ Refused Failed left → false ≡ true
  shown_fine (listed.Area here through ever) left is = cc
  shown_fine (listed.Missing here) left is = cc
  shown_fine (listed.Inside here folder through ever) left is = cc

  fine : (o : Option OpenListing) (left : ℕ) → shown_or_refused o ≡ Refused Failed left → false ≡ true
  fine None left is = cc
  fine (Some l) left is = shown_fine l.listed left is

  -- only a failure is one
  pub whole_fails : (fails : Bool) (reply : Reply) → reply ≡ cond fails (Refused Failed 0) (listing_answer (state_after h) me) → (left : ℕ) → reply ≡ Refused Failed left → fails ≡ true
  whole_fails true reply is left failed = refl
  whole_fails false reply is left failed = fine (listing_of (state_after h) me) left (sym is ∙ failed)
