-- What others did meanwhile, and what it leaves to this process.
use Rattle.std.specs.Prelude.{◌≡◌, ℕ, Bool, find, List, ◌∷◌, ◌++◌}
use Rattle.dir_model.specs.declared.event.Event.{Event}
use Rattle.dir_model.specs.declared.request.Request.{Request}
use Rattle.dir_model.specs.State.{DirState, has_begun, has_ended}
use Rattle.dir_model.specs.Trace.{state_after}
use Rattle.dir_model.specs.Listings.{is_listing_of, is_listing, is_open_listing}
use Rattle.dir_model.specs.Calls.{Interference, IsRun}
use Rattle.dir_model.specs.Local.{holdings_in}
use Rattle.dir_memory.specs.declared.planned.Planned.{Planned}
use Rattle.dir_memory.specs.Schedules.{step_events, due, not_due}

-- the listing that the process has open is about what is asked for
abbrev pub is_about_open : DirState → ℕ → Request → Bool
is_about_open s p request = is_open_listing request (find (is_listing_of p) s.listings)

-- only others took steps, and this process wasn't killed. A run stays one
pub record Interlude (me : ℕ) (old new : List Event) : Type 0 where
  pub meanwhile : Interference me old new
  pub begun : has_begun (state_after new).namespace me ≡ has_begun (state_after old).namespace me
  pub ended : has_ended (state_after new).namespace me ≡ has_ended (state_after old).namespace me
  pub holds : holdings_in (state_after new).namespace me ≡ holdings_in (state_after old).namespace me
  pub listing : is_listing (state_after new) me ≡ is_listing (state_after old) me
  pub about : (request : Request) → is_about_open (state_after new) me request ≡ is_about_open (state_after old) me request
  pub run : IsRun old → IsRun new

-- the first step that is due came, where it was possible, and the rest of the schedule is still to come
pub record TakesFirst (me number : ℕ) (listing : Bool) (old : List Event) (steps : List Planned) (new : List Event) (rest : List Planned) : Type 0 where
  pub first : Planned
  pub parted : due number listing steps ≡ first ∷ due number listing rest
  pub later : not_due number listing rest ≡ not_due number listing steps
  pub came : new ≡ old ++ step_events me (state_after old) first
