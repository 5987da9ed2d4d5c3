-- A stretch in which a process has the gate of images, which is the lock of that area, shared all along.
use Rattle.std.specs.Prelude.{◌≡◌, ℕ, Bool, true, not, ◌&&◌, ◌||◌, List}
use Rattle.std.specs.List.{AllByRecursion}
use Rattle.dir_model.specs.declared.event.Event.{Event}
use Rattle.dir_model.specs.declared.request.Request.{Request}
use Rattle.dir_model.specs.Calls.{is_begin, is_foreign}
use Rattle.dir_rules.specs.declared.seen.Seen.{Seen}
use Rattle.dir_rules.specs.Conforms.{seen_of, IsTied}
use Rattle.dir_trait.specs.DirCalls.{DirAt, ExtendsBy}
use Rattle.lifecycle.specs.Executions.{IsConforming}
use Rattle.folder_contents.specs.UnderGate.{keeps_handles, shares_images}

-- at the beginning the process has the gate, by its own events, and in the stretch it gives up no handle
pub record HasGate (p : ℕ) (before more : List Event) : Type 0 where
  pub shares : shares_images (seen_of p before) ≡ true
  pub keeps : AllByRecursion (λ e. (is_foreign p e || keeps_handles e.request) ≡ true) more

-- the request neither begins the process nor gives up a handle
abbrev pub goes_on : Request → Bool
goes_on request = not (is_begin request) && keeps_handles request

-- between these two moments of a conforming execution a process makes only such requests, and at the first it knows that it has
-- the gate
pub record GoesOnUnderLock (asks : Request → Bool) (s : Seen) (old new : DirAt) : Type 0 where
  pub conforms : IsConforming new.trace
  pub tied : IsTied old.process old.trace s
  pub shares : shares_images s ≡ true
  pub each : (request : Request) → asks request ≡ true → goes_on request ≡ true
  pub extends : ExtendsBy asks old new
