-- How often a process asks for something, and so how often it reads a phase.
use Rattle.std.specs.Prelude.{◌≡◌, ◌≤◌, ◌+◌, ◌&&◌, ℕ, Bool, true, false, not, List, [], ◌∷◌, ◌++◌}
use Rattle.dir_model.specs.declared.area.Area.TheVariants.{Embryo}
use Rattle.dir_model.specs.declared.event.Event.{Event}
use Rattle.dir_model.specs.declared.pod.PodId.{PodId}
use Rattle.dir_model.specs.declared.request.Request.{Request}
use Rattle.dir_model.specs.declared.request.Request.TheVariants.{Open}
use Rattle.dir_model.specs.declared.spot.Spot.{Spot}
use Rattle.dir_model.specs.declared.spot.Which.TheVariants.{Own}
use Rattle.dir_trait.specs.Calls.{is_foreign}
use Rattle.dir_trait.specs.DirCalls.{DirAt}
use Rattle.dir_trait.specs.State.{spot_eq}
use Rattle.dir_model.specs.Spots.{pod_spot}

abbrev pub one_if : Bool → ℕ
one_if true = 1
one_if false = 0

-- how many of these events are requests of this kind by this process
abbrev pub asked_times : (Request → Bool) → ℕ → List Event → ℕ
asked_times asks me [] = 0
asked_times asks me (e ∷ es) = one_if (not (is_foreign me e) && asks e.request) + asked_times asks me es

-- between these two moments at most so many were
pub record AsksAtMost (n : ℕ) (asks : Request → Bool) (me : ℕ) (old new : List Event) : Type 0 where
  pub more : List Event
  pub grown : new ≡ old ++ more
  pub counted : asked_times asks me more ≤ n

-- the own lock of what stands there is opened
abbrev pub opens_own : Spot → Request → Bool
opens_own spot (Open here Own) = spot_eq spot here
opens_own spot request = false

-- each read of the pod's phase begins so: its own lock is opened in embryo
abbrev pub begins_read : PodId → Request → Bool
begins_read pod request = opens_own (pod_spot pod Embryo) request

-- the pod's phase was read at most so often, where the trace is observed
pub record ReadsAtMost (n : ℕ) (observed : Bool) (pod : PodId) (old new : DirAt) : Type 0 where
  pub reads : observed ≡ true → AsksAtMost n (begins_read pod) old.process old.trace new.trace

-- and the own lock there opened at most once
abbrev pub OpensOnce : Bool → Spot → DirAt → DirAt → Type 0
OpensOnce observed spot old new = observed ≡ true → AsksAtMost 1 (opens_own spot) old.process old.trace new.trace
