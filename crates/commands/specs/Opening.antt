-- How a process opens that works on a pod: it begins, and may have to look for the pod that its word means.
use Rattle.std.specs.Prelude.{◌≡◌, ◌||◌, ◌==◌, ℕ, Bool, false, cond, List, length}
use Rattle.dir_model.specs.declared.event.Event.{Event}
use Rattle.dir_model.specs.declared.intent.Intent.{Intent}
use Rattle.dir_model.specs.declared.request.Request.{Request}
use Rattle.dir_model.specs.declared.request.Request.TheVariants.{Begin}
use Rattle.dir_model.specs.declared.request.Reply.TheVariants.{Done}
use Rattle.dir_model.specs.Calls.{CallStep, Extends, is_begin, is_finish}
use Rattle.pod_lookup.specs.Looks.{lists_stages}

-- whether a command comes to its pod directly, or by looking for it
pub data Approach : Type 0 where
  directly : Approach
  looking : Approach

-- a whole uuid needs no look
abbrev pub approach_of : List ℕ → Approach
approach_of word = cond (length word == 36) directly looking

-- a look lists the areas of pods
abbrev pub looks_by : Approach → Request → Bool
looks_by directly request = false
looks_by looking request = lists_stages request

abbrev pub Looks : Approach → ℕ → List Event → List Event → Type 0
Looks directly me old new = new ≡ old
Looks looking me old new = Extends lists_stages me old new

-- it began so, and looked for its pod
pub record Opens (approach : Approach) (intent : Intent) (me : ℕ) (old new : List Event) : Type 0 where
  pub first : List Event
  pub begins : CallStep me old (Begin intent) Done first
  pub looks : Looks approach me first new

-- a begin, or a look for a pod
abbrev pub opens : Request → Bool
opens request = lists_stages request || is_begin request

-- it began and may have looked for its pod, then this was so, and it finished
pub record OnceFound (P : ℕ → List Event → List Event → Type 0) (me : ℕ) (old new : List Event) : Type 0 where
  pub begun : List Event
  pub ended : List Event
  pub begins : Extends opens me old begun
  pub so : P me begun ended
  pub finishes : Extends is_finish me ended new
