-- What the making of a pod comes to.
use Rattle.std.specs.Prelude.{◌≡◌, ℕ, Some, List, ◌∷◌, ◌++◌, Result, Ok, Err}
use Rattle.dir_model.specs.declared.area.Area.{Area}
use Rattle.dir_model.specs.declared.area.Area.TheVariants.{Prepare}
use Rattle.dir_model.specs.declared.event.Event.{Event}
use Rattle.dir_model.specs.declared.intent.Intent.{Intent}
use Rattle.dir_model.specs.declared.pod.PodId.{PodId}
use Rattle.dir_model.specs.declared.spot.Spot.{Spot}
use Rattle.dir_model.specs.declared.request.Request.TheVariants.{MoveFolder}
use Rattle.dir_model.specs.declared.request.Reply.TheVariants.{Done}
use Rattle.dir_model.specs.Calls.{event}
use Rattle.dir_model.specs.Local.{Local}
use Rattle.dir_rules.specs.declared.standing.Held.{Held}
use Rattle.dir_rules.specs.declared.seen.Entry.{Entry}
use Rattle.dir_rules.specs.declared.seen.Seen.{Seen}
use Rattle.dir_rules.specs.Conforms.{IsTied}
use Rattle.dir_trait.specs.DirCalls.{DirAt}
use Rattle.dir_trait.specs.Knowledge.{Knows}
use Rattle.folder_building.specs.declared.plan.PlanEntry.{PlanEntry}
use Rattle.folder_building.specs.Plans.{AreMade}
use Rattle.pod_build.specs.declared.make_error.MakeError.{MakeError}
use Rattle.pod_locks.specs.declared.owned.Owned.{Owned}
use Rattle.dir_model.specs.Spots.{pod_spot}
use Rattle.pod_build.specs.Progress.{seen_making, holding, in_prepare, handed, and_own}
use Rattle.pod_build.specs.Work.{Owns, MayMake}

-- it has carried the plan out in the folder in prepare
pub record HasFilledPrepare (plan : List PlanEntry) (draw : PodId) (intent : Intent) (hs : List Held) (new : DirAt) : Type 0 where
  pub entries : List Entry
  pub made : AreMade plan entries
  pub knows : Knows new (seen_making intent hs (in_prepare draw entries))

-- by its own Ok move the folder, which held this by what it knew, came to another location. It had begun so
pub record HasMovedPod (me : ℕ) (from to : Spot) (entries : List Entry) (intent : Intent) (old new : List Event) : Type 0 where
  pub before : List Event
  pub later : List Event
  pub meanwhile : List Event
  pub begins : before ≡ old ++ meanwhile
  pub moved : new ≡ before ++ event me (MoveFolder from to) Done ∷ later
  pub seen : Seen
  pub began : seen.standing.intent ≡ Some intent
  pub making : seen.making ≡ Some (holding from entries)
  pub knew : IsTied me before seen

-- wherever it has carried the plan out
abbrev pub WherePlanFilled : Area → List PlanEntry → PodId → DirAt → (Intent → List Held → List Entry → Type 0) → Type 0
WherePlanFilled to plan draw old After = (intent : Intent) (hs : List Held) (entries : List Entry) → MayMake to plan draw intent → Owns draw hs → AreMade plan entries
    → Knows old (seen_making intent hs (in_prepare draw entries)) → After intent hs entries

-- it moved the folder on
pub record IsHanded (draw : PodId) (to : Area) (intent : Intent) (hs : List Held) (entries : List Entry) (old new : DirAt) : Type 0 where
  pub knows : Knows new (seen_making intent hs (handed draw to entries))
  pub moved : HasMovedPod old.process (pod_spot draw Prepare) (pod_spot draw to) entries intent old.trace new.trace

-- it has carried the plan out, everything was answered Ok and synced, and then it moved the folder on
pub record HasMade (draw : PodId) (to : Area) (plan : List PlanEntry) (intent : Intent) (hs : List Held) (old new : DirAt) : Type 0 where
  pub entries : List Entry
  pub made : AreMade plan entries
  pub knows : Knows new (seen_making intent hs (handed draw to entries))
  pub moved : HasMovedPod old.process (pod_spot draw Prepare) (pod_spot draw to) entries intent old.trace new.trace

-- what is open after the making of a pod that its maker keeps
abbrev pub with_owned : Local → PodId → Result Owned MakeError → Local
with_owned m draw (Ok owned) = and_own m draw owned.own
with_owned m draw (Err error) = m
