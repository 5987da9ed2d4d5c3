-- What a process knows that makes a pod, before each part of the making and after it.
use Rattle.std.specs.Prelude.{◌≡◌, ◌≤◌, ◌⊎◌, Bool, true, false, Option, Some, None, List, ◌∷◌}
use Rattle.std.specs.List.{list_any}
use Rattle.dir_model.specs.declared.area.Area.{Area}
use Rattle.dir_model.specs.declared.area.Area.TheVariants.{Embryo, Prepare, Prepared, Run, Images}
use Rattle.dir_model.specs.declared.intent.Intent.{Intent}
use Rattle.dir_model.specs.declared.intent.Kind.{Kind}
use Rattle.dir_model.specs.declared.opening.Target.TheVariants.{Own, Gate}
use Rattle.dir_model.specs.declared.pod.PodId.{PodId}
use Rattle.dir_model.specs.declared.spot.Handle.{Handle}
use Rattle.dir_model.specs.declared.spot.Mode.TheVariants.{Exclusive}
use Rattle.dir_model.specs.declared.request.Request.{Request}
use Rattle.dir_model.specs.Local.{Local}
use Rattle.dir_rules.specs.declared.standing.Held.{Held}
use Rattle.dir_rules.specs.declared.seen.Making.{Making}
use Rattle.dir_rules.specs.Standing.{is_maker, is_prepare, is_run, is_gate_shared}
use Rattle.dir_rules.specs.LockRules.{is_open_on}
use Rattle.dir_trait.specs.DirCalls.{DirAt, ExtendsBy}
use Rattle.dir_trait.specs.Knowledge.{Knows}
use Rattle.folder_building.specs.declared.plan.PlanEntry.{PlanEntry}
use Rattle.pod_plan.specs.PodPlans.{ComesInTurn, MakesWhole}
use Rattle.dir_model.specs.Spots.{pod_spot}
use Rattle.pod_build.specs.Progress.{Progress, seen_making, own_held}

-- it has begun as one that makes a pod, with this draw
pub record IsMaker (draw : PodId) (intent : Intent) : Type 0 where
  pub kind : is_maker intent.kind ≡ true
  pub drawn : intent.draw ≡ draw

-- a prepare leads to prepared, and a run to run
abbrev pub leads_to : Area → Kind → Bool
leads_to Prepared kind = is_prepare kind
leads_to Run kind = is_run kind
leads_to area kind = false

-- it has begun so that it leads to this area, and by the plan the rules let it fill the pod and move it on
pub record MayMake (to : Area) (plan : List PlanEntry) (draw : PodId) (intent : Intent) : Type 0 where
  pub leads : leads_to to intent.kind ≡ true
  pub drawn : intent.draw ≡ draw
  pub turn : ComesInTurn intent.now plan
  pub whole : MakesWhole plan

-- it has the lock of images shared, and no handle on the lock of embryo or on the pod's own
pub record MakesUnderImages (draw : PodId) (hs : List Held) : Type 0 where
  pub images : list_any (is_gate_shared Images) hs ≡ true
  pub free : is_open_on (Gate Embryo) hs ≡ false
  pub apart : is_open_on (Own (pod_spot draw Embryo)) hs ≡ false

-- it has both locks shared, and no handle on the pod's own
pub record UnderMakingLocks (draw : PodId) (hs : List Held) : Type 0 where
  pub images : list_any (is_gate_shared Images) hs ≡ true
  pub embryo : list_any (is_gate_shared Embryo) hs ≡ true
  pub apart : is_open_on (Own (pod_spot draw Embryo)) hs ≡ false

-- its newest handle has the pod's own lock exclusively
pub record Owns (draw : PodId) (hs : List Held) : Type 0 where
  pub own : Handle
  pub others : List Held
  pub are : hs ≡ own_held draw own (Some Exclusive) ∷ others
  pub images : list_any (is_gate_shared Images) others ≡ true
  pub apart : is_open_on (Own (pod_spot draw Embryo)) others ≡ false

-- wherever a process has begun so, has such handles and has come so far
abbrev pub WhereMakingPod : (Intent → Type 0) → (List Held → Type 0) → Progress → DirAt → (Intent → List Held → Type 0) → Type 0
WhereMakingPod Began Under p old After = (intent : Intent) (hs : List Held) → Began intent → Under hs → Knows old (seen_making intent hs p) → After intent hs

-- it has made no folder, or the one in embryo or prepare
abbrev pub IsMakerFolder : PodId → Option Making → Type 0
IsMakerFolder draw None = Unit {0}
IsMakerFolder draw (Some m) = (m.spot ≡ pod_spot draw Embryo) ⊎ (m.spot ≡ pod_spot draw Prepare)

-- it has these handles, and at most its own folder in embryo or prepare
pub record HasMakerFolder (draw : PodId) (intent : Intent) (hs : List Held) (new : DirAt) : Type 0 where
  pub progress : Progress
  pub own : IsMakerFolder draw progress.making
  pub knows : Knows new (seen_making intent hs progress)
