-- What a process knew just before each move by which it handed a pod over, from prepare to prepared or to run.
use Rattle.std.specs.Prelude.{◌≡◌, ℕ, Bool, true, false, ◌&&◌, Some, List, ◌∷◌, ◌++◌}
use Rattle.dir_model.specs.declared.area.Area.{Area}
use Rattle.dir_model.specs.declared.area.Area.TheVariants.{Prepare, Prepared, Run}
use Rattle.dir_model.specs.declared.event.Event.{Event}
use Rattle.dir_model.specs.declared.intent.Intent.{Intent}
use Rattle.dir_model.specs.declared.pod.PodId.{PodId}
use Rattle.dir_model.specs.declared.spot.Spot.{Spot}
use Rattle.dir_model.specs.declared.request.Request.{Request}
use Rattle.dir_model.specs.declared.request.Request.TheVariants.{MoveFolder}
use Rattle.dir_model.specs.declared.request.Reply.TheVariants.{Done}
use Rattle.dir_model.specs.Calls.{event}
use Rattle.dir_rules.specs.declared.seen.Entry.{Entry}
use Rattle.dir_rules.specs.declared.seen.Seen.{Seen}
use Rattle.dir_rules.specs.Conforms.{IsTied}
use Rattle.dir_rules.specs.Standing.{is_in}
use Rattle.dir_trait.specs.DirCalls.{DirAt}
use Rattle.folder_building.specs.declared.plan.PlanEntry.{PlanEntry}
use Rattle.folder_building.specs.Plans.{AreMade}
use Rattle.dir_model.specs.Spots.{pod_spot}
use Rattle.pod_build.specs.Progress.{holding}

-- a pod is handed over to prepared, or to run
abbrev pub is_handed_to : Area → Bool
is_handed_to Prepared = true
is_handed_to Run = true
is_handed_to area = false

abbrev pub is_pod_handover : Request → Bool
is_pod_handover (MoveFolder from to) = is_in Prepare from.area && is_handed_to to.area
is_pod_handover request = false

-- this was so of the trace just before each own Ok move by which a pod was handed over, between these two traces
pub record BeforeHandingOver (P : List Event → Type 0) (me : ℕ) (old new : List Event) : Type 0 where
  pub so : (before meanwhile later : List Event) (from to : Spot) → before ≡ old ++ meanwhile →
      new ≡ before ++ event me (MoveFolder from to) Done ∷ later → is_pod_handover (MoveFolder from to) ≡ true → P before

-- by what it knew, the folder in prepare held exactly what the plan asks for, each change Ok and all of it synced. It had begun so
pub record KnewMade (me : ℕ) (draw : PodId) (plan : List PlanEntry) (intent : Intent) (before : List Event) : Type 0 where
  pub entries : List Entry
  pub made : AreMade plan entries
  pub seen : Seen
  pub began : seen.standing.intent ≡ Some intent
  pub making : seen.making ≡ Some (holding (pod_spot draw Prepare) entries)
  pub knew : IsTied me before seen

-- it handed over nothing else
abbrev pub HandsOverMade : PodId → List PlanEntry → Intent → DirAt → DirAt → Type 0
HandsOverMade draw plan intent old new = BeforeHandingOver (KnewMade old.process draw plan intent) old.process old.trace new.trace
