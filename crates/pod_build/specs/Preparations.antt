-- What a prepare comes to.
use Rattle.std.specs.Prelude.{◌≡◌, ℕ, true, Some, List, [], ◌∷◌, ◌++◌}
use Rattle.ac_types.specs.declared.image_ref.ImageRef.{ImageRef}
use Rattle.dir_model.specs.declared.area.Area.{Area}
use Rattle.dir_model.specs.declared.area.Area.TheVariants.{Prepare, Images}
use Rattle.dir_model.specs.declared.event.Event.{Event}
use Rattle.dir_model.specs.declared.intent.Draw.{Draw}
use Rattle.dir_model.specs.declared.intent.Intent.{Intent}
use Rattle.dir_model.specs.declared.pod.PodId.{PodId}
use Rattle.dir_model.specs.declared.request.Request.TheVariants.{MoveFolder}
use Rattle.dir_model.specs.declared.request.Reply.TheVariants.{Done}
use Rattle.dir_model.specs.declared.spot.Handle.{Handle}
use Rattle.dir_model.specs.declared.spot.Mode.TheVariants.{Shared}
use Rattle.dir_model.specs.Calls.{Extends, IsRun, event}
use Rattle.dir_model.specs.State.{folder_at}
use Rattle.dir_model.specs.Trace.{state_after}
use Rattle.dir_rules.specs.declared.standing.Held.{Held}
use Rattle.dir_rules.specs.declared.seen.Entry.{Entry}
use Rattle.dir_trait.specs.DirCalls.{DirAt, ExtendsBy}
use Rattle.dir_trait.specs.Knowledge.{Knows}
use Rattle.dir_trait.specs.Effects.{OnlyAsks}
use Rattle.dir_files.specs.AreaLocks.{on_gate}
use Rattle.folder_building.specs.declared.plan.PlanEntry.{PlanEntry}
use Rattle.folder_contents.specs.Entries.{entries_in}
use Rattle.folder_contents.specs.Handing.{then_moved}
use Rattle.image_reading.specs.Looks.{reads_images}
use Rattle.manifests.specs.PodData.{pod_data}
use Rattle.pod_plan.specs.declared.choice.Choice.{Choice}
use Rattle.pod_plan.specs.Choices.{IsChoice}
use Rattle.pod_manifest.specs.Wishes.{Wishes}
use Rattle.pod_plan.specs.FaithfulPods.{PlansFaithfully}
use Rattle.dir_model.specs.Spots.{pod_spot}
use Rattle.pod_build.specs.MakingRequests.{makes_pod}
use Rattle.pod_build.specs.Progress.{seen_making, handed, nothing_made}
use Rattle.pod_build.specs.Work.{leads_to, WhereMakingPod}
use Rattle.pod_build.specs.Makings.{HasMade}
use Rattle.pod_build.specs.Handovers.{BeforeHandingOver, KnewMade}
use Rattle.pod_build.specs.FaithfulBuild.{IsFaithfulBuild, HandsOverFaithfully}

-- a process has begun so that it leads to this area, with this draw, at this moment
pub record Began (to : Area) (draw : Draw) (now : ℕ) (intent : Intent) : Type 0 where
  pub leads : leads_to to intent.kind ≡ true
  pub drawn : intent.draw ≡ draw.uuid
  pub token : intent.token ≡ draw.token
  pub moment : intent.now ≡ now

-- it has no handle
abbrev pub IsAlone : List Held → Type 0
IsAlone hs = hs ≡ []

-- it has the lock of images shared, and no other handle
abbrev pub HasGateAlone : Handle → List Held → Type 0
HasGateAlone gate hs = hs ≡ on_gate gate Images (Some Shared) ∷ []

-- it read the images, and then made the pod by the plan that they gave
pub record HasPrepared (refs : List ImageRef) (options : Wishes) (draw : Draw) (now : ℕ) (to : Area) (intent : Intent) (hs : List Held) (old new : DirAt) : Type 0 where
  pub mid : DirAt
  pub reads : OnlyAsks true reads_images old mid
  pub plan : List PlanEntry
  pub planned : PlansFaithfully refs options now draw.token plan old mid
  pub works : ExtendsBy (makes_pod draw.uuid to) mid new
  pub made : HasMade draw.uuid to plan intent hs mid new

-- it read the images, and until then made the pod by the plan that they gave, and knew it whole
pub record ReadsThenMakes (refs : List ImageRef) (options : Wishes) (draw : Draw) (now : ℕ) (to : Area) (intent : Intent) (old : DirAt) (before : List Event) : Type 0 where
  pub mid : DirAt
  pub reads : OnlyAsks true reads_images old mid
  pub plan : List PlanEntry
  pub planned : PlansFaithfully refs options now draw.token plan old mid
  pub makes : Extends (makes_pod draw.uuid to) mid.process mid.trace before
  pub knew : KnewMade mid.process draw.uuid plan intent before

-- it handed over nothing else
abbrev pub HandsOverPlanned : List ImageRef → Wishes → Draw → ℕ → Area → Intent → DirAt → DirAt → Type 0
HandsOverPlanned refs options draw now to intent old new = BeforeHandingOver (ReadsThenMakes refs options draw now to intent old) old.process old.trace new.trace

-- it knows the pod in the area to which it brought it, and has these handles
abbrev pub KnowsPrepared : PodId → Area → Intent → List Held → DirAt → Type 0
KnowsPrepared draw to intent hs new = (entries : List Entry) × Knows new (seen_making intent hs (handed draw to entries))

-- the pod came to the area by an own Ok move, and just before that it was made faithfully
pub record IsHandedOver (me : ℕ) (draw : PodId) (to : Area) (old new : List Event) : Type 0 where
  pub before : List Event
  pub later : List Event
  pub meanwhile : List Event
  pub begins : before ≡ old ++ meanwhile
  pub moved : new ≡ before ++ event me (MoveFolder (pod_spot draw Prepare) (pod_spot draw to)) Done ∷ later
  pub faithful : IsFaithfulBuild me before

-- the pod came to the area by an own Ok move. Just before that it was made faithfully, of the best images for the references among
-- those that were listed; and just after it stands there, with what its maker made
pub record IsPrepared (refs : List ImageRef) (options : Wishes) (me : ℕ) (draw : PodId) (to : Area) (old new : List Event) : Type 0 where
  pub before : List Event
  pub later : List Event
  pub meanwhile : List Event
  pub begins : before ≡ old ++ meanwhile
  pub moved : new ≡ before ++ event me (MoveFolder (pod_spot draw Prepare) (pod_spot draw to)) Done ∷ later
  pub faithful : IsFaithfulBuild me before
  pub choice : Choice
  pub chosen : IsChoice faithful.images refs options choice
  pub manifest : faithful.manifest ≡ pod_data choice.manifest
  pub folder : ℕ
  pub stands : folder_at (state_after (then_moved before me (pod_spot draw Prepare) (pod_spot draw to))).namespace (pod_spot draw to) ≡ Some folder
  pub holds : entries_in folder (state_after (then_moved before me (pod_spot draw Prepare) (pod_spot draw to))).entries ≡ faithful.built.making.entries

-- in every run: whatever a process hands over that has begun so, and has made nothing, it made faithfully
abbrev pub MakesFaithfully : Area → Draw → ℕ → DirAt → DirAt → Type 0
MakesFaithfully to draw now old new = IsRun new.trace → WhereMakingPod (Began to draw now) IsAlone nothing_made old (λ intent hs. HandsOverFaithfully old.process old.trace new.trace)
