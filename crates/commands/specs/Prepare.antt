-- The command `prepare`.
use Rattle.std.specs.Prelude.{◌≡◌, ◌⊎◌, ℕ, Bool, true, false, List, [], ◌++◌, codes, Ok, Err}
use Rattle.dir_model.specs.declared.area.Area.{Area}
use Rattle.dir_model.specs.declared.area.Area.TheVariants as area
use Rattle.dir_model.specs.declared.event.Event.{Event}
use Rattle.dir_model.specs.declared.intent.Draw.{Draw}
use Rattle.dir_model.specs.declared.intent.Intent.{Intent}
use Rattle.dir_model.specs.declared.pod.PodId.{PodId}
use Rattle.dir_model.specs.declared.request.DirError.{DirError}
use Rattle.dir_model.specs.declared.request.DirError.TheVariants as dir
use Rattle.dir_model.specs.declared.request.Reply.{Reply}
use Rattle.dir_model.specs.declared.request.Reply.TheVariants.{Done, Refused}
use Rattle.dir_model.specs.declared.request.Request.{Request}
use Rattle.dir_model.specs.declared.request.Request.TheVariants.{SyncArea}
use Rattle.dir_model.specs.declared.spot.Mode.TheVariants.{Shared}
use Rattle.dir_model.specs.Calls.{CallStep, Extends, is_begin}
use Rattle.dir_model.specs.Pods.{pod_text}
use Rattle.dir_rules.specs.declared.seen.Entry.{Entry}
use Rattle.dir_rules.specs.Conforms.{IsTied}
use Rattle.dir_rules.specs.Standing.{is_in}
use Rattle.dir_trait.specs.DirCalls.{DirAt, DirCall, HeldBetween}
use Rattle.dir_trait.specs.Knowledge.{Knows}
use Rattle.dir_files.specs.AreaLocks.{IsBusyElsewhere}
use Rattle.folder_building.specs.Work.{either}
use Rattle.lifecycle.specs.Executions.{IsConforming}
use Rattle.pod_build.specs.Progress.{Progress, seen_making, handed}
use Rattle.pod_build.specs.Work.{IsMakerFolder, HasMakerFolder}
use Rattle.pod_build.specs.declared.error.BuildError.{BuildError}
use Rattle.pod_build.specs.Requests.{prepares}
use Rattle.pod_build.specs.Causes.{IsBuildRefused, IsMadeByPlan, FindsImagesFree}
use Rattle.pod_build.specs.Preparations.{Began, KnowsPrepared, IsPrepared}
use Rattle.command_outcomes.specs.declared.refusal.Refusal.{Refusal}
use Rattle.command_outcomes.specs.declared.refusal.Refusal.TheVariants.{Busy, DirFault, NoMemory}
use Rattle.command_outcomes.specs.Moments.{CommandOutcome}
use Rattle.command_outcomes.specs.Conforming.{seen_at_begin}
use Rattle.command_outcomes.specs.Meanwhile.{Meanwhile}
use Rattle.commands.specs.References.{OfReferences}
use Rattle.commands.specs.Wants.{Wants}
use Rattle.commands.specs.PrepareRefusals.{refusal_of_build}

-- the line that it prints: the pod's name
abbrev pub pod_line : PodId → List ℕ
pod_line pod = pod_text pod.bytes ++ codes "\n"

-- what it asks of the directory: what a prepare asks for, and that the names in prepared are brought to the disk
abbrev pub syncs : Area → Request → Bool
syncs area (SyncArea here) = is_in area here
syncs area request = false

abbrev pub prepares_pod : PodId → Request → Bool
prepares_pod draw = either (prepares draw area.Prepared) (syncs area.Prepared)

-- what is said where the area couldn't be synced, and what a sync then comes to: this line, or that
abbrev pub prepared_sync_refusal : DirError → Refusal
prepared_sync_refusal dir.Failed = DirFault
prepared_sync_refusal error = NoMemory

abbrev pub SyncSays : List ℕ → Bool → DirAt → DirAt → CommandOutcome → Type 0
SyncSays line observed old new (Ok text) = (text ≡ line) × DirCall observed old (SyncArea area.Prepared) Done new
SyncSays line observed old new (Err NoMemory) = DirCall observed old (SyncArea area.Prepared) (Refused dir.NoMemory 0) new
SyncSays line observed old new (Err DirFault) = DirCall observed old (SyncArea area.Prepared) (Refused dir.Failed 0) new
SyncSays line observed old new (Err refusal) = ⊥

-- it is so where this process has just begun to prepare with that draw
abbrev pub WherePrepareBegun : Draw → ℕ → DirAt → (Intent → Type 0) → Type 0
WherePrepareBegun draw now old P = (intent : Intent) → Began area.Prepared draw now intent → Knows old (seen_at_begin intent) → P intent

-- the pod that is wanted was prepared faithfully, by an own Ok move
abbrev pub IsFaithful : Wants → PodId → DirAt → DirAt → Type 0
IsFaithful wants draw old new = OfReferences wants.images (λ refs. IsPrepared refs wants.wishes old.process draw area.Prepared old.trace new.trace)

-- by its own answers it brought the pod to prepared, by the plan that the store gave, and had the lock of images, which no other process held
-- exclusively; and where every process keeps the local rules, the pod was prepared faithfully. Then it asked that the area be synced, which was answered so
pub record BringsAndSyncsPod (observed : Bool) (wants : Wants) (now : ℕ) (draw : Draw) (reply : Reply) (old new : DirAt) : Type 0 where
  pub brought : DirAt
  pub same : brought.process ≡ old.process
  pub free : FindsImagesFree observed old brought
  pub planned : OfReferences wants.images (λ refs. IsMadeByPlan observed refs wants.wishes draw now old brought)
  pub extends : observed ≡ true → Extends (prepares draw.uuid area.Prepared) old.process old.trace brought.trace
  pub knows : observed ≡ true → WherePrepareBegun draw now old (λ intent. KnowsPrepared draw.uuid area.Prepared intent [] brought)
  pub faithful : observed ≡ true → IsConforming brought.trace → WherePrepareBegun draw now old (λ intent. IsFaithful wants draw.uuid old brought)
  pub synced : observed ≡ true → CallStep old.process brought.trace (SyncArea area.Prepared) reply new.trace

-- by its own answers it knew the pod in prepared and held nothing, and then its sync of that area was answered so
pub record SyncsPreparedArea (draw : PodId) (reply : Reply) (me : ℕ) (old new : List Event) : Type 0 where
  pub intent : Intent
  pub entries : List Entry
  pub mid : List Event
  pub prepares : Extends (prepares draw area.Prepared) me old mid
  pub knew : IsTied me mid (seen_making intent [] (handed draw area.Prepared entries))
  pub synced : CallStep me mid (SyncArea area.Prepared) reply new

-- a whole process did so, where the sync was answered so, or Ok
abbrev pub HasBrought : PodId → Reply → DirAt → DirAt → Type 0
HasBrought draw reply old new = Meanwhile (SyncsPreparedArea draw reply) old.process old.trace new.trace

abbrev pub HasSynced : PodId → DirAt → DirAt → Type 0
HasSynced draw old new = HasBrought draw Done old new

-- by its own answers it holds nothing, and has made no folder, or one that stands in embryo or in prepare
pub record KeepsFolder (draw : PodId) (me : ℕ) (old new : List Event) : Type 0 where
  pub intent : Intent
  pub progress : Progress
  pub own : IsMakerFolder draw progress.making
  pub knew : IsTied me new (seen_making intent [] progress)

-- a whole process left it so, or asked for no more than to begin
abbrev pub HasKeptFolder : PodId → DirAt → DirAt → Type 0
HasKeptFolder draw old new = Extends is_begin old.process old.trace new.trace ⊎ Meanwhile (KeepsFolder draw) old.process old.trace new.trace

-- it leaves nothing, or its own folder in embryo or in prepare, and no lock
abbrev pub LeavesFolder : Bool → ℕ → Draw → DirAt → DirAt → Type 0
LeavesFolder observed now draw old new = observed ≡ true → WherePrepareBegun draw now old (λ intent. HasMakerFolder draw.uuid intent [] new)

-- why the pod wasn't prepared, and that this is what is said
pub record RefusesPod (observed : Bool) (wants : Wants) (now : ℕ) (draw : Draw) (old new : DirAt) (refusal : Refusal) : Type 0 where
  pub error : BuildError
  pub is : refusal ≡ refusal_of_build wants.images error
  pub cause : OfReferences wants.images (λ refs. IsBuildRefused observed refs wants.wishes draw now error old new)

-- where a lock was refused, another process held it exclusively at an own step
abbrev pub IsAreaHeld : Area → DirAt → DirAt → Type 0
IsAreaHeld area old new = HeldBetween old new (IsBusyElsewhere old.process area Shared)

abbrev pub IsHeldFromPrepare : Bool → ℕ → Draw → Refusal → DirAt → DirAt → Type 0
IsHeldFromPrepare observed now draw refusal old new = (area : Area) → refusal ≡ Busy area → observed ≡ true → WherePrepareBegun draw now old (λ intent. IsAreaHeld area old new)

-- what was told of the pod. Only where the area wasn't synced the pod stands in prepared, and its name isn't printed
abbrev pub PrepareSays : Bool → Wants → ℕ → Draw → DirAt → DirAt → CommandOutcome → Type 0
PrepareSays observed wants now draw old new (Ok text) = (text ≡ pod_line draw.uuid) × BringsAndSyncsPod observed wants now draw Done old new
PrepareSays observed wants now draw old new (Err NoMemory) = LeavesFolder observed now draw old new ⊎ BringsAndSyncsPod observed wants now draw (Refused dir.NoMemory 0) old new
PrepareSays observed wants now draw old new (Err DirFault) = LeavesFolder observed now draw old new ⊎ BringsAndSyncsPod observed wants now draw (Refused dir.Failed 0) old new
PrepareSays observed wants now draw old new (Err refusal) = LeavesFolder observed now draw old new × RefusesPod observed wants now draw old new refusal × IsHeldFromPrepare observed now draw refusal old new
