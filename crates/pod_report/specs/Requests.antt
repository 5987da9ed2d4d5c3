-- What a report asks the directory for, and what its process knows afterwards.
use Rattle.std.specs.Prelude.{◌≡◌, ◌≤◌, ℕ, Bool, true, false, ◌||◌, List}
use Rattle.dir_model.specs.declared.pod.PodId.{PodId}
use Rattle.dir_model.specs.declared.request.Request.{Request}
use Rattle.dir_model.specs.declared.request.Request.TheVariants.{Open, TryLock, Close, ListArea, ListIn, ReadIn}
use Rattle.dir_model.specs.Areas.{is_stage}
use Rattle.dir_model.specs.Local.{Local, has_own_open}
use Rattle.dir_model.specs.Replies.{is_look_at}
use Rattle.dir_rules.specs.declared.seen.Seen.{Seen}
use Rattle.dir_trait.specs.DirCalls.{DirAt, ExtendsBy}
use Rattle.dir_trait.specs.Knowledge.{Knows}
use Rattle.dir_trait.specs.Effects.{OnlyAsksAndKeeps}
use Rattle.phase_read.specs.Read.{is_pod_spot}

-- reads of files of the pod's folder, wherever it stands
abbrev pub reads_in : PodId → Request → Bool
reads_in pod (ReadIn inner at room) = is_pod_spot pod inner.spot
reads_in pod _ = false

-- and looks at the pod's six locations
abbrev pub visits : PodId → Request → Bool
visits pod request = is_look_at (is_pod_spot pod) request || reads_in pod request

-- listings of directories of the pod's folder
abbrev pub lists_in : PodId → Request → Bool
lists_in pod (ListIn inner) = is_pod_spot pod inner.spot
lists_in pod _ = false

-- and visits to it
abbrev pub inspects : PodId → Request → Bool
inspects pod request = visits pod request || lists_in pod request

-- visits to any pod, and listings of the areas
abbrev pub surveys : Request → Bool
surveys (Open spot which) = is_stage spot.area
surveys (TryLock handle mode) = is_look_at (λ spot. false) (TryLock handle mode)
surveys (Close handle) = is_look_at (λ spot. false) (Close handle)
surveys (ListArea area) = is_stage area
surveys (ReadIn inner at room) = is_stage inner.spot.area
surveys _ = false

-- no handle is open on the lock of a pod
abbrev pub HasNoPodOpen : Local → Type 0
HasNoPodOpen m = (name : List ℕ) → has_own_open m name ≡ false

-- the process has what it had open, and each of its requests was allowed, if those before were
pub record KeepsHandles (s : Seen) (new : DirAt) : Type 0 where
  pub known : Seen
  pub intent : known.standing.intent ≡ s.standing.intent
  pub holdings : known.standing.holdings ≡ s.standing.holdings
  pub kept : known.kept ≡ s.kept
  pub knows : Knows new known

-- whatever a process knew of what it has open, it knows
abbrev pub KeepsAllHandles : DirAt → DirAt → Type 0
KeepsAllHandles old new = (s : Seen) → Knows old s → KeepsHandles s new

-- nothing was asked for but this, every handle is as it was, and so much is known still
abbrev pub OnlyAsksFor : Bool → (Request → Bool) → DirAt → DirAt → Type 0
OnlyAsksFor observed asks old new = OnlyAsksAndKeeps observed asks KeepsAllHandles old new
