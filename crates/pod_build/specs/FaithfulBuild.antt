-- What a pod's maker has made when it hands the pod over: the pod of images that it read in the store itself.
use Rattle.std.specs.Prelude.{◌≡◌, ℕ, Some, List, ◌++◌}
use Rattle.manifests.specs.PodData.{PodData}
use Rattle.dep_match.specs.declared.stored.Stored.{Stored}
use Rattle.dir_model.specs.declared.event.Event.{Event}
use Rattle.dir_model.specs.declared.intent.Intent.{Intent}
use Rattle.dir_rules.specs.declared.seen.Making.{Making}
use Rattle.dir_rules.specs.Conforms.{seen_of}
use Rattle.dir_trait.specs.DirCalls.{DirAt}
use Rattle.folder_contents.specs.UnderGate.{KnowsAlong, shares_images}
use Rattle.image_reading.specs.Store.{ReadsStore}
use Rattle.pod_build.specs.Handovers.{BeforeHandingOver}
use Rattle.pod_plan.specs.FaithfulPods.{StoreRead, IsPodOf, read_between}

-- in a stretch of a trace a process had the lock of images all along
pub record HasImagesBetween (p : ℕ) (trace : List Event) (old new : DirAt) : Type 0 where
  pub before : old.process ≡ p
  pub after : new.process ≡ p
  pub stretch : List Event
  pub later : List Event
  pub goes_on : new.trace ≡ old.trace ++ stretch
  pub ends : trace ≡ new.trace ++ later
  pub held : KnowsAlong shares_images p old.trace stretch

-- the process made the pod of this manifest, with its own moment and token, of what was read
pub record HasMadePod (read : StoreRead) (manifest : PodData) (p : ℕ) (trace : List Event) : Type 0 where
  pub intent : Intent
  pub began : (seen_of p trace).standing.intent ≡ Some intent
  pub making : Making
  pub made : (seen_of p trace).making ≡ Some making
  pub pod : IsPodOf read manifest intent.now intent.token making.entries

-- the process made what it hands over of what it read itself, while it had the lock of images
pub record IsFaithfulBuild (p : ℕ) (trace : List Event) : Type 0 where
  pub old : DirAt
  pub new : DirAt
  pub under_lock : HasImagesBetween p trace old new
  pub images : List Stored
  pub listed : ReadsStore images old new
  pub manifest : PodData
  pub built : HasMadePod (read_between images old new) manifest p trace

-- whatever it handed over between these two traces, it made faithfully
abbrev pub HandsOverFaithfully : ℕ → List Event → List Event → Type 0
HandsOverFaithfully me old new = BeforeHandingOver (IsFaithfulBuild me) me old new
