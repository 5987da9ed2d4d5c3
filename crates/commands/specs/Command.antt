-- What a command promises, whichever it is. Each command has such a record, in a file of its own.
use Rattle.std.specs.Prelude.{◌≡◌, ℕ, Bool, true, false, Option, Some, None, List}
use Rattle.dir_model.specs.declared.area.Phase.{Phase}
use Rattle.dir_model.specs.declared.intent.Draw.{Draw}
use Rattle.dir_model.specs.declared.intent.Intent.{Intent}
use Rattle.dir_model.specs.declared.intent.Kind.{Kind}
use Rattle.dir_model.specs.declared.pod.PodId.{PodId}
use Rattle.dir_model.specs.declared.request.Request.{Request}
use Rattle.dir_trait.specs.State.{DirState}
use Rattle.lifecycle.specs.Executions.{IsConforming}
use Rattle.command_outcomes.specs.declared.refusal.Refusal.{Refusal}
use Rattle.command_outcomes.specs.Moments.{BundleSeen, Outside, Inside, Moment, CommandOutcome, Answer}
use Rattle.commands.specs.Opening.{Approach}

-- what is told of a command alone, or of one that starts apps
pub data Saying : Type 1 where
  alone : (ℕ → Draw → Outside → Outside → CommandOutcome → Type 0) → Saying
  running : (ℕ → Draw → Inside → Inside → Answer → Type 0) → Saying

-- nothing is read of the bundle, or so much
pub data Reading : Type 1 where
  nothing : Reading
  reading : (BundleSeen → BundleSeen → Type 0) → Reading

-- a command, of a moment and a draw
pub record Command : Type 1 where
  -- what its process says when it begins. None: it works on no directory
  pub begins : Option (ℕ → Draw → Intent)
  -- how it comes to its pod
  pub approach : Approach
  -- what it asks of the directory then, before its finish
  pub asks : ℕ → Draw → Request → Bool
  -- what it reads of the bundle
  pub reads : Reading
  -- the texts that it prints
  pub prints : Draw → BundleSeen → List ℕ → Type 0
  -- the refusals of its own
  pub refusals : Refusal → Bool
  -- and each with its cause
  pub refused_for : ℕ → Draw → Refusal → Moment → Moment → Type 0
  -- the phases of pods that its answer names: so each of them was
  pub names : CommandOutcome → (PodId → Phase → Type 0) → Type 0
  -- what it tells with each status: by its own answers, and of the histories of pods and images
  pub tells : ℕ → Draw → ℕ → Moment → Moment → Type 0
  -- what it answers where nobody else steps
  pub quiet : ℕ → Draw → Moment → Moment → CommandOutcome → Type 0
  -- and what this process leaves in the directory then
  pub leaves : ℕ → Draw → DirState → DirState → Type 0
  -- what is told of it between its begin and its finish
  pub says : Saying

-- whether it works on the directory, and whether it reads the bundle
abbrev pub begins_any : Option (ℕ → Draw → Intent) → Bool
begins_any None = false
begins_any (Some intent) = true

abbrev pub reads_any : Reading → Bool
reads_any nothing = false
reads_any (reading reads) = true

-- whether it starts apps
abbrev pub starts_any : Saying → Bool
starts_any (alone says) = false
starts_any (running says) = true

-- what is read of the bundle
abbrev pub IsReadFromBundle : Reading → BundleSeen → BundleSeen → Type 0
IsReadFromBundle nothing old new = new ≡ old
IsReadFromBundle (reading reads) old new = reads old new

-- what a process says when it begins that has no times of its own
abbrev pub intent_for : Kind → List ℕ → ℕ → Draw → Intent
intent_for kind word now draw = record { kind = kind; word = word; now = now; grace = 0; expire = 0; draw = draw.uuid; token = draw.token }

-- it is so where the directory's trace is observed
abbrev pub WhereObserved : Moment → Type 0 → Type 0
WhereObserved old P = old.outside.observed ≡ true → P

-- and where every process keeps the local rules
abbrev pub WhereAllKeepRules : Moment → Moment → Type 0 → Type 0
WhereAllKeepRules old new P = old.outside.observed ≡ true → IsConforming new.outside.dir.trace → P
