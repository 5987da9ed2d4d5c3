-- The command `gc`.
use Rattle.std.specs.Prelude.{◌≡◌, ◌≤◌, ◌⊎◌, ℕ, Bool, true, Option, Some, None, List, ◌++◌, codes, Ok, Err}
use Rattle.std.specs.List.{flat_map, AllByRecursion}
use Rattle.dir_model.specs.declared.area.Area.{Area}
use Rattle.dir_model.specs.declared.area.Phase.{Phase}
use Rattle.dir_model.specs.declared.event.Event.{Event}
use Rattle.dir_model.specs.declared.pod.PodId.{PodId}
use Rattle.dir_model.specs.Areas.{phase_text}
use Rattle.dir_model.specs.Pods.{pod_text}
use Rattle.dir_rules.specs.declared.seen.Seen.{Seen}
use Rattle.dir_trait.specs.DirCalls.{DirAt}
use Rattle.dir_trait.specs.Knowledge.{Knows}
use Rattle.pod_locks.specs.Causes.{WasStrayStep}
use Rattle.pod_gc.specs.declared.ages.Times.{Times}
use Rattle.pod_gc.specs.declared.gc_error.GcError.{GcError}
use Rattle.pod_gc.specs.declared.gc_error.GcError.TheVariants as error
use Rattle.pod_gc.specs.declared.line.Deed.{Deed}
use Rattle.pod_gc.specs.declared.line.Deed.TheVariants.{Moved, Deleted, Kept, Busy, BusyGate, Left}
use Rattle.pod_gc.specs.declared.line.GcLine.{GcLine}
use Rattle.pod_gc.specs.Sweeping.{MaySweepAll}
use Rattle.pod_gc.specs.Told.{Knew, ArePassed, places}
use Rattle.pod_gc.specs.Ended.{EndsSweep}
use Rattle.command_outcomes.specs.declared.refusal.Refusal.{Refusal}
use Rattle.command_outcomes.specs.declared.refusal.Refusal.TheVariants.{DirFault, Stray, NoMemory}
use Rattle.command_outcomes.specs.Texts.{area_text, lock_text}
use Rattle.command_outcomes.specs.Moments.{CommandOutcome}
use Rattle.command_outcomes.specs.Ends.{is_common}
use Rattle.command_outcomes.specs.Meanwhile.{Meanwhile}
use Rattle.commands.specs.Strays.{ComesOfApp}

-- the moment of a sweep, and the times over which pods rest
abbrev pub times_of : ℕ → ℕ → ℕ → Times
times_of now grace expire = record { now = now; grace = grace; expire = expire }

-- of what a line is: a pod, or an area whose lock another process holds
abbrev pub subject_text : Option PodId → Area → List ℕ
subject_text (Some pod) place = pod_text pod.bytes
subject_text None place = area_text place

-- what was done in the pass over this place
abbrev pub deed_text : Area → Deed → List ℕ
deed_text place (Moved to) = codes " moved " ++ area_text to
deed_text place Deleted = codes " deleted"
deed_text place (Kept phase) = codes " kept " ++ phase_text phase
deed_text place (Busy which) = codes " busy " ++ lock_text which
deed_text place BusyGate = codes " busy gate"
deed_text place Left = codes " left " ++ area_text place

abbrev pub gc_line_text : GcLine → List ℕ
gc_line_text line = (subject_text line.pod line.place ++ deed_text line.place line.deed) ++ codes "\n"

abbrev pub lines_text : List GcLine → List ℕ
lines_text lines = flat_map gc_line_text lines

-- a line of a pod that was let be names its phase
abbrev pub NamesKept : (PodId → Phase → Type 0) → GcLine → Type 0
NamesKept Had line = (pod : PodId) (phase : Phase) → line.pod ≡ Some pod → line.deed ≡ Kept phase → Had pod phase

-- the lines were printed, of which this is so
pub record PrintsGcLines (P : List GcLine → Type 0) (text : List ℕ) : Type 0 where
  pub lines : List GcLine
  pub so : P lines
  pub is : text ≡ lines_text lines

abbrev pub names_kept : CommandOutcome → (PodId → Phase → Type 0) → Type 0
names_kept (Ok text) Had = PrintsGcLines (AllByRecursion (NamesKept Had)) text
names_kept (Err refusal) Had = Unit {0}

-- the refusals that it may have, and what is said of a sweep that ended early
abbrev pub gc_refusal : Refusal → Bool
gc_refusal Stray = true
gc_refusal refusal = is_common refusal

abbrev pub sweep_refusal : GcError → Refusal
sweep_refusal error.DirFault = DirFault
sweep_refusal error.Stray = Stray
sweep_refusal error.NoMemory = NoMemory

-- the six passes, each with its lines, of a process that may sweep, at a moment of 64 bits
pub record SweepsByPasses (times : Times) (lines : List GcLine) (me : ℕ) (old new : List Event) : Type 0 where
  pub from : DirAt
  pub can : Knew (MaySweepAll times.now times.expire) from
  pub swept : ArePassed (Knew (MaySweepAll times.now times.expire) from) times places lines me old new
  pub moment : times.now ≤ 18446744073709551615

-- so they were made, and nothing was told of them
abbrev pub SweepsUntold : Times → ℕ → List Event → List Event → Type 0
SweepsUntold times me old new = (lines : List GcLine) × SweepsByPasses times lines me old new

-- or the sweep ended early
pub record SweepsInPart (times : Times) (me : ℕ) (old new : List Event) : Type 0 where
  pub from : DirAt
  pub can : Knew (MaySweepAll times.now times.expire) from
  pub ended : EndsSweep (Knew (MaySweepAll times.now times.expire) from) times me old new
  pub moment : times.now ≤ 18446744073709551615

-- it is so where the process has begun to sweep at this moment
abbrev pub WhereSweepingPods : Bool → Times → DirAt → Type 0 → Type 0
WhereSweepingPods observed times old P = observed ≡ true → (s : Seen) → Knows old s → MaySweepAll times.now times.expire s → P

-- it printed the lines of what it did
pub record SweepsPods (observed : Bool) (times : Times) (old new : DirAt) (text : List ℕ) : Type 0 where
  pub lines : List GcLine
  pub is : text ≡ lines_text lines
  pub swept : WhereSweepingPods observed times old (SweepsByPasses times lines old.process old.trace new.trace)

-- what was told of the pods, and what was done with them where it was refused
abbrev pub GcSays : Bool → Times → DirAt → DirAt → CommandOutcome → Type 0
GcSays observed times old new (Ok text) = SweepsPods observed times old new text
GcSays observed times old new (Err Stray) =
    (observed ≡ true → WasStrayStep old.process old.trace new.trace) × WhereSweepingPods observed times old (SweepsInPart times old.process old.trace new.trace) × WhereSweepingPods observed times old (ComesOfApp old.process old.trace new.trace)
GcSays observed times old new (Err NoMemory) = WhereSweepingPods observed times old (SweepsInPart times old.process old.trace new.trace ⊎ SweepsUntold times old.process old.trace new.trace)
GcSays observed times old new (Err refusal) = WhereSweepingPods observed times old (SweepsInPart times old.process old.trace new.trace)

-- of a whole process: it printed the lines of what it did
pub record HasSweptPods (times : Times) (old new : DirAt) (text : List ℕ) : Type 0 where
  pub lines : List GcLine
  pub is : text ≡ lines_text lines
  pub swept : Meanwhile (SweepsByPasses times lines) old.process old.trace new.trace

-- it made its six passes
abbrev pub HasMadePasses : Times → DirAt → DirAt → Type 0
HasMadePasses times old new = Meanwhile (SweepsUntold times) old.process old.trace new.trace

-- it ended early
abbrev pub HasSweptInPart : Times → DirAt → DirAt → Type 0
HasSweptInPart times old new = Meanwhile (SweepsInPart times) old.process old.trace new.trace

abbrev pub HasMetStrayInPods : DirAt → DirAt → Type 0
HasMetStrayInPods old new = Meanwhile WasStrayStep old.process old.trace new.trace
