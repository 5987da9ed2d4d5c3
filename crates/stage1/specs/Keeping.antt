-- What a process knows of its notes: no file is made twice, so each request keeps the local rules.
use Rattle.std.specs.Prelude.{◌≡◌, ◌≤◌, ℕ, ◌+◌, Bool, true, false, not, ◌&&◌, bytes_eq, Result, Ok, Err, List, [], ◌∷◌, filter, length}
use Rattle.std.specs.List.{list_any}
use Rattle.dir_model.specs.declared.event.Event.{Event}
use Rattle.dir_model.specs.declared.item.Inner.{Inner}
use Rattle.dir_model.specs.declared.pod.PodId.{PodId}
use Rattle.dir_model.specs.declared.request.Request.{Request}
use Rattle.dir_model.specs.declared.request.Request.TheVariants.{Close, AppendIn}
use Rattle.dir_model.specs.declared.request.Reply.{Reply}
use Rattle.dir_model.specs.declared.request.Reply.TheVariants.{Done}
use Rattle.dir_model.specs.declared.spot.Handle.{Handle}
use Rattle.dir_model.specs.Calls.{is_foreign}
use Rattle.dir_model.specs.Pods.{pod_text}
use Rattle.dir_rules.specs.declared.seen.Seen.{Seen}
use Rattle.dir_rules.specs.Seen.{inner_eq}
use Rattle.dir_rules.specs.Standing.{standing_replied}
use Rattle.dir_rules.specs.LockRules.{may_close}
use Rattle.dir_rules.specs.Rules.{runs, deletes, has_note}
use Rattle.dir_trait.specs.DirCalls.{DirAt, DirCall}
use Rattle.dir_trait.specs.Knowledge.{Knows}
use Rattle.spawner.specs.declared.call.RootPlace.{RootPlace}
use Rattle.stage1.specs.declared.start.AppStart.{AppStart}
use Rattle.stage1.specs.declared.error.Fault.{Fault}
use Rattle.stage1.specs.declared.stand.Stand.{Stand}
use Rattle.stage1.specs.declared.stand.Stand.TheVariants.{Running, Ended}
use Rattle.stage1.specs.Notes.{mark_inner, status_inner}

-- this was asked of the directory, whatever it answered
pub record CallsDirectory (observed : Bool) (request : Request) (old new : DirAt) : Type 0 where
  pub reply : Reply
  pub called : DirCall observed old request reply new

-- once where it holds
abbrev pub once : Bool → ℕ
once true = 1
once false = 0

-- how often a file was made there, as far as a process knows
abbrev pub note_count : Seen → Inner → ℕ
note_count s inner = once (has_note s inner)

-- a file may be made so often, and the process runs its pod
pub record MayNote (times : Inner → ℕ) (s : Seen) : Type 0 where
  pub once_all : (inner : Inner) → times inner + note_count s inner ≤ 1
  pub runs_it : (inner : Inner) → 1 ≤ times inner → runs s inner.spot.name ≡ true
  pub spares_it : (inner : Inner) → 1 ≤ times inner → deletes s inner.spot.name ≡ false

-- files were made at most so often, each request was allowed, and nothing else is known
pub record Noted (times : Inner → ℕ) (s new : Seen) : Type 0 where
  pub stands : new.standing ≡ s.standing
  pub kept : new.kept ≡ s.kept
  pub made : (inner : Inner) → note_count new inner ≤ note_count s inner + times inner

-- what the process knows, after notes were made so many times at each place
pub record KnowsNoted (times : Inner → ℕ) (s : Seen) (new : DirAt) : Type 0 where
  pub known : Seen
  pub noted : Noted times s known
  pub knows : Knows new known

-- how often a process asked for an append to a file
abbrev pub appends_to : Inner → Request → Bool
appends_to inner (AppendIn file piece) = inner_eq inner file
appends_to inner _ = false

-- the event is an own append to this file
abbrev pub is_own_append : ℕ → Inner → Event → Bool
is_own_append me inner e = not (is_foreign me e) && appends_to inner e.request

-- how many own appends to the file there were
abbrev pub appends : DirAt → Inner → ℕ
appends d inner = length (filter (is_own_append d.process inner) d.trace)

-- to each file at most once
abbrev pub AppendsOnce : DirAt → DirAt → Type 0
AppendsOnce old new = (inner : Inner) → appends new inner ≤ appends old inner + 1

-- files were made at most so often, and appended to; where that may be, each request was allowed
pub record NotesAtMost (times : Inner → ℕ) (old new : DirAt) : Type 0 where
  pub few : (inner : Inner) → appends new inner ≤ appends old inner + times inner
  pub keep : (s : Seen) → Knows old s → MayNote times s → KnowsNoted times s new

-- the mark of an app, and its status
abbrev pub mark_times : RootPlace → Inner → ℕ
mark_times root inner = once (inner_eq inner (mark_inner root))

-- how often an app's status is noted at a place: once at its file
abbrev pub status_times : RootPlace → Inner → ℕ
status_times root inner = once (inner_eq inner (status_inner root))

-- how often an app's mark and status are
abbrev pub app_times : AppStart → Inner → ℕ
app_times app inner = mark_times app.root inner + status_times app.root inner

-- where an app has begun, and where it ends from there
abbrev pub begun_times : AppStart → Stand → Inner → ℕ
begun_times app (Running child) inner = mark_times app.root inner
begun_times app (Ended status) inner = app_times app inner

-- how often they are at the app's end
abbrev pub end_times : AppStart → Stand → Inner → ℕ
end_times app (Running child) inner = status_times app.root inner
end_times app (Ended status) inner = 0

-- after its mark, up to where it stands or a fault
abbrev pub going_times : AppStart → Result Stand Fault → Inner → ℕ
going_times app (Ok (Running child)) inner = 0
going_times app (Ok (Ended status)) inner = status_times app.root inner
going_times app (Err fault) inner = status_times app.root inner

-- how often they are at the app's beginning
abbrev pub beginning_times : AppStart → Result Stand Fault → Inner → ℕ
beginning_times app (Ok stand) inner = begun_times app stand inner
beginning_times app (Err fault) inner = app_times app inner

-- the same of all; those that have no stand may have begun in part
abbrev pub all_begun_times : List AppStart → List Stand → Inner → ℕ
all_begun_times [] stands inner = 0
all_begun_times (app ∷ apps) (stand ∷ stands) inner = begun_times app stand inner + all_begun_times apps stands inner
all_begun_times (app ∷ apps) [] inner = app_times app inner + all_begun_times apps [] inner

-- the same of all apps at their ends
abbrev pub all_end_times : List AppStart → List Stand → Inner → ℕ
all_end_times (app ∷ apps) (stand ∷ stands) inner = end_times app stand inner + all_end_times apps stands inner
all_end_times _ _ inner = 0

-- the same of all apps
abbrev pub all_times : List AppStart → Inner → ℕ
all_times [] inner = 0
all_times (app ∷ apps) inner = app_times app inner + all_times apps inner

-- by what it knows, the process runs the pod, deletes nothing of it, and has made no file in it
pub record RunsWithoutNotes (pod : PodId) (s : Seen) : Type 0 where
  pub runs_it : runs s (pod_text pod.bytes) ≡ true
  pub spares_it : deletes s (pod_text pod.bytes) ≡ false
  pub none : list_any (λ n. bytes_eq n.spot.name (pod_text pod.bytes)) s.notes ≡ false

-- what it holds it holds still, and each request was allowed
pub record KeepsOn (s : Seen) (new : DirAt) : Type 0 where
  pub known : Seen
  pub stands : known.standing ≡ s.standing
  pub kept : known.kept ≡ s.kept
  pub knows : Knows new known

-- a process that has noted nothing in this pod keeps the rules
abbrev pub RunnerKeepsRules : PodId → DirAt → DirAt → Type 0
RunnerKeepsRules pod old new = (s : Seen) → Knows old s → RunsWithoutNotes pod s → KeepsOn s new

-- and then it has given the handle up
pub record KeepsClosed (own : Handle) (s : Seen) (new : DirAt) : Type 0 where
  pub known : Seen
  pub stands : known.standing ≡ standing_replied s.standing (Close own) Done
  pub kept : known.kept ≡ s.kept
  pub knows : Knows new known

-- and so it does up to the close of the handle by which it holds the pod
abbrev pub KeepsToEnd : PodId → Handle → DirAt → DirAt → Type 0
KeepsToEnd pod own old new = (s : Seen) → Knows old s → RunsWithoutNotes pod s → may_close s.standing own ≡ true → KeepsClosed own s new
