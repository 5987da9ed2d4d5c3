-- What a pod's folder holds in prepared and in run.
use Rattle.std.specs.Prelude.{◌≡◌, ℕ, Bool, true, false, not, ◌||◌, Some, List, ◌∷◌, ◌++◌, filter}
use Rattle.dir_model.specs.declared.area.Area.{Area}
use Rattle.dir_model.specs.declared.area.Area.TheVariants.{Prepare, Prepared, Run}
use Rattle.dir_model.specs.declared.spot.Spot.{Spot}
use Rattle.dir_model.specs.declared.event.Event.{Event}
use Rattle.dir_model.specs.declared.request.Request.TheVariants.{MoveFolder}
use Rattle.dir_model.specs.declared.request.Reply.TheVariants.{Done}
use Rattle.dir_model.specs.State.{folder_at}
use Rattle.dir_model.specs.Trace.{state_after}
use Rattle.dir_model.specs.Calls.{event}
use Rattle.dir_rules.specs.declared.seen.Entry.{Entry}
use Rattle.dir_rules.specs.Marks.{is_below_status, is_later_mark}
use Rattle.folder_contents.specs.Entries.{entries_in}
use Rattle.folder_contents.specs.Handing.{HandsOver}

-- in these areas a pod stands filled
abbrev pub is_after_handover : Area → Bool
is_after_handover Prepared = true
is_after_handover Run = true
is_after_handover area = false

-- what is noted while a pod runs: that an app was started, that the pod is to be removed, and the apps' statuses
abbrev pub is_note : List ℕ → Bool
is_note path = is_later_mark path || is_below_status path

-- what stands in a folder, but for that
abbrev pub lasting : List Entry → List Entry
lasting es = filter (λ e. not (is_note e.path)) es

-- what lasts in the folder with this number after a trace
abbrev pub lasting_after : ℕ → List Event → List Entry
lasting_after folder trace = lasting (entries_in folder (state_after trace).entries)

-- a folder that is found twice in prepared or in run holds the same lasting entries both times
abbrev pub KeepsItsContents : List Event → Type 0
KeepsItsContents trace =
    (before more later : List Event) (a b : Spot) (folder : ℕ) → trace ≡ (before ++ more) ++ later →
    is_after_handover a.area ≡ true → is_after_handover b.area ≡ true →
    folder_at (state_after before).namespace a ≡ Some folder →
    folder_at (state_after (before ++ more)).namespace b ≡ Some folder →
    lasting_after folder (before ++ more) ≡ lasting_after folder before

-- the folder was handed over from prepare by its maker, and of what it held then the lasting entries stand there still
pub record KeepsMadeContents (trace : List Event) (folder : ℕ) : Type 0 where
  pub before : List Event
  pub later : List Event
  pub process : ℕ
  pub from : Spot
  pub to : Spot
  pub moved : trace ≡ before ++ event process (MoveFolder from to) Done ∷ later
  pub left : from.area ≡ Prepare
  pub reached : is_after_handover to.area ≡ true
  pub handed : HandsOver before process from to folder
  pub same : lasting_after folder trace ≡ lasting handed.making.entries

-- each pod in prepared or in run is filled so
abbrev pub PodsAreFilled : List Event → Type 0
PodsAreFilled trace =
    (spot : Spot) (folder : ℕ) → is_after_handover spot.area ≡ true →
    folder_at (state_after trace).namespace spot ≡ Some folder → KeepsMadeContents trace folder
