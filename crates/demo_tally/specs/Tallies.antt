-- What a trace tells of the numbers of a demo: each is counted over the steps that were answered Ok.
use Rattle.std.specs.Prelude.{ℕ, Bool, true, false, ◌&&◌, ◌==◌, if◌then◌else◌, List}
use Rattle.std.specs.List.{count_by, sum_by}
use Rattle.dir_model.specs.declared.area.Area.TheVariants as area
use Rattle.dir_model.specs.declared.event.Event.{Event}
use Rattle.dir_model.specs.declared.request.Request.{Request}
use Rattle.dir_model.specs.declared.request.Request.TheVariants.{MoveFolder, AppendIn, RemoveFolder}
use Rattle.dir_model.specs.declared.request.Reply.{Reply}
use Rattle.dir_model.specs.declared.request.Reply.TheVariants.{Done}
use Rattle.dir_rules.specs.Standing.{is_in, is_garbage}
use Rattle.demo_line.specs.declared.numbers.Numbers.{Numbers}
use Rattle.demo_tally.specs.TreeFiles.{is_root_listing}
use Rattle.demo_tally.specs.declared.tally.Deed.{Deed}
use Rattle.demo_tally.specs.declared.tally.Deed.TheVariants.{Stored, Prepared, Run, Deleted}

-- an image came into images; a pod came to prepared; one came to run; one was removed in a garbage place
abbrev pub is_deed_done : Deed → Request → Reply → Bool
is_deed_done Stored (MoveFolder from to) Done = is_in area.Incoming from.area && is_in area.Images to.area
is_deed_done Prepared (MoveFolder from to) Done = is_in area.Prepare from.area && is_in area.Prepared to.area
is_deed_done Run (MoveFolder from to) Done = is_in area.Prepared from.area && is_in area.Run to.area
is_deed_done Deleted (RemoveFolder spot) Done = is_garbage spot.area
is_deed_done deed request reply = false

abbrev pub is_deed : Deed → Event → Bool
is_deed deed e = is_deed_done deed e.request e.reply

-- how often it was done
abbrev pub deeds_in : Deed → List Event → ℕ
deeds_in deed trace = count_by (is_deed deed) trace

-- how many lines were written into the listings of apps' roots, of pods that were being made: one for each entry of a rendering
abbrev pub lines_written : Request → Reply → ℕ
lines_written (AppendIn inner piece) Done = if is_root_listing inner then count_by (λ b. b == 10) piece else 0
lines_written request reply = 0

abbrev pub lines_tallied : List Event → ℕ
lines_tallied trace = sum_by (λ (e : Event). lines_written e.request e.reply) trace

-- the numbers of a demo: by its trace, the apps that it was told to have failed, and the pods that its list shows
abbrev pub tally_of : List Event → ℕ → ℕ → Numbers
tally_of trace failed left = record {
  images = deeds_in Stored trace;
  prepared = deeds_in Prepared trace;
  ran = deeds_in Run trace;
  failed = failed;
  deleted = deeds_in Deleted trace;
  left = left;
  entries = lines_tallied trace;
}
