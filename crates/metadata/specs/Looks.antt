-- What the metadata service asks the directory for.
use Rattle.std.specs.Prelude.{Bool, false}
use Rattle.dir_model.specs.declared.area.Area.TheVariants.{Run}
use Rattle.dir_model.specs.declared.request.Request.{Request}
use Rattle.dir_model.specs.declared.request.Request.TheVariants.{Open, TryLock, Close, ListArea, ReadIn}
use Rattle.dir_model.specs.Areas.{is_stage}
use Rattle.dir_model.specs.Replies.{is_look_at}
use Rattle.dir_rules.specs.Standing.{is_in}

-- listings of run, reads of files of the pods there, and looks at the places of pods
abbrev pub looks_in_run : Request → Bool
looks_in_run (Open spot which) = is_stage spot.area
looks_in_run (TryLock handle mode) = is_look_at (λ spot. false) (TryLock handle mode)
looks_in_run (Close handle) = is_look_at (λ spot. false) (Close handle)
looks_in_run (ListArea area) = is_in area Run
looks_in_run (ReadIn inner at room) = is_in inner.spot.area Run
looks_in_run _ = false
