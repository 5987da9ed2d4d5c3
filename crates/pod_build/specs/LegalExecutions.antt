-- Executions in which every process keeps the local rules, and every maker of a pod makes it faithfully.
use Rattle.std.specs.Prelude.{◌≡◌, ℕ, true, List, ◌∷◌, ◌++◌}
use Rattle.dir_model.specs.declared.area.Area.TheVariants.{Prepare}
use Rattle.dir_model.specs.declared.event.Event.{Event}
use Rattle.dir_model.specs.declared.spot.Spot.{Spot}
use Rattle.dir_model.specs.declared.request.Request.TheVariants.{MoveFolder}
use Rattle.dir_model.specs.declared.request.Reply.TheVariants.{Done}
use Rattle.dir_model.specs.Calls.{event}
use Rattle.dir_rules.specs.Standing.{is_in}
use Rattle.folder_contents.specs.Handing.{hands_over}
use Rattle.lifecycle.specs.Executions.{IsConforming}
use Rattle.pod_build.specs.FaithfulBuild.{IsFaithfulBuild}

-- whoever hands a pod over, to prepared or to run, has made it faithfully
abbrev pub MakersAreFaithful : List Event → Type 0
MakersAreFaithful trace =
    (before : List Event) (p : ℕ) (from to : Spot) (later : List Event) →
    trace ≡ before ++ event p (MoveFolder from to) Done ∷ later → is_in Prepare from.area ≡ true → hands_over from.area to.area ≡ true →
    IsFaithfulBuild p before

pub record IsLegal (trace : List Event) : Type 0 where
  pub conforms : IsConforming trace
  pub makers : MakersAreFaithful trace
