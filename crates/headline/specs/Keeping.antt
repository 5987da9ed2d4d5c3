-- What one run of a program does for the headline, whatever the others do.
use Rattle.std.specs.Prelude.{◌≡◌, ℕ, false, Option, Some, List, [], ◌++◌}
use Rattle.std.specs.List.{AllByRecursion}
use Rattle.dir_model.specs.declared.event.Event.{Event}
use Rattle.dir_model.specs.declared.intent.Intent.{Intent}
use Rattle.dir_model.specs.declared.request.Request.TheVariants.{Begin}
use Rattle.dir_model.specs.Calls.{IsRun, is_foreign}
use Rattle.dir_rules.specs.Conforms.{Conforms}
use Rattle.dir_trait.specs.DirCalls.{DirAt}
use Rattle.lifecycle.specs.Executions.{IsConforming}
use Rattle.pod_build.specs.FaithfulBuild.{HandsOverFaithfully}
use Rattle.pod_build.specs.LegalExecutions.{IsLegal}
use Rattle.headline.specs.Headline.{HeadlineHolds}

-- the trace went on, and wherever this process began meanwhile it was with this intent
pub record BeginsAs (intent : Option Intent) (me : ℕ) (old new : List Event) : Type 0 where
  pub more : List Event
  pub grown : new ≡ old ++ more
  pub own : AllByRecursion (λ e. (i : Intent) → is_foreign me e ≡ false → e.request ≡ Begin i → intent ≡ Some i) more

-- the trace went on by others' steps and by own ones as the program is asked for, of which each begin has this intent; the local rules were
-- kept; whatever pod was handed over was made faithfully; and where all processes do so, the headline holds at each moment until then
pub record KeepsHeadline (Asked : ℕ → List Event → List Event → Type 0) (intent : Option Intent) (old new : DirAt) : Type 0 where
  pub extends : Asked old.process old.trace new.trace
  pub begins : BeginsAs intent old.process old.trace new.trace
  pub rules : Conforms old.process old.trace → Conforms old.process new.trace
  pub makers : IsRun new.trace → HandsOverFaithfully old.process old.trace new.trace
  pub holds : IsLegal new.trace → HeadlineHolds new.trace

-- every process keeps the local rules, no identity and no token was drawn twice, and what each handed over it made faithfully
pub record AllKeep (trace : List Event) : Type 0 where
  pub conforms : IsConforming trace
  pub makers : (p : ℕ) → HandsOverFaithfully p [] trace
