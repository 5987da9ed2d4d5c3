-- `status POD`, as a whole process of it.
use Rattle.std.specs.Prelude.{ℕ, List}
use Rattle.dir_model.specs.declared.intent.Kind.TheVariants as kind
use Rattle.dir_model.specs.declared.pod.PodId.{PodId}
use Rattle.commands.specs.Command.{Command}
use Rattle.commands.specs.Opening.{approach_of}
use Rattle.commands.specs.Report.{report_command}
use Rattle.commands.specs.Status.{status_report}

abbrev pub status_command : List ℕ → PodId → Command
status_command word pod = report_command kind.Status word (approach_of word) (status_report pod)
