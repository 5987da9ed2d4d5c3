-- `list`, as a whole process of it.
use Rattle.std.specs.Prelude.{[]}
use Rattle.dir_model.specs.declared.intent.Kind.TheVariants as kind
use Rattle.commands.specs.Command.{Command}
use Rattle.commands.specs.Opening.{directly}
use Rattle.commands.specs.PodList.{list_report}
use Rattle.commands.specs.Report.{report_command}

abbrev pub list_command : Command
list_command = report_command kind.List [] directly list_report
