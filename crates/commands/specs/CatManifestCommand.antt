-- `cat-manifest POD`, as a whole process of it.
use Rattle.std.specs.Prelude.{ℕ, List}
use Rattle.dir_model.specs.declared.intent.Kind.TheVariants as kind
use Rattle.dir_model.specs.declared.pod.PodId.{PodId}
use Rattle.commands.specs.CatManifest.{cat_manifest_report}
use Rattle.commands.specs.Command.{Command}
use Rattle.commands.specs.Opening.{approach_of}
use Rattle.commands.specs.Report.{report_command}

abbrev pub cat_manifest_command : List ℕ → PodId → Command
cat_manifest_command word pod = report_command kind.CatManifest word (approach_of word) (cat_manifest_report pod)
