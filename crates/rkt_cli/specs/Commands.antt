-- Which command a task is, and what that comes to. A new command is one line of the first definition.
use Rattle.std.specs.Prelude.{◌≡◌, ℕ, Bool, true, false, [], Option, Some, None, option_map}
use Rattle.dir_model.specs.declared.intent.Draw.{Draw}
use Rattle.dir_model.specs.declared.intent.Intent.{Intent}
use Rattle.dir_model.specs.declared.pod.PodId.{PodId}
use Rattle.dir_model.specs.declared.request.Request.{Request}
use Rattle.dir_trait.specs.State.{DirState}
use Rattle.command_outcomes.specs.declared.refusal.Refusal.{Refusal}
use Rattle.command_outcomes.specs.declared.refusal.Refusal.TheVariants.{Usage, DirFault, BundleFault, SpawnFault, OutFault, NoMemory}
use Rattle.command_outcomes.specs.Moments.{BundleSeen, Outside, Inside, Moment, CommandOutcome, Answer, is_well}
use Rattle.commands.specs.Command.{Command, Saying, alone, running, begins_any, reads_any, starts_any, IsReadFromBundle}
use Rattle.commands.specs.StatusCommand.{status_command}
use Rattle.commands.specs.ListCommand.{list_command}
use Rattle.commands.specs.CatManifestCommand.{cat_manifest_command}
use Rattle.commands.specs.ValidateCommand.{validate_command}
use Rattle.commands.specs.ImageListCommand.{image_list_command}
use Rattle.commands.specs.ImageImportCommand.{image_import_command}
use Rattle.commands.specs.ImageRmCommand.{image_rm_command}
use Rattle.commands.specs.ImageGcCommand.{image_gc_command}
use Rattle.commands.specs.PrepareCommand.{prepare_command}
use Rattle.commands.specs.RunPreparedCommand.{run_prepared_command}
use Rattle.commands.specs.RunCommand.{run_command}
use Rattle.commands.specs.MetadataCommand.{metadata_command}
use Rattle.commands.specs.RmCommand.{rm_command}
use Rattle.commands.specs.GcCommand.{gc_command}
use Rattle.commands.specs.Opening.{Approach, looks_by}
use Rattle.rkt_cli.specs.declared.line.Line.{Line}
use Rattle.rkt_cli.specs.DemoCommand.{demo_command}
use Rattle.rkt_cli.specs.Tasks.{Task, Status, PodList, CatManifest, Validate, ImageList, ImageImport, ImageRm, ImageGc, Prepare, RunPrepared, Run, Rm, Gc, Metadata, Demo, takes_links, task_of}

abbrev pub command_in : Task → Command
command_in (Status word pod) = status_command word pod
command_in PodList = list_command
command_in (CatManifest word pod) = cat_manifest_command word pod
command_in (Validate path) = validate_command path
command_in ImageList = image_list_command
command_in (ImageImport path) = image_import_command path
command_in (ImageRm key) = image_rm_command key
command_in ImageGc = image_gc_command
command_in (Prepare wants) = prepare_command wants
command_in (RunPrepared word pod address) = run_prepared_command word pod address
command_in (Run wants address) = run_command wants address
command_in (Rm word pod) = rm_command word pod
command_in (Gc grace expire) = gc_command grace expire
command_in (Metadata address count) = metadata_command address count
command_in (Demo count) = demo_command count

-- whether it works on the directory, whether it reads the bundle, and whether it starts apps
abbrev pub uses_dir : Task → Bool
uses_dir task = begins_any (command_in task).begins

abbrev pub reads_bundle : Task → Bool
reads_bundle task = reads_any (command_in task).reads

abbrev pub runs_apps : Task → Bool
runs_apps task = starts_any (command_in task).says

-- so of the words of a line, which may be none: it is the same whatever pod they mean
abbrev pub no_pod : PodId
no_pod = record { bytes = [] }

abbrev pub any_task : Line → Task
any_task line = task_of line no_pod

abbrev pub uses_dir_in : Option Line → Bool
uses_dir_in None = false
uses_dir_in (Some line) = uses_dir (any_task line)

abbrev pub reads_bundle_in : Option Line → Bool
reads_bundle_in None = false
reads_bundle_in (Some line) = reads_bundle (any_task line)

abbrev pub runs_apps_in : Option Line → Bool
runs_apps_in None = false
runs_apps_in (Some line) = runs_apps (any_task line)

-- whether it takes connections of the listener
abbrev pub takes_links_in : Option Line → Bool
takes_links_in None = false
takes_links_in (Some line) = takes_links line

-- what its process says when it begins
abbrev pub intent_of : Task → ℕ → Draw → Option Intent
intent_of task now draw = option_map (λ (intent : ℕ → Draw → Intent). intent now draw) (command_in task).begins

-- the same of a line's words, whatever pod they mean
abbrev pub intent_in : Line → ℕ → Draw → Option Intent
intent_in line = intent_of (any_task line)

-- how it comes to its pod, and what it asks of the directory then
abbrev pub approach_in : Task → Approach
approach_in task = (command_in task).approach

abbrev pub looks : Task → Request → Bool
looks task = looks_by (approach_in task)

abbrev pub asks : Task → ℕ → Draw → Request → Bool
asks task = (command_in task).asks

-- the refusals that it may have: those that may come to any command that uses the same, and those of its own
abbrev pub may : Task → Refusal → Bool
may task NoMemory = true
may task DirFault = uses_dir task
may task BundleFault = reads_bundle task
may task SpawnFault = runs_apps task
may task Usage = false
may task OutFault = false
may task refusal = (command_in task).refusals refusal

-- what it did, where it came to an end of its own. What a command did that starts apps is told with the spawner
abbrev pub SaysAlone : Saying → ℕ → Draw → Outside → Outside → CommandOutcome → Type 0
SaysAlone (alone says) now draw old new o = says now draw old new o
SaysAlone (running says) now draw old new o = Unit {0}

abbrev pub SaysRunning : Saying → ℕ → Draw → Inside → Inside → Answer → Type 0
SaysRunning (alone says) now draw old new answer = is_well answer ≡ true
SaysRunning (running says) now draw old new answer = says now draw old new answer

abbrev pub CommandSays : Task → ℕ → Draw → Outside → Outside → CommandOutcome → Type 0
CommandSays task = SaysAlone (command_in task).says

-- of a pod and its apps. A command that starts none says that all is well
abbrev pub TellsOfItsApps : Task → ℕ → Draw → Inside → Inside → Answer → Type 0
TellsOfItsApps task = SaysRunning (command_in task).says

-- what it reads of the bundle
abbrev pub ReadsOnly : Task → BundleSeen → BundleSeen → Type 0
ReadsOnly task = IsReadFromBundle (command_in task).reads

-- what it comes to where nobody else steps, and what it leaves then
abbrev pub ComesQuietly : Task → ℕ → Draw → Moment → Moment → CommandOutcome → Type 0
ComesQuietly task = (command_in task).quiet

abbrev pub LeavesQuietly : Task → ℕ → Draw → DirState → DirState → Type 0
LeavesQuietly task = (command_in task).leaves
