-- The commands of the demo of so many images, in order.
use Rattle.std.specs.Prelude.{ℕ, ◌+◌, ◌/◌, if◌then◌else◌, codes, List, [], ◌∷◌, ◌++◌}
use Rattle.std.proofs.Common.{zero, suc}
use Rattle.dir_model.specs.Pods.{pod_text}
use Rattle.commands.specs.Wants.{Wants}
use Rattle.demo_line.specs.Names.{demo_name}
use Rattle.demo_line.specs.Numbers.{count_below, is_run_pod}
use Rattle.demo_inputs.specs.Bundles.{app_spawner, bundle_path, image_bundle, no_bundle, plain_spawner}
use Rattle.demo_inputs.specs.Draws.{command_draw, pod_draw}
use Rattle.rkt_cli.specs.declared.line.Line.{Line}
use Rattle.rkt_cli.specs.declared.line.Line.TheVariants.{ImageImport, Prepare, RunPrepared, Gc, PodList}
use Rattle.rkt_cli.specs.declared.turn.Turn.{Turn}

-- image i is imported from its bundle at moment i
abbrev pub import_turn : ℕ → Turn
import_turn i = record { line = ImageImport bundle_path; now = i; draw = command_draw i; bundle = image_bundle i; spawner = plain_spawner }

-- a command that is given nothing of its own
abbrev pub bare_turn : Line → ℕ → ℕ → Turn
bare_turn line now number = record { line = line; now = now; draw = command_draw number; bundle = no_bundle; spawner = plain_spawner }

-- pod i is prepared of image i alone
abbrev pub wants_image : ℕ → Wants
wants_image i = record { images = demo_name i ∷ []; wishes = record { volumes = []; mounts = [] } }

abbrev pub prepare_turn : ℕ → Turn
prepare_turn i = record { line = Prepare (wants_image i); now = 1000; draw = pod_draw i; bundle = no_bundle; spawner = plain_spawner }

-- it is run by its uuid, behind the imports and the runs before it, and its app ends with the rest of its number by 2
abbrev pub run_turn : ℕ → ℕ → Turn
run_turn count i = record {
  line = RunPrepared (pod_text (pod_draw i).uuid.bytes) (codes "127.0.0.1:18112");
  now = 1000;
  draw = command_draw (count + i / 3);
  bundle = no_bundle;
  spawner = app_spawner i;
}

-- of all numbers below another in turn
abbrev pub imports : ℕ → List Turn
imports zero = []
imports (suc n) = imports n ++ import_turn n ∷ []

abbrev pub prepare_turns : ℕ → List Turn
prepare_turns zero = []
prepare_turns (suc n) = prepare_turns n ++ prepare_turn n ∷ []

-- of every third
abbrev pub runs_of : ℕ → ℕ → List Turn
runs_of count zero = []
runs_of count (suc n) = runs_of count n ++ (if is_run_pod n then run_turn count n ∷ [] else [])

-- two sweeps with the default times, and a list of what is left. So many commands drew before
abbrev pub last_turns : ℕ → List Turn
last_turns drawn = bare_turn (Gc 1800 86400) 2000 drawn ∷ bare_turn (Gc 1800 86400) 3800 (drawn + 1) ∷ bare_turn PodList 3800 (drawn + 2) ∷ []

abbrev pub turns : ℕ → List Turn
turns count = ((imports count ++ prepare_turns count) ++ runs_of count count) ++ last_turns (count + count_below is_run_pod count)
