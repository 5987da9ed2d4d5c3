-- What is told of the apps of a pod.
use Rattle.std.specs.Prelude.{ℕ, ◌==◌, Bool, List, ◌++◌, codes}
use Rattle.std.specs.Fmt.{decimal}
use Rattle.std.specs.List.{flat_map, list_all}
use Rattle.command_outcomes.specs.declared.told.Told.{Told}
use Rattle.stage1.specs.declared.end.AppEnd.{AppEnd}

-- the line of an app that ended so
abbrev pub end_line : List ℕ → ℕ → List ℕ
end_line app status = (((codes "app-" ++ app) ++ codes "=") ++ decimal status) ++ codes "\n"

abbrev pub app_line : AppEnd → List ℕ
app_line end = end_line end.app end.status

abbrev pub app_lines : List AppEnd → List ℕ
app_lines ends = flat_map app_line ends

-- each app ended with 0
abbrev pub all_well : List AppEnd → Bool
all_well ends = list_all (λ e. e.status == 0) ends

-- these lines after a text
abbrev pub told_of_ends : List ℕ → List AppEnd → Told
told_of_ends front ends = record { text = front ++ app_lines ends; well = all_well ends }
