-- The lines that `status` and `validate` print.
use Rattle.std.specs.Prelude.{ℕ, List, ◌++◌, length, codes}
use Rattle.std.specs.Fmt.{decimal}
use Rattle.dir_model.specs.declared.area.Phase.{Phase}
use Rattle.dir_trait.specs.Areas.{phase_text}
use Rattle.manifests.specs.DocumentData.{DocumentData, an_image, a_pod}

-- the line that `status` prints
abbrev pub state_text : Phase → List ℕ
state_text phase = (codes "state=" ++ phase_text phase) ++ codes "\n"

-- the line that `validate` prints: the image's name, or how many apps the pod has
abbrev pub valid_text : DocumentData → List ℕ
valid_text (an_image manifest) = (codes "valid ImageManifest " ++ manifest.name) ++ codes "\n"
valid_text (a_pod manifest) = (codes "valid PodManifest " ++ decimal (length manifest.apps)) ++ codes "\n"
