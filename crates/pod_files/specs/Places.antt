-- Where a pod in run stands, and its files.
use Rattle.std.specs.Prelude.{ℕ, List, codes}
use Rattle.dir_model.specs.declared.area.Area.TheVariants.{Run}
use Rattle.dir_model.specs.declared.item.Inner.{Inner}
use Rattle.dir_model.specs.declared.pod.PodId.{PodId}
use Rattle.dir_model.specs.declared.spot.Spot.{Spot}
use Rattle.dir_model.specs.Spots.{pod_spot}
use Rattle.dir_files.specs.Reads.{inner_at}

abbrev pub run_spot : PodId → Spot
run_spot pod = pod_spot pod Run

-- a file in its folder
abbrev pub pod_file : PodId → List ℕ → Inner
pod_file pod path = inner_at (run_spot pod) path

abbrev pub pod_manifest_name : List ℕ
pod_manifest_name = codes "pod"

abbrev pub token_name : List ℕ
token_name = codes "token"
