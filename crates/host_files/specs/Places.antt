-- Where things stand in the data folder.
use Rattle.std.specs.Prelude.{ℕ, ◌==◌, Bool, ◌||◌, if◌then◌else◌, List, [], ◌++◌, length, bytes_eq, codes}
use Rattle.std.specs.List.{list_any, slice_split}
use Rattle.dir_model.specs.declared.area.Area.{Area}
use Rattle.dir_model.specs.declared.area.Area.TheVariants.{Embryo, Prepare, Prepared, Run, ExitedGarbage, Garbage, Incoming, Images, Trees, Removed}
use Rattle.dir_model.specs.declared.spot.Spot.{Spot}
use Rattle.dir_model.specs.Paths.{is_slash}

-- an area's place, seen from the data folder
abbrev pub area_place : Area → List ℕ
area_place Embryo = codes "pods/embryo"
area_place Prepare = codes "pods/prepare"
area_place Prepared = codes "pods/prepared"
area_place Run = codes "pods/run"
area_place ExitedGarbage = codes "pods/exited-garbage"
area_place Garbage = codes "pods/garbage"
area_place Incoming = codes "store/incoming"
area_place Images = codes "store/images"
area_place Trees = codes "store/trees"
area_place Removed = codes "store/removed"

abbrev pub area_path : List ℕ → Area → List ℕ
area_path root area = root ++ codes "/" ++ area_place area

-- a folder stands in its area by its name
abbrev pub folder_path : List ℕ → Spot → List ℕ
folder_path root spot = area_path root spot.area ++ codes "/" ++ spot.name

-- behind a path in the folder. The empty path is the folder itself
abbrev pub inner_path : List ℕ → Spot → List ℕ → List ℕ
inner_path root spot inner = if length inner == 0 then folder_path root spot else folder_path root spot ++ codes "/" ++ inner

-- what follows the path of the directory above, where a path in the folder is that directory's and this rest
abbrev pub rest_path : List ℕ → List ℕ → List ℕ
rest_path above rest = if length above == 0 then (if length rest == 0 then [] else codes "/" ++ rest) else rest

-- the segment names the directory that it stands in, or the one above
abbrev pub is_dots : List ℕ → Bool
is_dots segment = bytes_eq segment (codes ".") || bytes_eq segment (codes "..")

abbrev pub has_dots : List ℕ → Bool
has_dots path = list_any is_dots (slice_split is_slash path)
