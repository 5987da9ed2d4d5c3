-- The two passes of a sweep.
use Rattle.std.specs.Prelude.{ℕ, Bool, true, false, is_some, List, filter}
use Rattle.std.specs.List.{list_any}
use Rattle.dir_model.specs.declared.area.Area.{Area}
use Rattle.dir_model.specs.declared.area.Area.TheVariants.{Incoming, Removed}
use Rattle.dir_model.specs.declared.request.Request.{Request}
use Rattle.dir_model.specs.declared.request.Request.TheVariants.{MoveFolder, Close, RemoveFolder}
use Rattle.dir_model.specs.Pods.{pod_of_text}
use Rattle.folder_removal.specs.Removal.{asks_deletion_at}
use Rattle.image_removal.specs.declared.pass.Pass.{Pass}
use Rattle.image_removal.specs.declared.pass.Pass.TheVariants.{PutAway, Delete}
use Rattle.image_removal.specs.declared.pass.SweepLine.{SweepLine}
use Rattle.image_removal.specs.declared.pass.SweepLine.TheVariants.{Moved, Deleted}
use Rattle.image_removal.specs.Requests.{incoming_spot, removed_spot, moves_folder}

abbrev pub area_of_pass : Pass → Area
area_of_pass PutAway = Incoming
area_of_pass Delete = Removed

-- what it says of a folder
abbrev pub line_of : Pass → List ℕ → SweepLine
line_of PutAway name = Moved name
line_of Delete name = Deleted name

-- the request by which it is done with a folder
abbrev pub pass_request_of : Pass → List ℕ → Request
pass_request_of PutAway name = MoveFolder (incoming_spot name) (removed_spot name)
pass_request_of Delete name = RemoveFolder (removed_spot name)

-- what it asks for on the way there
abbrev pub deals_with_folder : Pass → List ℕ → Request → Bool
deals_with_folder PutAway name request = moves_folder (incoming_spot name) (removed_spot name) request
deals_with_folder Delete name request = asks_deletion_at (removed_spot name) request

-- the text of a uuid
abbrev pub is_uuid : List ℕ → Bool
is_uuid name = is_some (pod_of_text name)

abbrev pub uuids : List (List ℕ) → List (List ℕ)
uuids names = filter is_uuid names

abbrev pub deals_with_folders : Pass → List (List ℕ) → Request → Bool
deals_with_folders pass names request = list_any (λ name. deals_with_folder pass name request) (uuids names)

abbrev pub is_close : Request → Bool
is_close (Close handle) = true
is_close request = false
