-- What a status is where nobody else steps.
use Rattle.std.specs.Prelude.{ℕ, Option, Some, None, option_map, bytes_eq, find, filter_map, List, [], Result, Ok, Err}
use Rattle.std.specs.List.{range_with_len}
use Rattle.dir_model.specs.declared.area.Area.{Area}
use Rattle.dir_model.specs.declared.item.Inner.{Inner}
use Rattle.dir_model.specs.declared.item.Item.{Item}
use Rattle.dir_model.specs.declared.pod.PodId.{PodId}
use Rattle.dir_model.specs.declared.tree.TreeEntry.{TreeEntry}
use Rattle.dir_model.specs.Listings.{item_names}
use Rattle.dir_model.specs.State.{DirState, folder_at}
use Rattle.dir_model.specs.Trees.{items_in}
use Rattle.dir_rules.specs.Marks.{status_directory}
use Rattle.dir_rules.specs.Seen.{created_among}
use Rattle.dir_files.specs.Reads.{inner_at, file_at}
use Rattle.phase_read.specs.declared.found.Found.{Found}
use Rattle.phase_read.specs.declared.found.Found.TheVariants.{At, Gone}
use Rattle.dir_model.specs.Spots.{pod_spot}
use Rattle.phase_read.specs.Sequential.{sequential_read}
use Rattle.pod_lookup.specs.Pods.{in_order}
use Rattle.pod_report.specs.declared.ends.AppEndText.{AppEndText}
use Rattle.pod_report.specs.declared.error.ReportError.{ReportError}
use Rattle.pod_report.specs.declared.error.ReportError.TheVariants.{NoPod}
use Rattle.pod_report.specs.declared.status.PodStatus.{PodStatus}
use Rattle.pod_report.specs.Ends.{status_text, status_file}

-- what stands directly in a directory of a folder, if there is one
abbrev pub items_of : List TreeEntry → List ℕ → Option ℕ → List Item
items_of es path None = []
items_of es path (Some folder) = items_in folder path es

abbrev pub items_at : DirState → Inner → List Item
items_at s inner = items_of s.entries inner.path (folder_at s.namespace inner.spot)

-- the greatest moment of the created- marks in the pod's folder, where it stands in this area
abbrev pub created_in : DirState → PodId → Area → Option ℕ
created_in s pod area = created_among (items_at s (inner_at (pod_spot pod area) []))

-- the status from 0 to 255 of which the bytes are the text
unfoldable pub status_of_text : List ℕ → Option ℕ
status_of_text bytes = find (λ status. bytes_eq bytes (status_text status)) (range_with_len 0 256)

-- and that of a file
abbrev pub status_in_file : Option (List ℕ) → Option ℕ
status_in_file None = None
status_in_file (Some bytes) = status_of_text bytes

abbrev pub end_with : List ℕ → ℕ → AppEndText
end_with app status = record { app = app; status = status }

-- how the app of this name ended, if its status file there tells it
abbrev pub end_in : DirState → PodId → Area → List ℕ → Option AppEndText
end_in s pod area app = option_map (end_with app) (status_in_file (file_at s (status_file pod area app)))

-- the ends that the files in the directory of statuses tell, by name
abbrev pub ends_in : DirState → PodId → Area → List AppEndText
ends_in s pod area = filter_map (end_in s pod area) (in_order (item_names (items_at s (inner_at (pod_spot pod area) status_directory))))

-- the status of a pod that is found so, or that there is no such pod
abbrev pub status_found : DirState → PodId → Found → Result PodStatus ReportError
status_found s pod (At phase area) = Ok (record { phase = phase; created = created_in s pod area; ends = ends_in s pod area })
status_found s pod Gone = Err NoPod

-- by the first area in lifecycle order in which it stands
abbrev pub sequential_status : DirState → PodId → Result PodStatus ReportError
sequential_status s pod = status_found s pod (sequential_read s pod)
