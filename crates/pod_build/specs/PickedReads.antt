-- Of which images the listings are read while a pod is prepared.
use Rattle.std.specs.Prelude.{Bool, List}
use Rattle.ac_types.specs.declared.image_ref.ImageRef.{ImageRef}
use Rattle.dir_trait.specs.DirCalls.{DirAt}
use Rattle.image_reading.specs.Trees.{ReadsNoTrees}
use Rattle.pod_manifest.specs.Wishes.{Wishes}
use Rattle.pod_plan.specs.PickedTrees.{ReadsAtMostPicked}

-- in a part of the time no listings were read but those of the images at the nodes of the picked ones' dependency trees, and
-- before and after it none
pub record ReadsPickedAlone (observed : Bool) (refs : List ImageRef) (options : Wishes) (old new : DirAt) : Type 0 where
  pub start : DirAt
  pub end : DirAt
  pub before : ReadsNoTrees observed old start
  pub picked : ReadsAtMostPicked observed refs options start end
  pub after : ReadsNoTrees observed end new
