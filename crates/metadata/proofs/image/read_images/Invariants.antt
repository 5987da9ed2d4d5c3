use Rattle.std.proofs.Common.{◌≡◌, true, take, map, length, All}
use Rattle.metadata_reply.specs.Views.{HasReading, image_bytes}
use Rattle.pod_files.specs.Looks.{OnlyReadsPod}
use Rattle.metadata.specs.Images.{names}
use Rattle.metadata.specs.PodViews.{ReadsAppImages}
use Rattle.metadata.proofs.image.read_images.Given as goal

abbrev pub invariant-apps : goal.invariant-apps
invariant-apps g l =
    let D = g.D.Dir in
    record {
      only : OnlyReadsPod D.observed l.pod (D.shown l.initial.dir) (D.shown l.dir);
      each : length l.images.items ≡ l.app-index;
      readable : All HasReading (map image_bytes l.images.items);
      read : D.observed ≡ true → ReadsAppImages l.pod (names (take l.app-index l.apps)) (map image_bytes l.images.items) (D.shown l.initial.dir) (D.shown l.dir);
    }
