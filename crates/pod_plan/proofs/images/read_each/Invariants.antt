use Rattle.std.proofs.Common.{take}
use Rattle.image_reading.specs.Looks.{OnlyReadsImages}
use Rattle.image_reading.specs.Trees.{ReadsNoTrees}
use Rattle.pod_plan.specs.Readings.{AreReadAgain}
use Rattle.pod_plan.proofs.images.read_each.Given as goal

abbrev pub invariant-images : goal.invariant-images
invariant-images g l =
    let D = g.D.Dir in
    record {
      only : OnlyReadsImages D.observed (D.shown l.initial.dir) (D.shown l.dir);
      trees : ReadsNoTrees D.observed (D.shown l.initial.dir) (D.shown l.dir);
      read : AreReadAgain D.observed (take l.image-index l.listed) l.read (D.shown l.initial.dir) (D.shown l.dir);
    }
