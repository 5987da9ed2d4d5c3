use Rattle.std.proofs.Common.{◌≡◌, [], map, take, drop}
use Rattle.ac_types.specs.SeenTexts.{HasSeen}
use Rattle.pod_manifest.specs.Generation.{first_fault, name_of, picked}
use Rattle.pod_manifest.proofs.checks.check_images.Given as goal

abbrev pub invariant-loop-pick : goal.invariant-loop-pick
invariant-loop-pick l = record {
  left : first_fault [] (picked l.list l.picks)
      ≡ first_fault (map name_of (picked l.list (take l.pick-index l.picks))) (picked l.list (drop l.pick-index l.picks));
  seen : HasSeen l.seen (map name_of (picked l.list (take l.pick-index l.picks)));
}
