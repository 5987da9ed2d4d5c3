-- What some of the calls tell of a lock, all of them tell.
use Rattle.std.proofs.Common.{◌≡◌, ℕ, Bool, List, refl, subst}
use Rattle.dir_model.specs.declared.area.Area.{Area}
use Rattle.dir_model.specs.declared.event.Event.{Event}
use Rattle.dir_model.specs.declared.pod.PodId.{PodId}
use Rattle.dir_model.specs.declared.spot.Mode.{Mode}
use Rattle.dir_model.specs.declared.spot.Spot.{Spot}
use Rattle.dir_model.specs.declared.spot.Which.{Which}
use Rattle.dir_model.specs.Between.{LockTold}
use Rattle.pod_locks.specs.Work.{Grew}
use Rattle.pod_locks.proofs.Times.{at_part}
use Rattle.pod_locks.proofs.Traces.{grown_none}
use Rattle.pod_locks.specs.Causes.{PodHeldByAnother, FreeOfOthers}

module _ {me other : ℕ} {a b c d : List Event} (ab : Grew a b) (same : other ≡ me) (cd : Grew c d) where
  pub held_within : {pod : PodId} {area : Area} {which : Which} {mode : Mode} → PodHeldByAnother pod area which mode other b c → PodHeldByAnother pod area which mode me a d
  held_within {pod} {area} {which} {mode} h =
      let g = subst (λ (p : ℕ). PodHeldByAnother pod area which mode p b c) same h in
      record { folder = g.folder; between = g.between; found = at_part ab refl grown_none g.found; held = at_part grown_none refl cd g.held }

  pub free_within : {pod : PodId} {area : Area} {which : Which} {mode : Mode} → FreeOfOthers pod area which mode other b c → FreeOfOthers pod area which mode me a d
  free_within {pod} {area} {which} {mode} h =
      let g = subst (λ (p : ℕ). FreeOfOthers pod area which mode p b c) same h in
      record { folder = g.folder; between = g.between; found = at_part ab refl grown_none g.found; free = at_part grown_none refl cd g.free }

  pub told_within : {spot : Spot} {owned : Bool} → LockTold other b c spot owned → LockTold me a d spot owned
  told_within {spot} {owned} h =
      let g = subst (λ (p : ℕ). LockTold p b c spot owned) same h in
      record { folder = g.folder; between = g.between; found = at_part ab refl grown_none g.found; told = at_part grown_none refl cd g.told }
