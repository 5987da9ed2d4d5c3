-- What a prepare answers, and what is open then.
use Rattle.std.specs.Prelude.{◌≡◌, Bool, true, false, cond, Result, Ok, Err, Some, List, ◌∷◌}
use Rattle.dir_model.specs.declared.area.Area.{Area}
use Rattle.dir_model.specs.declared.area.Area.TheVariants as area
use Rattle.dir_model.specs.declared.pod.PodId.{PodId}
use Rattle.dir_model.specs.declared.spot.Mode.TheVariants.{Exclusive}
use Rattle.dir_model.specs.Local.{Local}
use Rattle.dir_rules.specs.declared.standing.Held.{Held}
use Rattle.pod_build.specs.Progress.{and_own, own_held}
use Rattle.pod_locks.specs.Running.{IsOwned}
use Rattle.pod_build.specs.declared.error.BuildError.{BuildError}
use Rattle.pod_build.specs.declared.built.Built.{Built}
use Rattle.pod_build.specs.declared.built.Built.TheVariants.{Prepared, Running}

-- where the pod is brought
abbrev pub target : Bool → Area
target keep = cond keep area.Run area.Prepared

-- that pod, by the name that was drawn; and where it is kept, its own lock by a handle that wasn't open before
abbrev pub IsBuildAnswer : Bool → PodId → Local → Built → Type 0
IsBuildAnswer true draw m (Running owned) = IsOwned draw m owned
IsBuildAnswer false draw m (Prepared pod) = pod ≡ draw
IsBuildAnswer keep draw m built = ⊥

-- what is open
abbrev pub with_built : Local → PodId → Result Built BuildError → Local
with_built m draw (Ok (Running owned)) = and_own m draw owned.own
with_built m draw (Ok (Prepared pod)) = m
with_built m draw (Err error) = m

-- and what the maker knows to be open
abbrev pub held_with : PodId → Built → List Held → List Held
held_with draw (Running owned) hs = own_held draw owned.own (Some Exclusive) ∷ hs
held_with draw (Prepared pod) hs = hs
