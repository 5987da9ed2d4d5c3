-- Locations that are one, and looks at locations.
use Rattle.std.proofs.Common.{◌≡◌, Bool, true, ◌==◌, bytes_eq, refl}
use Rattle.std.proofs.lemmas.Slice.Eq.{bytes_eq-Decides}
use Rattle.dir_model.specs.declared.spot.Spot.{Spot}
use Rattle.dir_model.specs.declared.spot.Mode.TheVariants.{Shared, Exclusive}
use Rattle.dir_model.specs.declared.request.Request.{Request}
use Rattle.dir_model.specs.declared.request.Request.TheVariants.{Open, TryLock, Close}
use Rattle.dir_model.specs.Areas.{rank}
use Rattle.dir_model.specs.State.{spot_eq}
use Rattle.dir_model.specs.Replies.{is_look_at}
use Rattle.dir_model.proofs.Lists.{and_both, same_self}

pub spot_self : (spot : Spot) → spot_eq spot spot ≡ true
spot_self spot = and_both (rank spot.area == rank spot.area) (bytes_eq spot.name spot.name) (same_self (rank spot.area)) ((bytes_eq-Decides spot.name spot.name).1 refl)

-- a look at some locations is one at more
pub look_wider : (test wider : Spot → Bool) → ((spot : Spot) → test spot ≡ true → wider spot ≡ true) → (r : Request) → is_look_at test r ≡ true → is_look_at wider r ≡ true
look_wider test wider f (Open spot which) is = f spot is
look_wider test wider f (TryLock handle Shared) is = refl
look_wider test wider f (TryLock handle Exclusive) is = is
look_wider test wider f (Close handle) is = refl
look_wider test wider f _ is = is
