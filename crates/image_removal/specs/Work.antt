-- What a process knows that removes an image or sweeps.
use Rattle.std.specs.Prelude.{◌≡◌, true, false}
use Rattle.std.specs.List.{list_any}
use Rattle.dir_model.specs.declared.area.Area.{Area}
use Rattle.dir_model.specs.declared.area.Area.TheVariants.{Incoming, Images, Removed}
use Rattle.dir_model.specs.declared.pod.PodId.{PodId}
use Rattle.dir_model.specs.Pods.{pod_text}
use Rattle.dir_model.specs.State.{spot_eq}
use Rattle.dir_rules.specs.declared.seen.Seen.{Seen}
use Rattle.dir_rules.specs.Standing.{is_in, is_image_rm, is_image_remover, began_as, draws, excludes_area}
use Rattle.dir_trait.specs.DirCalls.{DirAt}
use Rattle.dir_trait.specs.Knowledge.{Knows}
use Rattle.dir_files.specs.AreaLocks.{is_free_of}
use Rattle.image_removal.specs.Requests.{away_spot}

-- it knows of nothing that stands in the folders of removed
abbrev pub IsBareOfRemoved : Seen → Type 0
IsBareOfRemoved s = list_any (λ i. is_in i.inner.spot.area Removed) s.items ≡ false

-- it holds the area's lock exclusively
pub record HoldsArea (area : Area) (s : Seen) : Type 0 where
  pub held : excludes_area area s.standing ≡ true
  pub bare : IsBareOfRemoved s

-- and may put an image away under its draw's name
pub record MayPutAway (draw : PodId) (s : Seen) : Type 0 where
  pub held : excludes_area Images s.standing ≡ true
  pub drawn : draws (pod_text draw.bytes) s.standing ≡ true
  pub fresh : list_any (spot_eq (away_spot draw)) s.put_away ≡ false
  pub bare : IsBareOfRemoved s

-- it has begun the removal of an image with this draw, has no handle on the locks that it takes, and has put nothing away
pub record MayRemoveImage (draw : PodId) (s : Seen) : Type 0 where
  pub kind : began_as is_image_rm s.standing ≡ true
  pub drawn : draws (pod_text draw.bytes) s.standing ≡ true
  pub images : is_free_of Images s ≡ true
  pub removed : is_free_of Removed s ≡ true
  pub fresh : list_any (spot_eq (away_spot draw)) s.put_away ≡ false
  pub bare : IsBareOfRemoved s

-- it has begun a command that removes images, and has no handle on the area's lock
pub record MayPassStore (area : Area) (s : Seen) : Type 0 where
  pub kind : began_as is_image_remover s.standing ≡ true
  pub free : is_free_of area s ≡ true
  pub bare : IsBareOfRemoved s

-- it has begun such a command, and has no handle on the locks that a sweep takes
pub record MaySweepStore (s : Seen) : Type 0 where
  pub kind : began_as is_image_remover s.standing ≡ true
  pub incoming : is_free_of Incoming s ≡ true
  pub removed : is_free_of Removed s ≡ true
  pub bare : IsBareOfRemoved s

-- it has what it had open, and each of its requests was allowed, if those before were
pub record KeepsStandingAndRules (s : Seen) (new : DirAt) : Type 0 where
  pub known : Seen
  pub standing : known.standing ≡ s.standing
  pub kept : known.kept ≡ s.kept
  pub knows : Knows new known

-- and again it knows of nothing in the folders of removed
pub record StaysBare (s : Seen) (new : DirAt) : Type 0 where
  pub known : Seen
  pub standing : known.standing ≡ s.standing
  pub kept : known.kept ≡ s.kept
  pub bare : IsBareOfRemoved known
  pub knows : Knows new known

-- wherever a process knows this, it then stays so
abbrev pub Stays : (Seen → Type 0) → (Seen → DirAt → Type 0) → DirAt → DirAt → Type 0
Stays May Then old new = (s : Seen) → Knows old s → May s → Then s new
