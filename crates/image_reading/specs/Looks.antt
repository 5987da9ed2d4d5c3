-- What a process asks for that reads images, and what it knows afterwards.
use Rattle.std.specs.Prelude.{◌≡◌, Bool, true, false, ◌&&◌, is_some, List}
use Rattle.std.specs.List.{list_any}
use Rattle.ac_types.specs.declared.store_key.StoreKey.{StoreKey}
use Rattle.dir_model.specs.declared.area.Area.TheVariants.{Images}
use Rattle.dir_model.specs.declared.opening.Holding.{Holding}
use Rattle.dir_model.specs.declared.request.Request.{Request}
use Rattle.dir_model.specs.declared.request.Request.TheVariants.{ListArea, ListIn, ReadIn}
use Rattle.dir_model.specs.declared.spot.Handle.{Handle}
use Rattle.dir_model.specs.Local.{Local, is_handle_of}
use Rattle.dir_model.specs.Paths.{is_empty}
use Rattle.dir_model.specs.State.{spot_eq}
use Rattle.dir_rules.specs.declared.seen.Seen.{Seen}
use Rattle.dir_rules.specs.declared.seen.ShownArea.{ShownArea}
use Rattle.dir_rules.specs.Standing.{is_in, is_gate_of, excludes_area}
use Rattle.dir_trait.specs.DirCalls.{DirAt}
use Rattle.dir_trait.specs.Knowledge.{Knows}
use Rattle.dir_trait.specs.Effects.{OnlyAsksAndKeeps}
use Rattle.dir_files.specs.Reads.{KeepsKnown, may_read}
use Rattle.image_reading.specs.Places.{image_spot}

-- reads of the files of an image's folder, and listings of that folder
abbrev pub reads_image : StoreKey → Request → Bool
reads_image key (ReadIn inner at room) = spot_eq inner.spot (image_spot key)
reads_image key (ListIn inner) = spot_eq inner.spot (image_spot key) && is_empty inner.path
reads_image key _ = false

-- the same of any folder of the area, and listings of the area
abbrev pub reads_images : Request → Bool
reads_images (ReadIn inner at room) = is_in inner.spot.area Images
reads_images (ListIn inner) = is_in inner.spot.area Images && is_empty inner.path
reads_images (ListArea area) = is_in area Images
reads_images _ = false

-- nothing was asked for but this image, and whatever a process knew that holds the area's lock, it knows
abbrev pub OnlyReadsImage : Bool → StoreKey → DirAt → DirAt → Type 0
OnlyReadsImage observed key old new = OnlyAsksAndKeeps observed (reads_image key) (KeepsKnown Images) old new

-- whatever the process knew, it knows; but where it holds the area's lock exclusively, other names may be noted
pub record KnowsNamed (s : Seen) (new : DirAt) : Type 0 where
  pub areas : List ShownArea
  pub shared : excludes_area Images s.standing ≡ false → areas ≡ s.areas
  pub knows : Knows new (record s { areas = areas })

abbrev pub KeepsNamed : DirAt → DirAt → Type 0
KeepsNamed old new = (s : Seen) → may_read Images s.standing ≡ true → Knows old s → KnowsNamed s new

-- nothing was asked for but images and the names of the area
abbrev pub OnlyReadsImages : Bool → DirAt → DirAt → Type 0
OnlyReadsImages observed old new = OnlyAsksAndKeeps observed reads_images KeepsNamed old new

-- the handle is open on the lock of the area and holds it
abbrev pub is_images_lock : Handle → Holding → Bool
is_images_lock gate h = is_handle_of gate h && (is_gate_of Images h.target && is_some h.lock)

abbrev pub HoldsImages : Local → Handle → Type 0
HoldsImages m gate = list_any (is_images_lock gate) m.holdings ≡ true

-- whatever the process knew, it knows
abbrev pub KnowsStill : DirAt → DirAt → Type 0
KnowsStill old new = (s : Seen) → Knows old s → Knows new s

-- but for the names that may be noted
abbrev pub KnowsStillNamed : DirAt → DirAt → Type 0
KnowsStillNamed old new = (s : Seen) → Knows old s → KnowsNamed s new
