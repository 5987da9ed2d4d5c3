-- All images of the store.
use Rattle.std.specs.Prelude.{◌≡◌, ℕ, Option, Some, None, List, [], ◌∷◌, ◌++◌, map}
use Rattle.std.specs.List.{AllByRecursion}
use Rattle.std.specs.List.Sorted.{IsStrictlySortedBy}
use Rattle.std.specs.Ordering.{nat_cmp}
use Rattle.std.specs.Cmp.Lexicographic.{slice_cmp}
use Rattle.ac_types.specs.declared.store_key.StoreKey.{StoreKey}
use Rattle.dep_match.specs.declared.stored.Stored.{Stored}
use Rattle.dir_model.specs.declared.area.Area.TheVariants.{Images}
use Rattle.dir_trait.specs.DirCalls.{DirAt}
use Rattle.dir_files.specs.Listed.{ShowsAreaBetween}
use Rattle.image_reading.specs.declared.error.StoreError.{StoreError}
use Rattle.image_reading.specs.Within.{Within}
use Rattle.image_reading.specs.Places.{keys_among}
use Rattle.image_reading.specs.Refusals.{IsDamaged, IsImagePath}
use Rattle.image_reading.specs.Images.{ReadsImage, LacksImage}

abbrev pub keys : List Stored → List StoreKey
keys images = map (λ (image : Stored). image.key) images

-- an image was added that was read so; for no key nothing was
abbrev pub AddsImage : Option StoreKey → List Stored → List Stored → DirAt → DirAt → Type 0
AddsImage None before after old new = after ≡ before
AddsImage (Some key) before after old new = (image : Stored) × (after ≡ before ++ image ∷ []) × (image.key ≡ key) × ReadsImage image old new

-- these are the images of the keys, and each was read
pub record AreRead (names : List (List ℕ)) (images : List Stored) (old new : DirAt) : Type 0 where
  pub of_names : keys images ≡ keys_among names
  pub each : AllByRecursion (λ image. ReadsImage image old new) images

-- the area was listed, its names in byte order, and the images are those of the keys among its names
pub record ReadsStore (images : List Stored) (old new : DirAt) : Type 0 where
  pub names : List (List ℕ)
  pub ordered : IsStrictlySortedBy (slice_cmp nat_cmp) names
  pub shown : Within (λ first last. ShowsAreaBetween first last Images names) old new
  pub read : AreRead names images old new

-- the path is of a file of some image
abbrev pub IsStorePath : List ℕ → Type 0
IsStorePath path = (key : StoreKey) × IsImagePath key path

-- the image of the key lacks what the error says; of no key nothing does
abbrev pub LacksNamed : Option StoreKey → StoreError → DirAt → DirAt → Type 0
LacksNamed None error old new = ⊥
LacksNamed (Some key) error old new = LacksImage key error old new

-- one of the images of the names lacks it, and it is the first: each of those before was read
pub record LacksFirst (names : List (List ℕ)) (error : StoreError) (old new : DirAt) : Type 0 where
  pub before : List Stored
  pub key : StoreKey
  pub after : List StoreKey
  pub is : keys_among names ≡ keys before ++ key ∷ after
  pub earlier : AllByRecursion (λ image. ReadsImage image old new) before
  pub lacks : LacksImage key error old new

-- the area was listed, its names in byte order, and the first image among them that isn't whole lacks it
pub record LacksListed (error : StoreError) (old new : DirAt) : Type 0 where
  pub names : List (List ℕ)
  pub ordered : IsStrictlySortedBy (slice_cmp nat_cmp) names
  pub shown : Within (λ first last. ShowsAreaBetween first last Images names) old new
  pub first : LacksFirst names error old new

-- where the error says that a file is damaged, it is so
abbrev pub LacksStore : StoreError → DirAt → DirAt → Type 0
LacksStore error old new = IsDamaged error → LacksListed error old new
