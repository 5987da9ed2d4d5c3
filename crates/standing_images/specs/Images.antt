-- Images that stand together at one moment.
use Rattle.std.specs.Prelude.{◌≡◌, ℕ, ◌≤◌, true, Some, List, [], ◌∷◌, ◌++◌, map, Contains}
use Rattle.std.specs.List.{AllByRecursion}
use Rattle.std.specs.List.Sorted.{IsStrictlySortedBy}
use Rattle.std.specs.Ordering.{nat_cmp}
use Rattle.std.specs.Cmp.Lexicographic.{slice_cmp}
use Rattle.ac_types.specs.declared.store_key.StoreKey.{StoreKey}
use Rattle.ac_types.specs.Ids.{id_text, AreBytes}
use Rattle.dep_match.specs.declared.stored.Stored.{Stored}
use Rattle.dir_model.specs.declared.area.Area.TheVariants.{Images}
use Rattle.dir_model.specs.declared.event.Event.{Event}
use Rattle.dir_model.specs.declared.request.Request.TheVariants.{ListArea}
use Rattle.dir_model.specs.declared.request.Reply.TheVariants.{Begun}
use Rattle.dir_model.specs.declared.spot.Spot.{Spot}
use Rattle.dir_model.specs.State.{DirState, folder_at}
use Rattle.dir_model.specs.Trace.{state_after}
use Rattle.dir_rules.specs.Standing.{is_in}
use Rattle.dir_model.specs.Calls.{AtOwnStep, event}
use Rattle.dir_files.specs.Reads.{file_at}
use Rattle.folder_contents.specs.Entries.{entries_in}
use Rattle.folder_contents.specs.UnderGate.{shares_images, KnowsAlong}
use Rattle.gate_reading.specs.Listings.{has_direct}
use Rattle.image_reading.specs.Places.{image_spot, image_inner, manifest_name, id_name, IsPresent}
use Rattle.image_reading.specs.Files.{IsImageManifestOf, IsIdOf}
use Rattle.image_reading.specs.Marks.{imported_moment}
use Rattle.image_reading.specs.Store.{keys}

-- a file of this name stands in the image's folder, and this holds of its bytes
pub record HasFile (key : StoreKey) (name : List ℕ) (P : List ℕ → Type 0) (s : DirState) : Type 0 where
  pub bytes : List ℕ
  pub there : file_at s (image_inner key name) ≡ Some bytes
  pub holds : P bytes

-- a mark of this moment stands directly in the folder
pub record HasMark (folder moment : ℕ) (s : DirState) : Type 0 where
  pub name : List ℕ
  pub is : imported_moment name ≡ Some moment
  pub there : has_direct (entries_in folder s.entries) name ≡ true

-- the image stands so: there is its folder, the manifest and the ID are those of its files, and the moment is the greatest of
-- its marks
pub record StandsWithItsFiles (image : Stored) (s : DirState) : Type 0 where
  pub folder : ℕ
  pub here : folder_at s.namespace (image_spot image.key) ≡ Some folder
  pub manifest : HasFile image.key manifest_name (IsImageManifestOf image.manifest) s
  pub id : HasFile image.key id_name (IsIdOf image.key image.id) s
  pub mark : HasMark folder image.moment s
  pub newest : (moment : ℕ) → HasMark folder moment s → moment ≤ image.moment

-- each of these images stands so
abbrev pub StandTogether : List Stored → DirState → Type 0
StandTogether images s = AllByRecursion (λ image. StandsWithItsFiles image s) images

-- each image that stands is of one of these keys
abbrev pub AreAll : List StoreKey → DirState → Type 0
AreAll ks s = (key : StoreKey) → AreBytes 32 key.bytes → IsPresent key s → Contains ks key

-- the texts of the keys are in byte order, and no key comes twice
abbrev pub KeysRise : List StoreKey → Type 0
KeysRise ks = IsStrictlySortedBy (slice_cmp nat_cmp) (map (λ (key : StoreKey). id_text key.bytes) ks)

-- just after one own event between these two moments the images stood together, and they are all that stood when the listing of
-- the area had begun, by an earlier own event. From the one to the other the process lives and has the gate
pub record StoodTogether (images : List Stored) (me : ℕ) (old new : List Event) : Type 0 where
  pub stood : AtOwnStep me old new (StandTogether images)
  pub listed : AtOwnStep me old stood.before (AreAll (keys images))
  pub begins : listed.step ≡ event me (ListArea Images) Begun
  pub gate : KnowsAlong shares_images me (listed.before ++ listed.step ∷ []) (listed.rest ++ stood.step ∷ [])
  pub rise : KeysRise (keys images)

-- these images are the store: they stand, and no other does
pub record AreStore (images : List Stored) (s : DirState) : Type 0 where
  pub together : StandTogether images s
  pub all : AreAll (keys images) s
  pub rise : KeysRise (keys images)

-- the images are as they were: the same folders stand, and hold the same
pub record SameImages (old new : DirState) : Type 0 where
  pub places : (spot : Spot) → is_in Images spot.area ≡ true → folder_at new.namespace spot ≡ folder_at old.namespace spot
  pub trees :
      (spot : Spot) (folder : ℕ) → is_in Images spot.area ≡ true → folder_at old.namespace spot ≡ Some folder →
      entries_in folder new.entries ≡ entries_in folder old.entries

-- they are so at each moment between these two
abbrev pub ImagesStay : List Event → List Event → Type 0
ImagesStay old new = (more rest : List Event) → new ≡ (old ++ more) ++ rest → SameImages (state_after old) (state_after (old ++ more))
