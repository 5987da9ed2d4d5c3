-- What is seen of a stored image where it is copied.
use Rattle.std.specs.Prelude.{ℕ}
use Rattle.ac_types.specs.declared.image_id.ImageId.{ImageId}
use Rattle.ac_types.specs.declared.store_key.StoreKey.{StoreKey}
use Rattle.manifests.specs.ImageData.{ImageData, image_data}
use Rattle.dep_match.specs.declared.stored.Stored.{Stored}

-- its key, its ID, what its manifest shows, and its moment
pub record StoredData : Type 0 where
  pub key : StoreKey
  pub id : ImageId
  pub manifest : ImageData
  pub moment : ℕ

abbrev pub stored_data : Stored → StoredData
stored_data s = record { key = s.key; id = s.id; manifest = image_data s.manifest; moment = s.moment }
