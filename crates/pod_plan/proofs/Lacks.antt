-- Which part of the store is lacking, at each place where a read may be refused.
use Rattle.std.proofs.Common.{◌≡◌, inl, ◌+◌, ◌<◌, ℕ, Bool, true, List, [], ◌∷◌, take, drop, get_or, length, subst}
use Rattle.std.specs.List.{AllZip, AllByRecursion}
use Rattle.ac_types.specs.declared.store_key.StoreKey.{StoreKey}
use Rattle.path_map.specs.Entries.{Entries}
use Rattle.dep_match.specs.declared.stored.Stored.{Stored}
use Rattle.dir_model.specs.declared.request.Request.{Request}
use Rattle.dir_trait.specs.DirCalls.{DirAt}
use Rattle.dir_trait.specs.Effects.{OnlyAsksAndKeeps}
use Rattle.image_reading.specs.declared.error.StoreError.{StoreError}
use Rattle.image_reading.specs.declared.error.StoreError.TheVariants.{Damaged, DirFault, NoMemory}
use Rattle.image_reading.specs.Places.{stored_path, manifest_name, tree_name}
use Rattle.image_reading.specs.Refusals.{IsReadRefusal, IsDamaged}
use Rattle.image_reading.specs.Files.{ReadsNoImageManifest, LacksTree}
use Rattle.image_reading.specs.Store.{IsStorePath, LacksStore}
use Rattle.image_reading.proofs.Widths.{file_after, file_before}
use Rattle.image_reading.proofs.Images.{tree_lack_after, manifest_lack_after}
use Rattle.pod_plan.proofs.Mapped.{split_at}
use Rattle.pod_plan.specs.declared.images.StoreImages.{StoreImages}
use Rattle.pod_plan.specs.Readings.{ReadsManifestBytes, HasTree, HaveManifests, KnowsTree, IsReadAgain}
use Rattle.pod_plan.specs.PlanRefusals.{IsStoreLack, LacksTreeAt, LacksManifestAt, HasSomeManifest, LacksAmong, ReadsLackingPart}

module _ {observed : Bool} {asks : Request → Bool} {Keeps : DirAt → DirAt → Type 0} (t : observed ≡ true) where
  pub tree_after : (key : StoreKey) (map : Entries) {a b c : DirAt} → OnlyAsksAndKeeps observed asks Keeps a b → HasTree key map b c → HasTree key map a c
  tree_after key map ab h = (h.0, file_after t ab h.1, h.2)

  pub tree_before : (key : StoreKey) (map : Entries) {a b c : DirAt} → HasTree key map a b → OnlyAsksAndKeeps observed asks Keeps b c → HasTree key map a c
  tree_before key map h bc = (h.0, file_before t h.1 bc, h.2)

  pub manifest_at_after : (key : StoreKey) (path : List ℕ) {a b : DirAt} (c : DirAt) → OnlyAsksAndKeeps observed asks Keeps a b → LacksManifestAt key path b c → LacksManifestAt key path a c
  manifest_at_after key path c ab x = (x.0, manifest_lack_after t key c ab x.1)

  pub tree_lack_since : (key : StoreKey) (path : List ℕ) {a b : DirAt} (c : DirAt) → OnlyAsksAndKeeps observed asks Keeps a b → LacksTreeAt key path b c → LacksTreeAt key path a c
  tree_lack_since key path c ab x = (x.0, tree_lack_after t key c ab x.1)

-- what was known of a tree is known still, and what came to be known later too
module _ {observed : Bool} {asks : Request → Bool} {Keeps : DirAt → DirAt → Type 0} (key : StoreKey) (map : Entries) {a b c : DirAt} where
  pub tree_since : OnlyAsksAndKeeps observed asks Keeps a b → KnowsTree observed key map b c → KnowsTree observed key map a c
  tree_since ab h = record { kind = h.kind; listable = h.listable; read = λ t. tree_after t key map ab (h.read t) }

  pub tree_later : KnowsTree observed key map a b → OnlyAsksAndKeeps observed asks Keeps b c → KnowsTree observed key map a c
  tree_later h bc = record { kind = h.kind; listable = h.listable; read = λ t. tree_before t key map (h.read t) bc }

module _ {observed : Bool} (key : StoreKey) {a b : DirAt} where
  pub tree_lack : (e : StoreError) → IsReadRefusal (λ path. path ≡ stored_path key tree_name) e → (IsDamaged e → observed ≡ true → LacksTree key a b) → IsStoreLack observed (λ path. LacksTreeAt key path a b) e
  tree_lack (Damaged path) at lacks = λ t. (at, lacks tt t)
  tree_lack DirFault at lacks = tt
  tree_lack NoMemory at lacks = tt
  tree_lack e at lacks = absurd at

  pub manifest_lack : (e : StoreError) → IsReadRefusal (λ path. path ≡ stored_path key manifest_name) e → (IsDamaged e → observed ≡ true → ReadsNoImageManifest key a b) → IsStoreLack observed (λ path. LacksManifestAt key path a b) e
  manifest_lack (Damaged path) at lacks = λ t. (at, lacks tt t)
  manifest_lack DirFault at lacks = tt
  manifest_lack NoMemory at lacks = tt
  manifest_lack e at lacks = absurd at

-- an image couldn't be listed
pub listing_lack : {observed : Bool} (a b : DirAt) (e : StoreError) → IsReadRefusal IsStorePath e → (observed ≡ true → LacksStore e a b) → IsStoreLack observed (λ path. ReadsLackingPart path a b) e
listing_lack a b (Damaged path) at lacks = λ t. inl (lacks t tt)
listing_lack a b DirFault at lacks = tt
listing_lack a b NoMemory at lacks = tt
listing_lack a b e at lacks = absurd at

-- the manifests that were read are those of the images that were listed
listed_manifests : (a b : DirAt) (listed images : List Stored) (manifests : List (List ℕ)) → AllZip IsReadAgain listed images → HaveManifests images manifests a b → AllByRecursion (λ (i : Stored). HasSomeManifest i a b) listed
listed_manifests a b [] images manifests same are = tt
listed_manifests a b (l ∷ listed) [] manifests same are = absurd same
listed_manifests a b (l ∷ listed) (i ∷ images) [] same are = absurd are
listed_manifests a b (l ∷ listed) (i ∷ images) (m ∷ manifests) same are =
    (record { manifest = i.manifest; bytes = m; read = subst (λ (x : Stored). ReadsManifestBytes x m a b) same.0 are.0 }, listed_manifests a b listed images manifests same.1 are.1)

-- one of the images that were listed lacks its own
pub lack_among : (listed : List Stored) (i : ℕ) (image : Stored) → i < length listed → image ≡ get_or listed i image → {a : DirAt} (c : DirAt) (read : StoreImages) → AllZip IsReadAgain (take i listed) read.images.items
    → HaveManifests read.images.items read.manifests.items a c → (path : List ℕ) → LacksManifestAt image.key path a c → LacksAmong listed path a c
lack_among listed i image more is {a} c read same manifests path lacks = record {
  before = take i listed;
  image = image;
  after = drop (i + 1) listed;
  is = split_at listed i image image more is;
  earlier = listed_manifests a c (take i listed) read.images.items read.manifests.items same manifests;
  lacks = lacks;
}

-- the images were listed before
module _ {observed : Bool} {asks : Request → Bool} {Keeps : DirAt → DirAt → Type 0} (t : observed ≡ true) where
  earlier_manifests : {a b : DirAt} (c : DirAt) (images : List Stored) → OnlyAsksAndKeeps observed asks Keeps a b → AllByRecursion (λ (i : Stored). HasSomeManifest i b c) images → AllByRecursion (λ (i : Stored). HasSomeManifest i a c) images
  earlier_manifests c [] ab all = tt
  earlier_manifests c (i ∷ images) ab all = (record { manifest = all.0.manifest; bytes = all.0.bytes; read = file_after t ab all.0.read }, earlier_manifests c images ab all.1)

  pub among_after : {a b : DirAt} (c : DirAt) (images : List Stored) (path : List ℕ) → OnlyAsksAndKeeps observed asks Keeps a b → LacksAmong images path b c → LacksAmong images path a c
  among_after c images path ab l = record { before = l.before; image = l.image; after = l.after; is = l.is; earlier = earlier_manifests c l.before ab l.earlier; lacks = manifest_at_after t l.image.key path c ab l.lacks }
