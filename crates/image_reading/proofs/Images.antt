-- Several files of an image, read one after the other.
use Rattle.std.proofs.Common.{◌≡◌, inl, inr, Bool, true, List, ℕ}
use Rattle.ac_types.specs.declared.store_key.StoreKey.{StoreKey}
use Rattle.dep_match.specs.declared.stored.Stored.{Stored}
use Rattle.dir_model.specs.declared.request.Request.{Request}
use Rattle.dir_trait.specs.DirCalls.{DirAt}
use Rattle.dir_trait.specs.Effects.{OnlyAsksAndKeeps}
use Rattle.image_reading.specs.declared.error.StoreError.{StoreError}
use Rattle.image_reading.specs.declared.error.StoreError.TheVariants.{Damaged}
use Rattle.image_reading.specs.declared.file.KeptManifest.{KeptManifest}
use Rattle.image_reading.specs.Places.{stored_path, image_inner, manifest_name, id_name, tree_name, mark_name}
use Rattle.image_reading.specs.Looks.{OnlyReadsImage}
use Rattle.image_reading.specs.Refusals.{IsReadRefusal, IsDamaged}
use Rattle.image_reading.specs.Files.{most_of_id, IsNoImageManifest, IsNoId, IsNoListing, ReadsKept, ReadsImageManifest, ReadsNoImageManifest, LacksId, LacksTree, LacksMoment}
use Rattle.image_reading.specs.Images.{ReadsParts, ReadsImage, ReadsSomeManifest, ReadsSomeId, LacksInTurn, IsFirstLack, LacksImage, LacksDigest}
use Rattle.image_reading.proofs.Widths.{held_after, file_after, file_before, lack_after, lack_before, marks_after, marks_before}
use Rattle.manifests.specs.ManifestSize.{most_of_manifest}
use Rattle.tree_digest.specs.ListingSize.{most_of_tree}

pub manifest_kept : (key : StoreKey) {old new : DirAt} (kept : KeptManifest) → ReadsKept key kept old new → ReadsImageManifest key kept.manifest old new
manifest_kept key kept r = record { bytes = r.bytes; few = r.few; read = r.read; holds = r.holds.1 }

module _ {observed : Bool} {asks : Request → Bool} {Keeps : DirAt → DirAt → Type 0} (t : observed ≡ true) where
  pub moment_lack_after : (key : StoreKey) {a b : DirAt} (c : DirAt) → OnlyAsksAndKeeps observed asks Keeps a b → LacksMoment key b c → LacksMoment key a c
  moment_lack_after key c ab (inl absent) = inl (held_after t c ab absent)
  moment_lack_after key c ab (inr shown) = inr (marks_after t ab shown)

  pub manifest_lack_after : (key : StoreKey) {a b : DirAt} (c : DirAt) → OnlyAsksAndKeeps observed asks Keeps a b → ReadsNoImageManifest key b c → ReadsNoImageManifest key a c
  manifest_lack_after key c ab l = lack_after t (image_inner key manifest_name) most_of_manifest IsNoImageManifest c ab l

  pub id_lack_after : (key : StoreKey) {a b : DirAt} (c : DirAt) → OnlyAsksAndKeeps observed asks Keeps a b → LacksId key b c → LacksId key a c
  id_lack_after key c ab l = lack_after t (image_inner key id_name) most_of_id (IsNoId key) c ab l

  pub tree_lack_after : (key : StoreKey) {a b : DirAt} (c : DirAt) → OnlyAsksAndKeeps observed asks Keeps a b → LacksTree key b c → LacksTree key a c
  tree_lack_after key c ab l = lack_after t (image_inner key tree_name) most_of_tree IsNoListing c ab l

  pub tree_lack_before : (key : StoreKey) (a : DirAt) {b c : DirAt} → b.process ≡ a.process → LacksTree key a b → OnlyAsksAndKeeps observed asks Keeps b c → LacksTree key a c
  tree_lack_before key a same l bc = lack_before t (image_inner key tree_name) most_of_tree IsNoListing a same l bc

  turn_after : (key : StoreKey) (third : List ℕ) (LacksThird : DirAt → DirAt → Type 0) (path : List ℕ) {a b : DirAt} (c : DirAt) → OnlyAsksAndKeeps observed asks Keeps a b → (LacksThird b c → LacksThird a c) → LacksInTurn key third LacksThird path b c → LacksInTurn key third LacksThird path a c
  turn_after key third LacksThird path c ab f (inl x) = inl (x.0, manifest_lack_after key c ab x.1)
  turn_after key third LacksThird path c ab f (inr (inl x)) = inr (inl (x.0, (x.1.0, file_after t ab x.1.1), id_lack_after key c ab x.2))
  turn_after key third LacksThird path c ab f (inr (inr x)) = inr (inr (x.0, (x.1.0, file_after t ab x.1.1), (x.2.0, file_after t ab x.2.1), f x.3))

  pub image_lack_after : (key : StoreKey) (e : StoreError) {a b : DirAt} (c : DirAt) → OnlyAsksAndKeeps observed asks Keeps a b → LacksImage key e b c → LacksImage key e a c
  image_lack_after key (Damaged path) c ab l = turn_after key mark_name (LacksMoment key) path c ab (moment_lack_after key c ab) l
  image_lack_after key e c ab l = tt

  pub digest_lack_after : (key : StoreKey) (e : StoreError) {a b : DirAt} (c : DirAt) → OnlyAsksAndKeeps observed asks Keeps a b → LacksDigest key e b c → LacksDigest key e a c
  digest_lack_after key (Damaged path) c ab l = turn_after key tree_name (LacksTree key) path c ab (tree_lack_after key c ab) l
  digest_lack_after key e c ab l = tt

  -- the image was read in a part of the time
  pub image_after : {image : Stored} {a b c : DirAt} → OnlyAsksAndKeeps observed asks Keeps a b → ReadsImage image b c → ReadsImage image a c
  image_after ab r = record { manifest = file_after t ab r.manifest; id = file_after t ab r.id; moment = marks_after t ab r.moment }

  pub image_before : {image : Stored} {a b c : DirAt} → ReadsImage image a b → OnlyAsksAndKeeps observed asks Keeps b c → ReadsImage image a c
  image_before r bc = record { manifest = file_before t r.manifest bc; id = file_before t r.id bc; moment = marks_before t r.moment bc }

-- the first of the three that an error tells of
module _ (key : StoreKey) (third : List ℕ) (LacksThird : DirAt → DirAt → Type 0) {old new : DirAt} where
  pub lacks_first : (e : StoreError) → IsReadRefusal (λ path. path ≡ stored_path key manifest_name) e → (IsDamaged e → ReadsNoImageManifest key old new) → IsFirstLack key third LacksThird e old new
  lacks_first (Damaged path) at lacks = inl (at, lacks tt)
  lacks_first e at lacks = tt

  pub lacks_second : (e : StoreError) → ReadsSomeManifest key old new → IsReadRefusal (λ path. path ≡ stored_path key id_name) e → (IsDamaged e → LacksId key old new) → IsFirstLack key third LacksThird e old new
  lacks_second (Damaged path) has at lacks = inr (inl (at, has, lacks tt))
  lacks_second e has at lacks = tt

  pub lacks_third : (e : StoreError) → ReadsSomeManifest key old new → ReadsSomeId key old new → IsReadRefusal (λ path. path ≡ stored_path key third) e → (IsDamaged e → LacksThird old new) → IsFirstLack key third LacksThird e old new
  lacks_third (Damaged path) has both at lacks = inr (inr (at, has, both, lacks tt))
  lacks_third e has both at lacks = tt

-- the digest of parts that were read in a part of the time
pub parts_after : {observed : Bool} {key : StoreKey} {digest : List ℕ} {a b c : DirAt} → observed ≡ true → OnlyReadsImage observed key a b → ReadsParts key digest b c → ReadsParts key digest a c
parts_after t ab p = record { kept = p.kept; id = p.id; lines = p.lines; manifest = file_after t ab p.manifest; id_file = file_after t ab p.id_file; tree = file_after t ab p.tree; is = p.is }
