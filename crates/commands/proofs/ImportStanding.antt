-- What an import read of the image at one key was so of the state before, while the images stay as they are.
use Rattle.std.proofs.Common.{arith, ◌≡◌, inl, inr, ℕ, Some, List, [], ◌∷◌, refl, sym, ap, subst, ◌∙◌}
use Rattle.std.proofs.lemmas.List.{append_cancel_right}
use Rattle.ac_types.specs.declared.store_key.StoreKey.{StoreKey}
use Rattle.ac_types.specs.declared.image_id.ImageId.{ImageId}
use Rattle.ac_types.specs.Ids.{id_text, id_read}
use Rattle.ac_types.proofs.IdTexts.{text_read}
use Rattle.tree_digest.specs.declared.line.ListingLine.{ListingLine}
use Rattle.tree_digest.specs.Digests.{image_digest}
use Rattle.tree_digest.specs.Listings.{Fails}
use Rattle.listing_laws.proofs.Faults.{a_listing_has_no_fault}
use Rattle.listing_laws.proofs.OneText.{no_two_listings_have_one_text}
use Rattle.dir_model.specs.State.{DirState}
use Rattle.dir_model.specs.Trace.{state_after}
use Rattle.dir_trait.specs.DirCalls.{DirAt, HeldBetween}
use Rattle.manifests.specs.ImageData.{image_data}
use Rattle.image_reading.specs.Within.{Within}
use Rattle.image_reading.specs.Places.{image_inner, manifest_name, id_name, tree_name, IsImageAbsent, IsPresent}
use Rattle.image_reading.specs.Files.{IsKeptOf, IsIdOf, IsListingOf, IsNoImageManifest, IsNoId, IsNoListing, LacksTree, most_of_id}
use Rattle.image_reading.specs.Images as read
use Rattle.image_reading.proofs.Values.{manifest_front, tree_front, no_tree_front}
use Rattle.image_store.specs.Causes.{LacksThere, WasThere}
use Rattle.standing_images.specs.Images.{ImagesStay, HasFile}
use Rattle.standing_images.specs.Damage.{LacksPart}
use Rattle.standing_images.proofs.Before.{absent_before, present_before, front_before, id_before}
use Rattle.standing_images.proofs.Damages.{lacks_file, lacks_manifest, lacks_id, has_manifest, has_id}
use Rattle.standing_images.proofs.OneDamage.{one_part}
use Rattle.commands.specs.ImageImportTable.{IsAnyListing, HasListing, StandsWithDigest, IsDamagedAt, HasOneDigest, IsDamagedOnce}
use Rattle.commands.proofs.Parts.{Part, held_wider, file_wider, lack_wider}
use Rattle.manifests.specs.ManifestSize.{most_of_manifest}
use Rattle.tree_digest.specs.ListingSize.{most_of_tree}

-- one file stands at a path
one_file : {key : StoreKey} {name : List ℕ} {P Q : List ℕ → Type 0} {s : DirState} (x : HasFile key name P s) (y : HasFile key name Q s) → x.bytes ≡ y.bytes
one_file x y = let same : Some x.bytes ≡ Some y.bytes = sym x.there ∙ y.there in cc

-- so one digest is the image's
one_id : (key : StoreKey) (a b : ImageId) (bytes other : List ℕ) → IsIdOf key a bytes → IsIdOf key b other → bytes ≡ other → a ≡ b
one_id key a b bytes other x y same =
    let texts = append_cancel_right (id_text a.bytes) (id_text b.bytes) (10 ∷ []) (sym x.text ∙ (same ∙ y.text)) in
    let read : Some a.bytes ≡ Some b.bytes = sym (text_read 64 a.bytes x.kind) ∙ (ap (id_read 64) texts ∙ text_read 64 b.bytes y.kind) in
    let one : a.bytes ≡ b.bytes = cc in
    ap (λ (l : List ℕ). let id : ImageId = record { bytes = l } in id) one

one_digest : (key : StoreKey) (a b : List ℕ) (s : DirState) → StandsWithDigest key a s → StandsWithDigest key b s → a ≡ b
one_digest key a b s x y =
    let ids : x.id ≡ y.id = one_id key x.id y.id x.id_file.bytes y.id_file.bytes x.id_file.holds y.id_file.holds (one_file x.id_file y.id_file) in
    let lists : x.lines ≡ y.lines = no_two_listings_have_one_text x.lines y.lines x.listing.holds.kind.follow y.listing.holds.kind.follow
    (sym x.listing.holds.text ∙ (one_file x.listing y.listing ∙ y.listing.holds.text)) in
    x.is
    ∙ (ap (λ (id : ImageId). image_digest id x.manifest.bytes x.lines) ids
    ∙ (ap (λ (bytes : List ℕ). image_digest y.id bytes x.lines) (one_file x.manifest y.manifest)
    ∙ (ap (λ (lines : List ListingLine). image_digest y.id y.manifest.bytes lines) lists ∙ sym y.is)))

-- an image with a digest lacks nothing
whole : (key : StoreKey) (digest path : List ℕ) (s : DirState) → StandsWithDigest key digest s → LacksPart key tree_name (HasListing key s) path s → ⊥
whole key digest path s x (inl l) = l.1 x.manifest
whole key digest path s x (inr (inl l)) = l.2 (record { bytes = x.id_file.bytes; there = x.id_file.there; holds = (x.id, x.id_file.holds) })
whole key digest path s x (inr (inr l)) = l.3 (record { bytes = x.listing.bytes; there = x.listing.there; holds = (x.lines, x.listing.holds) })

pub digest_once : (key : StoreKey) (digest : List ℕ) (s : DirState) → StandsWithDigest key digest s → HasOneDigest key digest s
digest_once key digest s x = record {
  is = x;
  only = λ other y. one_digest key digest other s x y;
  whole = λ path damaged. whole key digest path s x damaged.lacks;
}

pub damaged_once : (key : StoreKey) (path : List ℕ) (s : DirState) → IsDamagedAt key path s → IsDamagedOnce key path s
damaged_once key path s x = record {
  is = x;
  only = λ other y. one_part s key tree_name (HasListing key s) path other x.lacks y.lacks;
  none = λ digest y. whole key digest path s y x.lacks;
}

-- what is told within a time is told of it
module _ {old new : DirAt} {R : DirAt → DirAt → Type 0} (w : Within R old new) where
  part_of : Part old w.first w.last new
  part_of = record { earlier = w.earlier; later = w.later; same = w.same; begins = w.begins; ends = w.ends }

digest_wider : (key : StoreKey) (digest : List ℕ) {old first last new : DirAt} → Part old first last new → read.ReadsDigest key digest first last → read.ReadsDigest key digest old new
digest_wider key digest p h = record {
  there = held_wider p (IsPresent key) h.there;
  parts = record {
    kept = h.parts.kept;
    id = h.parts.id;
    lines = h.parts.lines;
    manifest = file_wider p h.parts.manifest;
    id_file = file_wider p h.parts.id_file;
    tree = file_wider p h.parts.tree;
    is = h.parts.is;
  };
}

lacks_wider : (key : StoreKey) (path : List ℕ) {old first last new : DirAt} → Part old first last new → read.LacksInTurn key tree_name (LacksTree key) path first last → read.LacksInTurn key tree_name (LacksTree key) path old new
lacks_wider key path p (inl l) = inl (l.0, lack_wider p (image_inner key manifest_name) most_of_manifest IsNoImageManifest l.1)
lacks_wider key path p (inr (inl l)) = inr (inl (l.0, (l.1.0, file_wider p l.1.1), lack_wider p (image_inner key id_name) most_of_id (IsNoId key) l.2))
lacks_wider key path p (inr (inr l)) = inr (inr (l.0, (l.1.0, file_wider p l.1.1), (l.2.0, file_wider p l.2.1), lack_wider p (image_inner key tree_name) most_of_tree IsNoListing l.3))

module _ (old new : DirAt) (stay : ImagesStay old.trace new.trace) (key : StoreKey) where
  abbrev before : DirState
  before = state_after old.trace

  -- the image whose digest was read
  digest_read : (digest : List ℕ) → read.ReadsDigest key digest old new → StandsWithDigest key digest before
  digest_read digest h =
      let kept = h.parts.kept in
      let m = front_before old new stay key manifest_name most_of_manifest (IsKeptOf kept) refl (omega arith) h.parts.manifest in
      let t = front_before old new stay key tree_name most_of_tree (IsListingOf h.parts.lines) refl (omega arith) h.parts.tree in
      let k : IsKeptOf kept m.0 = manifest_front m.0 kept m.2 in
      record {
        stands = present_before old.process old.trace new.trace stay key h.there;
        id = h.parts.id;
        lines = h.parts.lines;
        manifest = record { bytes = m.0; there = m.1; holds = (image_data kept.manifest, k.1) };
        id_file = id_before old new stay key h.parts.id h.parts.id_file;
        listing = record { bytes = t.0; there = t.1; holds = tree_front t.0 h.parts.lines t.2 };
        is = h.parts.is ∙ ap (λ (bytes : List ℕ). image_digest h.parts.id bytes h.parts.lines) k.0;
      }

  pub digest_before : (digest : List ℕ) → WasThere key digest old new → HasOneDigest key digest before
  digest_before digest w = digest_once key digest before (digest_read digest (digest_wider key digest (part_of w) w.told))

  pub lacks_listing : LacksTree key old new → HasListing key before → ⊥
  lacks_listing lack = lacks_file old new stay key tree_name most_of_tree IsNoListing IsAnyListing refl (omega arith)
      (λ file none any. no_fault file (no_tree_front file none) any) lack
    where
      no_fault : (file : List ℕ) → IsNoListing file → IsAnyListing file → ⊥
      no_fault file none any = a_listing_has_no_fault any.0 none.0 any.1.kind (subst (λ (bytes : List ℕ). Fails bytes none.0) any.1.text none.1)

  lacks_read : (path : List ℕ) → read.LacksInTurn key tree_name (LacksTree key) path old new → LacksPart key tree_name (HasListing key before) path before
  lacks_read path (inl l) = inl (l.0, lacks_manifest old new stay key l.1)
  lacks_read path (inr (inl l)) = inr (inl (l.0, has_manifest old new stay key l.1, lacks_id old new stay key l.2))
  lacks_read path (inr (inr l)) = inr (inr (l.0, has_manifest old new stay key l.1, has_id old new stay key l.2, lacks_listing l.3))

  -- the damaged image
  pub damage_before : (path : List ℕ) → Within (LacksThere key path) old new → IsDamagedOnce key path before
  damage_before path w = damaged_once key path before (record {
    stands = present_before old.process old.trace new.trace stay key (held_wider (part_of w) (IsPresent key) w.told.0);
    lacks = lacks_read path (lacks_wider key path (part_of w) w.told.1);
  })

  -- and none
  pub none_before : HeldBetween old new (IsImageAbsent key) → IsImageAbsent key before
  none_before absent = absent_before old.process old.trace new.trace stay key absent
