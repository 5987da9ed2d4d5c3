-- What the bytes of a file are, and what its first bytes tell of the whole.
use Rattle.std.proofs.Common.{arith, ◌≡◌, inl, ◌<◌, ◌≤◌, ℕ, Bool, true, false, nat_le, nat_lt, List, [], ◌∷◌, ◌++◌, length, take, Option, Some, None, refl, sym, ap, subst, ◌∙◌, length-append}
use Rattle.std.specs.Prelude.{IsUtf8, MatchOption}
use Rattle.std.proofs.lemmas.Bool.Decides.{nat_tests}
use Rattle.std.proofs.lemmas.List.{append_cancel_right}
use Rattle.plain_laws.proofs.Fronts.{take_short, not_cut, within_take}
use Rattle.ac_types.specs.declared.image_id.ImageId.{ImageId}
use Rattle.ac_types.specs.declared.store_key.StoreKey.{StoreKey}
use Rattle.ac_types.specs.Ids.{id_text, id_read, AreBytes}
use Rattle.ac_types.proofs.IdTexts.{text_read}
use Rattle.manifests.specs.ImageData.{image_data}
use Rattle.manifest_laws.proofs.Heads.{manifest_so, manifest_whole, id_utf8}
use Rattle.tree_digest.specs.declared.line.ListingLine.{ListingLine}
use Rattle.tree_digest.specs.declared.listing_error.ListingError.TheVariants.{TooMany}
use Rattle.tree_digest.specs.Listings.{listing_text, line_count}
use Rattle.image_reading.specs.declared.file.KeptManifest.{KeptManifest}
use Rattle.image_reading.specs.Files.{IsNoImageManifest, IsKeptOf, IsIdOf, IsNoId, IsListingOf, IsNoListing}
use Rattle.image_reading.proofs.Places.{text_length}

pub manifest_front : (file : List ℕ) (kept : KeptManifest) → IsKeptOf kept (take 1048577 file) → IsKeptOf kept file
manifest_front file kept is = (is.0 ∙ manifest_whole file (image_data kept.manifest) is.1, sym (manifest_so file) ∙ is.1)

pub no_manifest_front : (file : List ℕ) → IsNoImageManifest (take 1048577 file) → IsNoImageManifest file
no_manifest_front file none = λ manifest is. none manifest (manifest_so file ∙ is)

-- IDs
id_length : (key : StoreKey) (id : ImageId) (bytes : List ℕ) → IsIdOf key id bytes → length bytes < 137
id_length key id bytes is = omega (arith, ap length is.text, length-append (id_text id.bytes) (10 ∷ []), text_length 64 id.bytes is.kind)

pub id_front : (key : StoreKey) (file : List ℕ) (id : ImageId) → IsIdOf key id (take 137 file) → IsIdOf key id file
id_front key file id is = subst (λ (b : List ℕ). IsIdOf key id b) (not_cut 137 file (id_length key id (take 137 file) is)) is

pub no_id_front : (key : StoreKey) (file : List ℕ) → IsNoId key (take 137 file) → IsNoId key file
no_id_front key file none = λ id is. none id (subst (λ (b : List ℕ). IsIdOf key id b) (sym (within_take 137 file (id_length key id file is))) is)

pub no_line : (key : StoreKey) (bytes : List ℕ) → ((text : List ℕ) → bytes ≡ text ++ 10 ∷ [] → ⊥) → IsNoId key bytes
no_line key bytes none = λ id is. none (id_text id.bytes) is.text

module _ (key : StoreKey) (bytes line : List ℕ) (ends : bytes ≡ line ++ 10 ∷ []) where
  -- the line is the ID's text
  line_is : (id : ImageId) → IsIdOf key id bytes → line ≡ id_text id.bytes
  line_is id is = append_cancel_right line (id_text id.bytes) (10 ∷ []) (sym ends ∙ is.text)

  pub no_utf8 : ¬ IsUtf8 line → IsNoId key bytes
  no_utf8 none = λ id is. none (subst IsUtf8 (sym (line_is id is)) (id_utf8 id.bytes))

  pub no_text : ((other : List ℕ) → AreBytes 64 other → line ≡ id_text other → ⊥) → IsNoId key bytes
  no_text none = λ id is. none id.bytes is.kind (line_is id is)

  module _ (id : ImageId) (are : AreBytes 64 id.bytes) (text : line ≡ id_text id.bytes) where
    same_id : (other : ImageId) → IsIdOf key other bytes → other.bytes ≡ id.bytes
    same_id other is =
        let both : Some other.bytes ≡ Some id.bytes = sym (text_read 64 other.bytes is.kind) ∙ (ap (id_read 64) (sym (line_is other is) ∙ text) ∙ text_read 64 id.bytes are) in
        cc

    pub other_key : (take 32 id.bytes ≡ key.bytes → ⊥) → IsNoId key bytes
    other_key none = λ other is. none (sym (ap (take 32) (same_id other is)) ∙ is.front)

    pub an_id : take 32 id.bytes ≡ key.bytes → IsIdOf key id bytes
    an_id front = record { kind = are; text = ends ∙ ap (λ (t : List ℕ). t ++ 10 ∷ []) text; front = front }

-- the ID, where its key is the wanted one
pub key_in : (key : StoreKey) (bytes line : List ℕ) → bytes ≡ line ++ 10 ∷ [] → (id : ImageId) → AreBytes 64 id.bytes → line ≡ id_text id.bytes → (r : Option ImageId) → MatchOption r (take 32 id.bytes ≡ key.bytes → ⊥) (λ same. (same ≡ id) × (take 32 id.bytes ≡ key.bytes)) → MatchOption r (IsNoId key bytes) (λ i. IsIdOf key i bytes)
key_in key bytes line ends id are text None none = other_key key bytes line ends id are text none
key_in key bytes line ends id are text (Some i) is = subst (λ (x : ImageId). IsIdOf key x bytes) (sym is.0) (an_id key bytes line ends id are text is.1)

-- listings
pub tree_front : (file : List ℕ) (lines : List ListingLine) → IsListingOf lines (take 33554433 file) → IsListingOf lines file
tree_front file lines is =
    let size : length (listing_text lines) ≤ 33554432 = is.kind.size in
    let within : length (take 33554433 file) < 33554433 = omega (arith, ap length is.text, size) in
    subst (λ (b : List ℕ). IsListingOf lines b) (not_cut 33554433 file within) is

long_listing : (file : List ℕ) → 33554432 < length file → IsNoListing file
long_listing file long = by (nat_lt 65536 (line_count file)) refl
  where
    by : (b : Bool) → nat_lt 65536 (line_count file) ≡ b → IsNoListing file
    by true many = (TooMany 65536, inl (rw many refl))
    by false few = (TooMany 33554432, inl (rw few (long, refl)))

longer : (bytes : List ℕ) → nat_le (length bytes) 33554432 ≡ false → 33554432 < length bytes
longer bytes long = grind (arith, nat_tests)

pub no_tree_front : (file : List ℕ) → IsNoListing (take 33554433 file) → IsNoListing file
no_tree_front file none = by (nat_le (length file) 33554432) refl
  where
    by : (b : Bool) → nat_le (length file) 33554432 ≡ b → IsNoListing file
    by true short = subst IsNoListing (take_short 33554432 file short) none
    by false long = long_listing file (longer file long)
