-- What the first bytes of a file tell of the whole file.
use Rattle.std.proofs.Common.{arith, ◌≡◌, ◌⊎◌, inl, inr, ◌<◌, ℕ, true, false, eqb, List, [], ◌∷◌, ◌++◌, length, take, get_or, Option, None, Some, IsSomeAnd, codes, sym, ap, subst, ◌∙◌, ⊎_elim, length-append}
use Rattle.std.specs.Prelude.{IsUtf8}
use Rattle.std.proofs.lemmas.Bool.{cases_Bool, cond-true, cond-false, and_from, and_parts, eq-eqb, eqb-true, false_from_ne_true}
use Rattle.std.proofs.lemmas.List.{take_at, get_or_at, take_more, take_all}
use Rattle.plain_laws.proofs.Fronts.{not_cut, within_take}
use Rattle.hex.specs.Hex.{encode_with, lower_digits}
use Rattle.hex.proofs.HexLemmas.{length-encode_with}
use Rattle.ac_types.specs.Ids.{id_text, AreBytes}
use Rattle.ac_types.specs.Outcomes.{reads}
use Rattle.manifests.specs.ImageData.{ImageData, image_data}
use Rattle.manifests.specs.ImageForm.{image_manifest}
use Rattle.manifests.specs.declared.image_manifest.ImageManifest.{ImageManifest}
use Rattle.manifest_laws.proofs.Heads.{manifest_so, manifest_whole, id_utf8}
use Rattle.bundle_image.specs.declared.refusal.BundleRefusal.{BundleRefusal}
use Rattle.bundle_image.specs.declared.refusal.BundleRefusal.TheVariants as refusals
use Rattle.bundle_image.specs.Heads.{IsBundleManifestOf, IsManifestFault, IsIdFile, IsNoIdFile, IsIdFault, is_ended, without_end}

pub manifest_read : (file : Option (List ℕ)) (kept bytes : List ℕ) (manifest : ImageManifest) → IsSomeAnd file (λ f. bytes ≡ take 1048577 f) → (kept ≡ bytes) × IsBundleManifestOf bytes manifest
    → IsSomeAnd file (λ f. (kept ≡ f) × IsBundleManifestOf f manifest)
manifest_read None kept bytes manifest front is = absurd front
manifest_read (Some f) kept bytes manifest front is =
    let read : image_manifest (take 1048577 f) ≡ reads (image_data manifest) = ap image_manifest (sym front) ∙ is.1 in
    (is.0 ∙ front ∙ manifest_whole f (image_data manifest) read, sym (manifest_so f) ∙ read)

manifest_fault : (bytes : List ℕ) (other : List ℕ) (refusal : BundleRefusal) → image_manifest bytes ≡ image_manifest other → IsManifestFault bytes refusal → IsManifestFault other refusal
manifest_fault bytes other (refusals.Manifest fault) same is = sym same ∙ is
manifest_fault bytes other (refusals.NoFile path) same is = is
manifest_fault bytes other (refusals.Id bad) same is = is
manifest_fault bytes other (refusals.Listing error) same is = is
manifest_fault bytes other (refusals.BadKind path) same is = is
manifest_fault bytes other refusals.BundleFault same is = is
manifest_fault bytes other refusals.NoMemory same is = is

pub manifest_failed : (file : Option (List ℕ)) (bytes : List ℕ) (refusal : BundleRefusal) → IsSomeAnd file (λ f. bytes ≡ take 1048577 f) → IsManifestFault bytes refusal
    → IsSomeAnd file (λ f. IsManifestFault f refusal)
manifest_failed None bytes refusal front is = absurd front
manifest_failed (Some f) bytes refusal front is = manifest_fault bytes f refusal (ap image_manifest front ∙ manifest_so f) is

id_length : (id : List ℕ) → AreBytes 64 id → length (id_text id) ≡ 135
unfolding id_text
id_length id are = omega (arith, length-append (codes "sha512-") (encode_with lower_digits id), length-encode_with lower_digits id, are.0)

id_file_length : (file id : List ℕ) → IsIdFile file id → length file < 137
id_file_length file id (are, inl is) = omega (arith, ap length is, id_length id are)
id_file_length file id (are, inr is) = omega (arith, ap length is, length-append (id_text id) (10 ∷ []), id_length id are)

pub id_read : (file : Option (List ℕ)) (bytes id : List ℕ) → IsSomeAnd file (λ f. bytes ≡ take 137 f) → IsIdFile bytes id → IsSomeAnd file (λ f. IsIdFile f id)
id_read None bytes id front is = absurd front
id_read (Some f) bytes id front is =
    let within = subst (λ (b : List ℕ). length b < 137) front (id_file_length bytes id is) in
    subst (λ (b : List ℕ). IsIdFile b id) (front ∙ not_cut 137 f within) is

pub no_id_read : (file : Option (List ℕ)) (bytes : List ℕ) → IsSomeAnd file (λ f. bytes ≡ take 137 f) → IsNoIdFile bytes → IsSomeAnd file IsNoIdFile
no_id_read None bytes front none = absurd front
no_id_read (Some f) bytes front none = λ id is.
    none id (subst (λ (b : List ℕ). IsIdFile b id) (sym (front ∙ within_take 137 f (id_file_length f id is))) is)

ended_at : (bytes : List ℕ) → is_ended bytes ≡ true → without_end bytes ≡ take 135 bytes
ended_at bytes ended = ap (λ (n : ℕ). take n bytes) (cond-true (is_ended bytes) 135 (length bytes) ended)

not_ended : (bytes : List ℕ) → is_ended bytes ≡ false → without_end bytes ≡ bytes
not_ended bytes off = ap (λ (n : ℕ). take n bytes) (cond-false (is_ended bytes) 135 (length bytes) off) ∙ take_all (length bytes) bytes (omega arith)

-- an ID's file without its end is the ID's text
pub trimmed_id : (bytes id : List ℕ) → IsIdFile bytes id → without_end bytes ≡ id_text id
trimmed_id bytes id (are, inl is) =
    not_ended bytes (false_from_ne_true (is_ended bytes) (λ ended. omega (arith, eqb-true (length bytes) 136 (and_parts (eqb (length bytes) 136) (eqb (get_or bytes 135 0) 10) ended).0, ap length is, id_length id are))) ∙ is
trimmed_id bytes id (are, inr is) =
    let long : length bytes ≡ 136 = ap length is ∙ (length-append (id_text id) (10 ∷ []) ∙ omega (arith, id_length id are)) in
    let last : get_or bytes 135 0 ≡ 10 = ap (λ (b : List ℕ). get_or b 135 0) is ∙ get_or_at (id_text id) 10 [] 0 135 (id_length id are) in
    ended_at bytes (and_from (eqb (length bytes) 136) (eqb (get_or bytes 135 0) 10) (eq-eqb _ _ long) (eq-eqb _ _ last))
    ∙ (ap (take 135) is ∙ take_at (id_text id) (10 ∷ []) 135 (id_length id are))

-- what isn't an ID's text, with its end cut, is no ID's file
pub no_id : (bytes text : List ℕ) → text ≡ without_end bytes → ((id : List ℕ) → AreBytes 64 id → text ≡ id_text id → ⊥) → IsNoIdFile bytes
no_id bytes text is none = λ id file. none id file.0 (is ∙ trimmed_id bytes id file)

pub no_utf8 : (bytes text : List ℕ) → text ≡ without_end bytes → ¬ IsUtf8 text → IsNoIdFile bytes
no_utf8 bytes text is none = λ id file. none (subst IsUtf8 (sym (is ∙ trimmed_id bytes id file)) (id_utf8 id))

-- a text that is an ID's, with its end cut
pub an_id : (bytes text id : List ℕ) → text ≡ without_end bytes → AreBytes 64 id → text ≡ id_text id → IsIdFile bytes id
an_id bytes text id is are same =
    ⊎_elim
    (λ ended.
    let cut : take 135 bytes ≡ id_text id = sym (is ∙ ended_at bytes ended) ∙ same in
    let parts = and_parts (eqb (length bytes) 136) (eqb (get_or bytes 135 0) 10) ended in
    (are, inr (ended_is bytes (eqb-true (length bytes) 136 parts.0) (eqb-true (get_or bytes 135 0) 10 parts.1) ∙ ap (λ (b : List ℕ). b ++ 10 ∷ []) cut)))
    (λ off. (are, inl (sym (is ∙ not_ended bytes off) ∙ same)))
    (cases_Bool (is_ended bytes))
  where
    ended_is : (b : List ℕ) → length b ≡ 136 → get_or b 135 0 ≡ 10 → b ≡ take 135 b ++ 10 ∷ []
    ended_is b long last = sym (ap (λ (x : ℕ). take 135 b ++ x ∷ []) (sym last) ∙ sym (take_more b 135 0 (omega arith)) ∙ take_all 136 b (omega arith))

id_fault : (bytes other : List ℕ) (refusal : BundleRefusal) → (IsNoIdFile bytes → IsNoIdFile other) → IsIdFault bytes refusal → IsIdFault other refusal
id_fault bytes other (refusals.Id bad) on is = on is
id_fault bytes other (refusals.NoFile path) on is = is
id_fault bytes other (refusals.Manifest fault) on is = is
id_fault bytes other (refusals.Listing error) on is = is
id_fault bytes other (refusals.BadKind path) on is = is
id_fault bytes other refusals.BundleFault on is = is
id_fault bytes other refusals.NoMemory on is = is

pub id_failed : (file : Option (List ℕ)) (bytes : List ℕ) (refusal : BundleRefusal) → IsSomeAnd file (λ f. bytes ≡ take 137 f) → IsIdFault bytes refusal → IsSomeAnd file (λ f. IsIdFault f refusal)
id_failed None bytes refusal front is = absurd front
id_failed (Some f) bytes refusal front is = id_fault bytes f refusal (no_id_read (Some f) bytes front) is

pub no_fault : (bytes : List ℕ) → (refusals.BundleFault ≡ refusals.NoMemory) ⊎ IsManifestFault bytes refusals.BundleFault → ⊥
no_fault bytes (inl is) = cc
no_fault bytes (inr is) = is

pub has_manifest : (file : Option (List ℕ)) (bytes : List ℕ) (manifest : ImageManifest) → IsSomeAnd file (λ f. (bytes ≡ f) × IsBundleManifestOf f manifest) → IsSomeAnd file (λ f. (m : ImageData) × (image_manifest f ≡ reads m))
has_manifest None bytes manifest is = absurd is
has_manifest (Some f) bytes manifest is = (image_data manifest, is.1)
