-- The images of the store, read one after the other.
use Rattle.std.proofs.Common.{◌≡◌, Bool, true, ℕ, List, [], ◌∷◌, ◌++◌, length, refl, sym, ap, subst, ◌∙◌}
use Rattle.std.specs.List.{AllZip, AllByRecursion}
use Rattle.ac_types.specs.declared.store_key.StoreKey.{StoreKey}
use Rattle.dep_match.specs.declared.stored.Stored.{Stored}
use Rattle.dir_model.proofs.Lists.{all_weaker}
use Rattle.dir_trait.specs.DirCalls.{DirAt}
use Rattle.image_reading.specs.Looks.{OnlyReadsImages}
use Rattle.image_reading.specs.Files.{ReadsId, ReadsMoment, ReadsKept}
use Rattle.image_reading.specs.Images.{ReadsImage}
use Rattle.image_reading.specs.Store.{keys, ReadsStore}
use Rattle.image_reading.proofs.Widths.{file_after, file_before, told_before}
use Rattle.image_reading.proofs.Images.{image_before}
use Rattle.image_reading.specs.declared.file.KeptManifest.{KeptManifest}
use Rattle.pod_plan.specs.declared.images.StoreImages.{StoreImages}
use Rattle.pod_plan.specs.Readings.{ReadsManifestBytes, HaveManifests, KnowsManifest, with_manifest, IsReadAgain, ReadsNextManifest, AreReadAgain, ReadsImages}
use Rattle.pod_plan.proofs.Zips.{zip_more, zip_length, zip_weaker}

-- the manifest that was read, with the bytes that were kept
pub kept_manifest : (listed : Stored) (kept : KeptManifest) {old new : DirAt} → ReadsKept listed.key kept old new → ReadsManifestBytes (with_manifest listed kept.manifest) kept.bytes.items old new
kept_manifest listed kept r = record { bytes = r.bytes; few = r.few; read = r.read; holds = (sym r.holds.0, r.holds.1) }

pub again_start : {observed : Bool} (listed : List Stored) (read : StoreImages) {d : DirAt} → listed ≡ [] → read.images.items ≡ [] → read.manifests.items ≡ [] → AreReadAgain observed listed read d d
again_start {observed} listed read {d} l i m = record {
  same = subst (λ (xs : List Stored). AllZip IsReadAgain xs read.images.items) (sym l) (subst (λ (xs : List Stored). AllZip IsReadAgain [] xs) (sym i) tt);
  manifests = subst (λ (xs : List Stored). AllZip (KnowsManifest observed d d) xs read.manifests.items) (sym i) (subst (λ (xs : List (List ℕ)). AllZip (KnowsManifest observed d d) [] xs) (sym m) tt);
}

-- two lists that grew
grown_zip : {A B : Type 0} (R : A → B → Type 0) (xs zs : List A) (ys ws : List B) (x : A) (y : B) → zs ≡ xs ++ x ∷ [] → ws ≡ ys ++ y ∷ [] → AllZip R xs ys → R x y → AllZip R zs ws
grown_zip {A} {B} R xs zs ys ws x y z w all here =
    subst (λ (l : List A). AllZip R l ws) (sym z) (subst (λ (l : List B). AllZip R (xs ++ x ∷ []) l) (sym w) (zip_more R xs ys x y all here))

module _ {observed : Bool} {a b c : DirAt} (ab : OnlyReadsImages observed a b) (bc : OnlyReadsImages observed b c) where
  manifest_later : (image : Stored) (bytes : List ℕ) → KnowsManifest observed a b image bytes → KnowsManifest observed a c image bytes
  manifest_later image bytes h = λ t. file_before t (h t) bc

  -- one image more
  pub again_more : (listed more : List Stored) (image : Stored) (before after : StoreImages) → more ≡ listed ++ image ∷ [] → AreReadAgain observed listed before a b → ReadsNextManifest observed image before after b c → AreReadAgain observed more after a c
  again_more listed more image before after grown known next =
      let fresh : Stored = with_manifest image next.manifest in
      record {
        same = grown_zip IsReadAgain listed more before.images.items after.images.items image fresh grown next.adds.images known.same refl;
        manifests = grown_zip (KnowsManifest observed a c) before.images.items after.images.items before.manifests.items after.manifests.items fresh next.bytes next.adds.images next.adds.manifests
            (zip_weaker (KnowsManifest observed a b) (KnowsManifest observed a c) manifest_later before.images.items before.manifests.items known.manifests) (λ t. file_after t ab (next.manifest_read t));
      }

-- the manifests that were read before
pub manifests_later : {observed : Bool} {a b c : DirAt} (t : observed ≡ true) {listed : List Stored} → OnlyReadsImages observed b c → (read : StoreImages) → AreReadAgain observed listed read a b → HaveManifests read.images.items read.manifests.items a c
manifests_later {observed} {a} {b} {c} t bc read again = zip_weaker (KnowsManifest observed a b) (λ i m. ReadsManifestBytes i m a c) (λ i m h. file_before t (h t) bc) read.images.items read.manifests.items again.manifests

same_keys : (listed images : List Stored) → AllZip IsReadAgain listed images → keys images ≡ keys listed
same_keys [] [] same = refl
same_keys [] (i ∷ images) same = absurd same
same_keys (l ∷ listed) [] same = absurd same
same_keys (l ∷ listed) (i ∷ images) same =
    ap (λ (ks : List StoreKey). i.key ∷ ks) (same_keys listed images same.1) ∙ ap (λ (k : StoreKey). k ∷ keys listed) (ap (λ (s : Stored). s.key) same.0)

image_again : {old new : DirAt} (listed image : Stored) (bytes : List ℕ) → ReadsImage listed old new → image ≡ with_manifest listed image.manifest → ReadsManifestBytes image bytes old new → ReadsImage image old new
image_again {old} {new} listed image bytes read same m = record {
  manifest = record { bytes = m.bytes; few = m.few; read = m.read; holds = m.holds.1 };
  id = subst (λ (x : Stored). ReadsId x.key x.id old new) (sym same) read.id;
  moment = subst (λ (x : Stored). ReadsMoment x.key x.moment old new) (sym same) read.moment;
}

each_again : (old new : DirAt) (listed images : List Stored) (manifests : List (List ℕ)) → AllByRecursion (λ i. ReadsImage i old new) listed → AllZip IsReadAgain listed images → HaveManifests images manifests old new
    → AllByRecursion (λ i. ReadsImage i old new) images
each_again old new [] [] manifests read same are = tt
each_again old new [] (i ∷ images) manifests read same are = absurd same
each_again old new (l ∷ listed) [] manifests read same are = absurd same
each_again old new (l ∷ listed) (i ∷ images) [] read same are = absurd are
each_again old new (l ∷ listed) (i ∷ images) (m ∷ manifests) read same are = (image_again l i m read.0 same.0 are.0, each_again old new listed images manifests read.1 same.1 are.1)

module _ {observed : Bool} {a b c : DirAt} (ab : OnlyReadsImages observed a b) (bc : OnlyReadsImages observed b c) (listed : List Stored) (store : observed ≡ true → ReadsStore listed a b) (read : StoreImages) (again : AreReadAgain observed listed read b c) where
  manifests_since : AllZip (KnowsManifest observed a c) read.images.items read.manifests.items
  manifests_since = zip_weaker (KnowsManifest observed b c) (KnowsManifest observed a c) (λ i m h. λ t. file_after t ab (h t)) read.images.items read.manifests.items again.manifests

  store_since : observed ≡ true → ReadsStore read.images.items a c
  store_since t =
      let first = store t in
      record {
        names = first.names;
        ordered = first.ordered;
        shown = told_before t first.shown bc;
        read = record {
          of_names = same_keys listed read.images.items again.same ∙ first.read.of_names;
          each = each_again a c listed read.images.items read.manifests.items (all_weaker (λ x. ReadsImage x a b) (λ x. ReadsImage x a c) (λ x h. image_before t h bc) listed first.read.each) again.same
              (zip_weaker (KnowsManifest observed a c) (λ i m. ReadsManifestBytes i m a c) (λ i m h. h t) read.images.items read.manifests.items manifests_since);
        };
      }

  -- all of them, as the store's images
  pub images_read : ReadsImages observed read a c
  images_read = record { listed = store_since; manifests = manifests_since }

pub listed_before : {observed : Bool} {a b c : DirAt} (t : observed ≡ true) (images : List Stored) → ReadsStore images a b → OnlyReadsImages observed b c → ReadsStore images a c
listed_before {observed} {a} {b} {c} t images s bc = record {
  names = s.names;
  ordered = s.ordered;
  shown = told_before t s.shown bc;
  read = record { of_names = s.read.of_names; each = all_weaker (λ x. ReadsImage x a b) (λ x. ReadsImage x a c) (λ x h. image_before t h bc) images s.read.each };
}

module _ {observed : Bool} {old new : DirAt} (read : StoreImages) (known : ReadsImages observed read old new) where
  pub as_many : length read.manifests.items ≡ length read.images.items
  as_many = zip_length (KnowsManifest observed old new) read.images.items read.manifests.items known.manifests

  pub have_manifests : observed ≡ true → HaveManifests read.images.items read.manifests.items old new
  have_manifests t = zip_weaker (KnowsManifest observed old new) (λ i m. ReadsManifestBytes i m old new) (λ i m h. h t) read.images.items read.manifests.items known.manifests

-- the manifests that were read before something else was
pub manifests_before : {observed : Bool} (a : DirAt) {b c : DirAt} (t : observed ≡ true) (images : List Stored) (manifests : List (List ℕ)) → HaveManifests images manifests a b → OnlyReadsImages observed b c → HaveManifests images manifests a c
manifests_before {observed} a {b} {c} t images manifests are bc = zip_weaker (λ i m. ReadsManifestBytes i m a b) (λ i m. ReadsManifestBytes i m a c) (λ i m h. file_before t h bc) images manifests are
