-- What was read of the store under the gate stood there together.
use Rattle.std.proofs.Common.{arith, ◌≡◌, ℕ, Bool, true, is_some, List, [], ◌∷◌, ◌++◌, append_assoc, refl, sym, ap, subst, ◌∙◌}
use Rattle.std.specs.Prelude.{Contains}
use Rattle.ac_types.specs.declared.store_key.StoreKey.{StoreKey}
use Rattle.ac_types.specs.declared.image_id.ImageId.{ImageId}
use Rattle.ac_types.specs.Ids.{id_text}
use Rattle.dep_match.specs.declared.stored.Stored.{Stored}
use Rattle.manifests.specs.declared.image_manifest.ImageManifest.{ImageManifest}
use Rattle.manifest_laws.proofs.Heads.{manifest_so}
use Rattle.dir_model.specs.declared.area.Area.TheVariants.{Images}
use Rattle.dir_model.specs.declared.event.Event.{Event}
use Rattle.dir_model.specs.declared.request.Request.{Request}
use Rattle.dir_model.specs.declared.request.Request.TheVariants.{ListArea}
use Rattle.dir_model.specs.declared.request.Reply.TheVariants.{Names}
use Rattle.dir_model.specs.Listings.{has_name}
use Rattle.dir_model.specs.State.{DirState}
use Rattle.dir_model.specs.Trace.{state_after}
use Rattle.dir_model.specs.Calls.{event}
use Rattle.dir_model.proofs.Lists.{all_weaker, same_rest, same_self}
use Rattle.dir_rules.specs.declared.seen.Seen.{Seen}
use Rattle.dir_trait.specs.DirCalls.{DirAt, ExtendsBy}
use Rattle.dir_trait.specs.Knowledge.{Knows}
use Rattle.lifecycle.specs.Executions.{IsConforming}
use Rattle.lifecycle.proofs.Draws.{conforming_left}
use Rattle.folder_contents.specs.UnderGate.{shares_images}
use Rattle.dir_files.specs.Listed.{ShowsArea, ShowsDirectory}
use Rattle.gate_reading.specs.Areas.{is_image}
use Rattle.gate_reading.specs.Gate.{GoesOnUnderLock}
use Rattle.image_reading.specs.Places.{image_spot, image_inner, manifest_name, id_name}
use Rattle.image_reading.specs.Files.{IsImageManifestOf, IsIdOf, ReadsImageManifest, ReadsId, most_of_id}
use Rattle.image_reading.specs.Images.{ReadsImage}
use Rattle.image_reading.specs.Looks.{reads_images}
use Rattle.image_reading.specs.Store.{keys, ReadsStore}
use Rattle.image_reading.proofs.Values.{id_front}
use Rattle.standing_images.specs.Images.{HasFile, StandsWithItsFiles, AreAll, KeysRise, StoodTogether}
use Rattle.standing_images.proofs.Reading.{reads_on}
use Rattle.standing_images.proofs.LastSteps.{LastOwn, last_own}
use Rattle.standing_images.proofs.AtEnd.{end, whole, file_front}
use Rattle.standing_images.proofs.Listed.{lead, start, ends_own, items_last, names_whole}
use Rattle.standing_images.proofs.Moments.{has_mark, is_newest}
use Rattle.standing_images.proofs.Keys.{key_among, keys_rise}
use Rattle.manifests.specs.ManifestSize.{most_of_manifest}

module _ {asks : Request → Bool} {s : Seen} {old new : DirAt} (g : GoesOnUnderLock asks s old new) (l : LastOwn old.process g.extends.more) where
  manifest_stands : (key : StoreKey) (manifest : ImageManifest) → ReadsImageManifest key manifest old new →
      HasFile key manifest_name (IsImageManifestOf manifest) (state_after (end g l))
  manifest_stands key manifest r =
      let f = file_front g l key manifest_name most_of_manifest (IsImageManifestOf manifest) refl (omega arith) r in
      record { bytes = f.0; there = f.1; holds = sym (manifest_so f.0) ∙ f.2 }

  id_stands : (key : StoreKey) (id : ImageId) → ReadsId key id old new → HasFile key id_name (IsIdOf key id) (state_after (end g l))
  id_stands key id r =
      let f = file_front g l key id_name most_of_id (IsIdOf key id) refl (omega arith) r in
      record { bytes = f.0; there = f.1; holds = id_front key f.0 id f.2 }

  -- an image that was read stands so at the end
  pub image_stands : (image : Stored) → ReadsImage image old new → StandsWithItsFiles image (state_after (end g l))
  image_stands image r =
      let w = r.moment.shown in
      let d = subst (λ (p : ℕ). ShowsDirectory p w.first.trace w.last.trace (image_inner image.key []) r.moment.items) w.same w.told in
      let i = items_last g l w.earlier w.later w.begins w.ends (image_spot image.key) r.moment.items refl d in
      record {
        folder = i.0;
        here = i.1;
        manifest = manifest_stands image.key image.manifest r.manifest;
        id = id_stands image.key image.id r.id;
        mark = has_mark i.0 (state_after (end g l)) r.moment.items i.2.names image.moment r.moment.holds;
        newest = is_newest i.0 (state_after (end g l)) r.moment.items i.2.names image.moment r.moment.holds;
      }

  module _ (images : List Stored) (r : ReadsStore images old new) where
    area : ShowsArea old.process r.shown.first.trace r.shown.last.trace Images r.names
    area = subst (λ (p : ℕ). ShowsArea p r.shown.first.trace r.shown.last.trace Images r.names) r.shown.same r.shown.told

    are_all : (z : DirState) → ((name : List ℕ) → is_image z name ≡ true → has_name r.names name ≡ true) → AreAll (keys images) z
    are_all z all key are there =
        subst (λ (ks : List StoreKey). Contains ks key) (sym r.read.of_names)
        (key_among r.names key are (all (id_text key.bytes) (ap is_some there.1)))

    stood_at : StoodTogether images old.process old.trace new.trace
    stood_at =
        let listed = names_whole g l r.shown.earlier r.shown.later r.shown.begins r.shown.ends r.names area (AreAll (keys images)) are_all in
        record {
          stood = record {
            before = old.trace ++ l.before;
            step = l.step;
            later = l.before;
            rest = l.rest;
            begins = refl;
            ends = whole g l;
            own = l.own;
            holds = all_weaker (λ image. ReadsImage image old new) (λ image. StandsWithItsFiles image (state_after (end g l))) image_stands images r.read.each;
          };
          listed = listed.at;
          begins = listed.is;
          gate = listed.gate;
          rise = subst (λ (ks : List StoreKey). KeysRise ks) (sym r.read.of_names) (keys_rise r.names r.ordered);
        }

-- the listing's end is an own event
listing_end : {asks : Request → Bool} {s : Seen} {old new : DirAt} {images : List Stored} (g : GoesOnUnderLock asks s old new) →
    ReadsStore images old new → LastOwn old.process g.extends.more
listing_end {asks} {s} {old} {new} {images} g r =
    let w = r.shown in
    let d = subst (λ (p : ℕ). ShowsArea p w.first.trace w.last.trace Images r.names) w.same w.told in
    let request : Request = ListArea Images in
    let u : List Event = lead old.trace w.earlier w.later w.begins w.ends old.process request (Names r.names) d.stretch
    ++ start old.trace w.earlier w.later w.begins w.ends old.process request (Names r.names) d.stretch ∷ d.stretch.others in
    let is = ends_own old.trace w.earlier w.later w.begins w.ends old.process request (Names r.names) d.stretch in
    last_own old.process g.extends.more u w.later (event old.process request (Names r.names))
    (same_rest old.trace g.extends.more (u ++ event old.process request (Names r.names) ∷ w.later)
    (sym g.extends.grown ∙ (is ∙ append_assoc old.trace u (event old.process request (Names r.names) ∷ w.later))))
    (rw (same_self old.process) refl)

-- what was read of the store while the process had the gate stood there together, and was all that had stood when the listing
-- of the area had begun
pub store_stood : {asks : Request → Bool} {s : Seen} {old new : DirAt} {images : List Stored} → GoesOnUnderLock asks s old new →
    ReadsStore images old new → StoodTogether images old.process old.trace new.trace
store_stood {asks} {s} {old} {new} {images} g r = stood_at g (listing_end g r) images r

-- and between two moments that lie further apart
pub stood_wider : {images : List Stored} {me : ℕ} {a b c d : List Event} (more rest : List Event) → b ≡ a ++ more → d ≡ c ++ rest →
    StoodTogether images me b c → StoodTogether images me a d
stood_wider {images} {me} {a} {b} {c} {d} more rest begins ends t = record {
  stood = record {
    before = t.stood.before;
    step = t.stood.step;
    later = more ++ t.stood.later;
    rest = t.stood.rest ++ rest;
    begins = t.stood.begins ∙ (ap (λ (h : List Event). h ++ t.stood.later) begins ∙ append_assoc a more t.stood.later);
    ends = ends ∙ (ap (λ (h : List Event). h ++ rest) t.stood.ends ∙ append_assoc (t.stood.before ++ t.stood.step ∷ []) t.stood.rest rest);
    own = t.stood.own;
    holds = t.stood.holds;
  };
  listed = record {
    before = t.listed.before;
    step = t.listed.step;
    later = more ++ t.listed.later;
    rest = t.listed.rest;
    begins = t.listed.begins ∙ (ap (λ (h : List Event). h ++ t.listed.later) begins ∙ append_assoc a more t.listed.later);
    ends = t.listed.ends;
    own = t.listed.own;
    holds = t.listed.holds;
  };
  begins = t.begins;
  gate = t.gate;
  rise = t.rise;
}

-- where the process read between a moment at which it knew that it has the gate and a later one, of moments around them
pub stood_around : {s : Seen} (a b c d : DirAt) {images : List Stored} (earlier later : List Event) → b.process ≡ a.process →
    b.trace ≡ a.trace ++ earlier → d.trace ≡ c.trace ++ later → IsConforming d.trace → Knows b s → shares_images s ≡ true →
    ExtendsBy reads_images b c → ReadsStore images b c → StoodTogether images a.process a.trace d.trace
stood_around {s} a b c d {images} earlier later same begins ends conforming known shares extends read =
    let up_to : IsConforming c.trace = conforming_left c.trace later (subst (λ (h : List Event). IsConforming h) ends conforming) in
    subst (λ (p : ℕ). StoodTogether images p a.trace d.trace) same
    (stood_wider earlier later begins ends (store_stood (reads_on up_to known.tied shares extends) read))
