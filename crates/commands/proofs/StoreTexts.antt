-- The text of the images of the store is one, and where nobody else steps `image list` prints that of the state before.
use Rattle.std.proofs.Common.{◌≡◌, ℕ, true, codes, List, [], ◌∷◌, ◌++◌, map, refl, sym, ap, ◌∙◌, Bool}
use Rattle.std.specs.Fmt.{decimal}
use Rattle.std.specs.List.{flat_map}
use Rattle.ac_types.specs.Ids.{id_text}
use Rattle.dir_files.specs.AreaLocks.{is_against, IsFreeElsewhere}
use Rattle.dep_match.specs.declared.stored.Stored.{Stored}
use Rattle.dep_match.specs.Copies.{StoredData, stored_data}
use Rattle.dir_model.specs.declared.area.Area.TheVariants.{Images}
use Rattle.dir_model.specs.declared.request.Request.{Request}
use Rattle.dir_model.specs.declared.request.Request.TheVariants.{Begin, OpenArea, TryLock, Close, ListArea, ListIn, ReadIn, Finish}
use Rattle.dir_model.specs.declared.spot.Mode.TheVariants.{Shared}
use Rattle.dir_model.specs.Calls.{Extends}
use Rattle.dir_model.specs.Quiet.{Quiet}
use Rattle.dir_model.specs.State.{DirState}
use Rattle.dir_model.specs.Trace.{state_after}
use Rattle.dir_trait.specs.DirCalls.{DirAt}
use Rattle.standing_images.specs.Images.{AreStore, ImagesStay}
use Rattle.standing_images.specs.Laws.{leaves_store}
use Rattle.standing_images.proofs.Before.{store_before}
use Rattle.standing_images.proofs.Damages.{damage_before}
use Rattle.standing_images.proofs.OneDamage.{one_damage}
use Rattle.standing_images.proofs.OneStore.{one_store}
use Rattle.standing_images.proofs.QuietStores.{images_stay}
use Rattle.commands.specs.ImageList.{image_line_text, images_text, FindsFree, ListsLackingPart, ListsStore, NamesDamage, PrintsStore, WhereUnheld}
use Rattle.commands.proofs.Openings.{free_before}
use Rattle.commands.proofs.StoreQuiet.{is_tame}

-- a line is of what is seen of an image
abbrev seen_text : StoredData → List ℕ
seen_text d = ((((id_text d.key.bytes ++ codes " ") ++ d.manifest.name) ++ codes " ") ++ decimal d.moment) ++ codes "\n"

text_seen : (images : List Stored) → images_text images ≡ flat_map seen_text (map stored_data images)
text_seen [] = refl
text_seen (image ∷ images) = ap (λ (rest : List ℕ). image_line_text image ++ rest) (text_seen images)

pub one_text : (s : DirState) (xs ys : List Stored) → AreStore xs s → AreStore ys s → images_text xs ≡ images_text ys
one_text s xs ys x y = text_seen xs ∙ (ap (flat_map seen_text) (one_store s xs ys x y) ∙ sym (text_seen ys))

-- what its process asks for changes no image
tame_leaves : (request : Request) → is_tame request ≡ true → leaves_store request ≡ true
tame_leaves (Begin intent) h = refl
tame_leaves (OpenArea area) h = refl
tame_leaves (TryLock handle mode) h = refl
tame_leaves (Close handle) h = refl
tame_leaves (ListArea area) h = refl
tame_leaves (ListIn inner) h = refl
tame_leaves (ReadIn inner at room) h = refl
tame_leaves Finish h = refl
tame_leaves request h = cc

module _ {observed : Bool} (old new : DirAt) (told : observed ≡ true) (ext : Extends is_tame old.process old.trace new.trace) (quiet : Quiet old.process old.trace new.trace) where
  stay : ImagesStay old.trace new.trace
  stay = images_stay is_tame tame_leaves old.process ext quiet

  -- no other process held the lock
  unheld : FindsFree old new → IsFreeElsewhere old.process Images Shared (state_after old.trace)
  unheld at = free_before (is_against Images Shared) at ext quiet

  pub prints_store : (text : List ℕ) → ListsStore observed old new text → WhereUnheld old (λ s. PrintsStore s text)
  prints_store text x =
      let store = store_before old new stay x.images (x.told told) in
      (unheld (x.free told), record { images = x.images; are = store; is = x.is; only = λ others are. x.is ∙ one_text (state_after old.trace) x.images others store are })

  -- and where an image isn't whole, it names what the state before lacks
  pub names_damage : (path : List ℕ) → ListsLackingPart observed path old new → WhereUnheld old (λ s. NamesDamage s path)
  names_damage path x =
      let first = damage_before old new stay path (x.told told) in
      (unheld (x.free told), record { is = first; only = λ other is. one_damage (state_after old.trace) path other first is })
