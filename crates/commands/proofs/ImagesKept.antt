-- Where nobody else steps, a process that imports an image leaves each image in place and as it is, and the new one as it brought it.
use Rattle.std.proofs.Common.{◌≡◌, ℕ, Bool, true, false, not, ◌||◌, ◌==◌, Option, Some, None, List, [], ◌∷◌, ◌++◌, append-nil, append_assoc, refl, sym, ap, subst, ◌∙◌}
use Rattle.std.specs.List.{AllByRecursion}
use Rattle.ac_types.specs.declared.store_key.StoreKey.{StoreKey}
use Rattle.dir_model.specs.declared.event.Event.{Event}
use Rattle.dir_model.specs.declared.pod.PodId.{PodId}
use Rattle.dir_model.specs.declared.spot.Spot.{Spot}
use Rattle.dir_model.specs.declared.request.Request.{Request}
use Rattle.dir_model.specs.declared.request.Request.TheVariants.{MoveFolder, RemoveFolder}
use Rattle.dir_model.specs.declared.request.Reply.{Reply}
use Rattle.dir_model.specs.declared.request.Reply.TheVariants.{Done}
use Rattle.dir_model.specs.Calls.{event, is_foreign, is_kill, Extends}
use Rattle.dir_model.specs.Quiet.{Quiet}
use Rattle.dir_model.specs.State.{folder_at, spot_eq}
use Rattle.dir_model.specs.Trace.{state_after}
use Rattle.dir_model.proofs.Lists.{all_left, all_right, same_rest, same_self}
use Rattle.lifecycle.specs.Executions.{IsConforming}
use Rattle.lifecycle.proofs.Draws.{conforming_left}
use Rattle.folder_contents.specs.Entries.{entries_in}
use Rattle.folder_contents.specs.Handing.{then_moved}
use Rattle.folder_contents.specs.UnderGate.{is_taken_from}
use Rattle.folder_contents.proofs.Along.{happens}
use Rattle.lifecycle.proofs.Places.{none_stands}
use Rattle.lifecycle.proofs.Step.{stands_from}
use Rattle.folder_contents.proofs.Spots.{one_location}
use Rattle.folder_contents.proofs.Unmoved.{unmoved}
use Rattle.bundle_image.specs.declared.image.BundleImage.{BundleImage}
use Rattle.image_reading.specs.Places.{image_spot, IsImageAbsent}
use Rattle.image_store.specs.Imports.{key_of_image, IsOf, IsImported}
use Rattle.image_store.specs.Requests.{building_spot}
use Rattle.commands.specs.ImageImport.{KeepsImages, HoldsImage}
use Rattle.commands.proofs.ImportQuiet.{is_modest}

-- its moves are of its own folder in incoming, and it removes none
moves_own : (draw : PodId) (key : StoreKey) (from to : Spot) (reply : Reply) → is_modest (building_spot draw) (MoveFolder from to) ≡ true → is_taken_from (image_spot key) (MoveFolder from to) reply ≡ false
moves_own draw key from to Done h = by (spot_eq from (building_spot draw)) refl h
  where
    by : (b : Bool) → spot_eq from (building_spot draw) ≡ b → is_modest (building_spot draw) (MoveFolder from to) ≡ true → is_taken_from (image_spot key) (MoveFolder from to) Done ≡ false
    by true own h = subst (λ (f : Spot). is_taken_from (image_spot key) (MoveFolder f to) Done ≡ false) (sym (one_location from (building_spot draw) own)) refl
    by false other h = cc
moves_own draw key from to reply h = refl

modest_leaves : (draw : PodId) (key : StoreKey) (request : Request) (reply : Reply) → is_modest (building_spot draw) request ≡ true → is_taken_from (image_spot key) request reply ≡ false
modest_leaves draw key (MoveFolder from to) reply h = moves_own draw key from to reply h
modest_leaves draw key (RemoveFolder gone) reply h = cc
modest_leaves draw key request reply h = refl

kill_leaves : (key : StoreKey) (request : Request) (reply : Reply) → is_kill request ≡ true → is_taken_from (image_spot key) request reply ≡ false
kill_leaves key (MoveFolder from to) reply h = cc
kill_leaves key (RemoveFolder gone) reply h = cc
kill_leaves key request reply h = refl

own_leaves : (me : ℕ) (draw : PodId) (key : StoreKey) (e : Event) → e.process ≡ me → (is_foreign me e || is_modest (building_spot draw) e.request) ≡ true → is_taken_from (image_spot key) e.request e.reply ≡ false
own_leaves me draw key e mine asked =
    by (is_kill e.request) (is_modest (building_spot draw) e.request) refl refl
    (ap (λ b. (not b || is_kill e.request) || is_modest (building_spot draw) e.request) (sym (same_self me))
    ∙ (ap (λ (q : ℕ). (not (q == me) || is_kill e.request) || is_modest (building_spot draw) e.request) (sym mine) ∙ asked))
  where
    by : (kill modest : Bool) → is_kill e.request ≡ kill → is_modest (building_spot draw) e.request ≡ modest → (kill || modest) ≡ true → is_taken_from (image_spot key) e.request e.reply ≡ false
    by true modest k m h = kill_leaves key e.request e.reply k
    by false true k m h = modest_leaves draw key e.request e.reply m
    by false false k m h = cc

abbrev Stands : StoreKey → ℕ → List Event → List Event → Type 0
Stands key folder before after =
    (folder_at (state_after after).namespace (image_spot key) ≡ Some folder) × (entries_in folder (state_after after).entries ≡ entries_in folder (state_after before).entries)

stands_on : (me : ℕ) (draw : PodId) (key : StoreKey) (folder : ℕ) (before more : List Event) → IsConforming (before ++ more) → AllByRecursion (λ e. e.process ≡ me) more →
    AllByRecursion (λ e. (is_foreign me e || is_modest (building_spot draw) e.request) ≡ true) more → folder_at (state_after before).namespace (image_spot key) ≡ Some folder → Stands key folder before (before ++ more)
stands_on me draw key folder before [] conforming own asked at = subst (λ (h : List Event). Stands key folder before h) (sym (append-nil before)) (at, refl)
stands_on me draw key folder before (e ∷ es) conforming own asked at =
    let whole : before ++ (e ∷ es) ≡ (before ++ e ∷ []) ++ es = sym (append_assoc before (e ∷ []) es) in
    let all : IsConforming ((before ++ e ∷ []) ++ es) = subst IsConforming whole conforming in
    let one = unmoved before e (happens before e (conforming_left (before ++ e ∷ []) es all)) (image_spot key) folder refl at (own_leaves me draw key e own.0 asked.0) in
    let rest = stands_on me draw key folder (before ++ e ∷ []) es all own.1 asked.1 one.0 in
    subst (λ (h : List Event). Stands key folder before h) (sym whole) (rest.0, rest.1 ∙ one.1)

module _ {me : ℕ} (draw : PodId) {old new : List Event} (ext : Extends (is_modest (building_spot draw)) me old new) (quiet : Quiet me old new) (conforming : IsConforming new) where
  own : AllByRecursion (λ e. e.process ≡ me) ext.more
  own = subst (λ (l : List Event). AllByRecursion (λ e. e.process ≡ me) l) (same_rest old quiet.more ext.more (sym quiet.grown ∙ ext.grown)) quiet.own

  -- the images that stood there
  pub images_kept : KeepsImages (state_after old) (state_after new)
  images_kept key folder at =
      subst (λ (h : List Event). Stands key folder old h) (sym ext.grown) (stands_on me draw key folder old ext.more (subst IsConforming ext.grown conforming) own ext.asked at)

  -- and the one that came
  pub image_held : (image : BundleImage) (now : ℕ) → IsImported me (building_spot draw) (image_spot (key_of_image image)) (IsOf image now) old new → HoldsImage image now (state_after new)
  image_held image now i =
      let to = image_spot (key_of_image image) in
      let step : Event = event me (MoveFolder (building_spot draw) to) Done in
      let first : List Event = then_moved i.before me (building_spot draw) to in
      let whole : new ≡ first ++ i.later = i.moved ∙ sym (append_assoc i.before (step ∷ []) i.later) in
      let parted : ext.more ≡ (i.meanwhile ++ step ∷ []) ++ i.later = same_rest old ext.more ((i.meanwhile ++ step ∷ []) ++ i.later)
      (sym ext.grown ∙ (i.moved ∙ (ap (λ (h : List Event). h ++ step ∷ i.later) i.begins ∙ simp append_assoc))) in
      let mine = all_right _ (i.meanwhile ++ step ∷ []) i.later (subst (λ (l : List Event). AllByRecursion (λ e. e.process ≡ me) l) parted own) in
      let asked = all_right _ (i.meanwhile ++ step ∷ []) i.later
      (subst (λ (l : List Event). AllByRecursion (λ e. (is_foreign me e || is_modest (building_spot draw) e.request) ≡ true) l) parted ext.asked) in
      let s = stands_on me draw (key_of_image image) i.folder first i.later (subst IsConforming whole conforming) mine asked i.stands in
      let t = subst (λ (h : List Event). Stands (key_of_image image) i.folder first h) (sym whole) s in
      record { folder = i.folder; stands = t.0; holds = subst (IsOf image now) (sym t.1) i.holds }

  -- which wasn't there before
  pub none_held : (image : BundleImage) (now : ℕ) → IsImported me (building_spot draw) (image_spot (key_of_image image)) (IsOf image now) old new → IsImageAbsent (key_of_image image) (state_after old)
  none_held image now i = by (folder_at (state_after old).namespace to) refl
    where
      to : Spot
      to = image_spot (key_of_image image)

      step : Event
      step = event me (MoveFolder (building_spot draw) to) Done

      parted : ext.more ≡ i.meanwhile ++ step ∷ i.later
      parted = same_rest old ext.more (i.meanwhile ++ step ∷ i.later)
          (sym ext.grown ∙ (i.moved ∙ (ap (λ (h : List Event). h ++ step ∷ i.later) i.begins ∙ append_assoc old i.meanwhile (step ∷ i.later))))

      up_to : IsConforming (i.before ++ step ∷ [])
      up_to = conforming_left (i.before ++ step ∷ []) i.later (subst IsConforming (i.moved ∙ sym (append_assoc i.before (step ∷ []) i.later)) conforming)

      free : folder_at (state_after i.before).namespace to ≡ None
      free = none_stands (state_after i.before).namespace to (stands_from (state_after i.before) me (building_spot draw) to (happens i.before step up_to).is).1

      by : (o : Option ℕ) → folder_at (state_after old).namespace to ≡ o → o ≡ None
      by None at = refl
      by (Some folder) at =
          let mine = all_left _ i.meanwhile (step ∷ i.later) (subst (λ (l : List Event). AllByRecursion (λ e. e.process ≡ me) l) parted own) in
          let asked = all_left _ i.meanwhile (step ∷ i.later) (subst (λ (l : List Event). AllByRecursion (λ e. (is_foreign me e || is_modest (building_spot draw) e.request) ≡ true) l) parted ext.asked) in
          let s = stands_on me draw (key_of_image image) folder old i.meanwhile (subst IsConforming i.begins (happens i.before step up_to).conforming) mine asked at in
          let clash : Some folder ≡ None = sym (subst (λ (h : List Event). folder_at (state_after h).namespace to ≡ Some folder) (sym i.begins) s.0) ∙ free in
          cc
