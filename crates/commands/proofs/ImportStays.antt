-- Where nobody else steps, a process that imports an image and moves nothing into images leaves the images as they were at each moment.
use Rattle.std.proofs.Common.{◌≡◌, ℕ, Bool, true, false, not, ◌||◌, ◌==◌, Option, List, [], ◌∷◌, ◌++◌, append_assoc, append-nil, refl, sym, ap, subst, ◌∙◌}
use Rattle.std.specs.List.{AllByRecursion}
use Rattle.plain_laws.proofs.Booleans.{clash}
use Rattle.dir_model.specs.declared.area.Area.TheVariants as area
use Rattle.dir_model.specs.declared.event.Event.{Event}
use Rattle.dir_model.specs.declared.pod.PodId.{PodId}
use Rattle.dir_model.specs.declared.spot.Spot.{Spot}
use Rattle.dir_model.specs.declared.request.Request.{Request}
use Rattle.dir_model.specs.declared.request.Request.TheVariants.{MakeFolder, MoveFolder, RemoveFolder}
use Rattle.dir_model.specs.declared.request.Reply.{Reply}
use Rattle.dir_model.specs.declared.request.Reply.TheVariants.{Done}
use Rattle.dir_model.specs.Calls.{Extends, is_begin, is_finish, is_foreign, is_kill}
use Rattle.dir_model.specs.Quiet.{Quiet}
use Rattle.dir_model.specs.State.{Namespace, DirState, empty_state, folder_at, spot_eq}
use Rattle.dir_model.specs.Trace.{namespace_replied, state_next, states_next, state_after}
use Rattle.dir_model.proofs.Chains.{extends_wider, states_next-append}
use Rattle.dir_model.proofs.Lists.{all_left, or_last, not_true, same_rest, same_self}
use Rattle.dir_rules.specs.Standing.{is_in}
use Rattle.folder_contents.proofs.Places.{located}
use Rattle.folder_contents.proofs.Spots.{one_location}
use Rattle.lifecycle.proofs.Places.{made_elsewhere, moved_elsewhere}
use Rattle.image_store.specs.Moves.{MovedNoImage}
use Rattle.image_store.specs.Requests.{building_spot, imports_at, brings_image}
use Rattle.pod_lookup.specs.Looks.{lists_stages}
use Rattle.standing_images.specs.Images.{SameImages, ImagesStay}
use Rattle.commands.specs.ImageImport.{is_building_place}
use Rattle.commands.proofs.Changes.{import_changes}
use Rattle.commands.proofs.ImportQuiet.{is_modest}
use Rattle.commands.proofs.NextState.{trees_all}
use Rattle.commands.proofs.OwnSteps.{in_process, own_asked, same_folders}

-- a location that isn't in images is none there
outside : (here spot : Spot) → is_in area.Images here.area ≡ false → is_in area.Images spot.area ≡ true → spot_eq here spot ≡ false
outside here spot off is = by (spot_eq here spot) refl
  where
    by : (b : Bool) → spot_eq here spot ≡ b → b ≡ false
    by false e = refl
    by true e = clash (is_in area.Images spot.area) is (subst (λ (s : Spot). is_in area.Images s.area ≡ false) (one_location here spot e) off)

module _ (draw : PodId) where
  abbrev Here : Spot
  Here = building_spot draw

  building : (here spot : Spot) → spot_eq here Here ≡ true → is_in area.Images spot.area ≡ true → spot_eq here spot ≡ false
  building here spot own is = outside here spot (subst (λ (s : Spot). is_in area.Images s.area ≡ false) (sym (one_location here Here own)) refl) is

  made_own : (new : Spot) → is_modest Here (MakeFolder new) ≡ true → spot_eq new Here ≡ true
  made_own new h = by (spot_eq new Here) refl h
    where
      by : (b : Bool) → spot_eq new Here ≡ b → is_modest Here (MakeFolder new) ≡ true → b ≡ true
      by true e h = refl
      by false e h = cc

  moved_own : (from to : Spot) → is_modest Here (MoveFolder from to) ≡ true → spot_eq from Here ≡ true
  moved_own from to h = by (spot_eq from Here) refl h
    where
      by : (b : Bool) → spot_eq from Here ≡ b → is_modest Here (MoveFolder from to) ≡ true → b ≡ true
      by true e h = refl
      by false e h = cc

  asked_of : (kill modest : Bool) → kill ≡ false → (kill || modest) ≡ true → modest ≡ true
  asked_of true modest k h = cc
  asked_of false modest k h = h

  -- what stands in images, after an own step that moves nothing there
  place_same : (p : ℕ) (n : Namespace) (request : Request) (reply : Reply) → (is_kill request || is_modest Here request) ≡ true → not (brings_image request reply) ≡ true →
      (spot : Spot) → is_in area.Images spot.area ≡ true → folder_at (namespace_replied n p request reply) spot ≡ folder_at n spot
  place_same p n (MakeFolder new) Done h none spot is = made_elsewhere n spot new (building new spot (made_own new h) is)
  place_same p n (MakeFolder new) reply h none spot is = refl
  place_same p n (MoveFolder from to) Done h none spot is = moved_elsewhere n spot from to (outside to spot (not_true (is_in area.Images to.area) none) is) (building from spot (moved_own from to h) is)
  place_same p n (MoveFolder from to) reply h none spot is = refl
  place_same p n (RemoveFolder gone) reply h none spot is = cc
  place_same p n request reply h none spot is = ap (λ (fs : List (Option Spot)). folder_at (record n { folders = fs }) spot) (same_folders p n request reply refl (λ handle. refl))

  -- an own event
  none_of : (me : ℕ) (e : Event) → e.process ≡ me → (is_foreign me e || not (brings_image e.request e.reply)) ≡ true → not (brings_image e.request e.reply) ≡ true
  none_of me e mine none =
      by (is_kill e.request) refl
      (ap (λ b. (not b || is_kill e.request) || not (brings_image e.request e.reply)) (sym (same_self me))
      ∙ (ap (λ (q : ℕ). (not (q == me) || is_kill e.request) || not (brings_image e.request e.reply)) (sym mine) ∙ none))
    where
      kills : (request : Request) (reply : Reply) → is_kill request ≡ true → not (brings_image request reply) ≡ true
      kills (MoveFolder from to) reply h = cc
      kills request reply h = refl

      by : (kill : Bool) → is_kill e.request ≡ kill → (kill || not (brings_image e.request e.reply)) ≡ true → not (brings_image e.request e.reply) ≡ true
      by true k h = kills e.request e.reply k
      by false k h = h

  abbrev Own : ℕ → List Event → Type 0
  Own me es = AllByRecursion (λ e. e.process ≡ me) es

  abbrev Asked : ℕ → List Event → Type 0
  Asked me es = AllByRecursion (λ e. (is_foreign me e || is_modest Here e.request) ≡ true) es

  abbrev MovesNone : ℕ → List Event → Type 0
  MovesNone me es = AllByRecursion (λ e. (is_foreign me e || not (brings_image e.request e.reply)) ≡ true) es

  places_same : (me : ℕ) (s : DirState) (es : List Event) → Own me es → Asked me es → MovesNone me es → (spot : Spot) → is_in area.Images spot.area ≡ true →
      folder_at (states_next s es).namespace spot ≡ folder_at s.namespace spot
  places_same me s [] own asked none spot is = refl
  places_same me s (e ∷ es) own asked none spot is =
      places_same me (state_next s e) es own.1 asked.1 none.1 spot is
      ∙ place_same e.process s.namespace e.request e.reply (own_asked (is_modest Here) me e own.0 asked.0) (none_of me e own.0 none.0) spot is

  modest_in_process : (r : Request) → is_modest Here r ≡ true → in_process (imports_at Here) r ≡ true
  modest_in_process r h = or_last (lists_stages r) (is_begin r || (imports_at Here r || is_finish r)) h

  -- its own folder isn't among them
  apart : (place : Spot) → is_in area.Images place.area ≡ true → is_building_place draw place ≡ false
  apart place is = by (spot_eq place Here) refl
    where
      by : (b : Bool) → spot_eq place Here ≡ b → b ≡ false
      by false e = refl
      by true e = clash (is_in area.Images place.area) is (subst (λ (s : Spot). is_in area.Images s.area ≡ false) (sym (one_location place Here e)) refl)

  -- so the images stay, in each part of such a stretch
  pub same_along : (me : ℕ) (s : DirState) (es : List Event) → Own me es → Asked me es → MovesNone me es → AllByRecursion (λ e. (is_foreign me e || in_process (imports_at Here) e.request) ≡ true) es → SameImages s (states_next s es)
  same_along me s es own asked none listed = record {
    places = places_same me s es own asked none;
    trees = λ spot folder inside there.
        let l = located s.namespace spot folder there in
        trees_all (is_building_place draw) (imports_at Here) (import_changes draw) me s es own listed folder l.0 l.1.0
        (apart l.0 (subst (λ (x : Spot). is_in area.Images x.area ≡ true) (sym (one_location l.0 spot l.1.1)) inside));
  }

  pub import_stays : {me : ℕ} {old new : List Event} → Extends (is_modest Here) me old new → Quiet me old new → MovedNoImage me old new → ImagesStay old new
  import_stays {me} {old} {new} ext quiet moved more rest is =
      let whole : new ≡ old ++ (more ++ rest) = is ∙ append_assoc old more rest in
      let process = extends_wider modest_in_process ext in
      let own : Own me more = all_left _ more rest (subst (Own me) (same_rest old quiet.more (more ++ rest) (sym quiet.grown ∙ whole)) quiet.own) in
      let asked : Asked me more = all_left _ more rest (subst (Asked me) (same_rest old ext.more (more ++ rest) (sym ext.grown ∙ whole)) ext.asked) in
      let none : MovesNone me more = all_left _ more rest (subst (MovesNone me) (same_rest old moved.more (more ++ rest) (sym moved.grown ∙ whole)) moved.none) in
      let listed = all_left _ more rest (subst (λ (l : List Event). AllByRecursion (λ e. (is_foreign me e || in_process (imports_at Here) e.request) ≡ true) l) (same_rest old process.more (more ++ rest) (sym process.grown ∙ whole)) process.asked) in
      subst (λ (t : DirState). SameImages (state_after old) t) (sym (states_next-append empty_state old more)) (same_along me (state_after old) more own asked none listed)

-- and in the end they are as they were
pub stays_to_end : (old new more : List Event) → ImagesStay old new → new ≡ old ++ more → SameImages (state_after old) (state_after new)
stays_to_end old new more stay grown = subst (λ (h : List Event). SameImages (state_after old) (state_after h)) (sym grown) (stay more [] (grown ∙ sym (append-nil (old ++ more))))
