-- Where nobody else steps, a process that changes no place in images leaves the images as they were at each moment.
use Rattle.std.proofs.Common.{◌≡◌, ℕ, Bool, true, false, ◌&&◌, ◌||◌, bytes_eq, Option, List, [], ◌∷◌, ◌++◌, append_assoc, refl, sym, ap, subst, ◌∙◌}
use Rattle.std.specs.List.{AllByRecursion}
use Rattle.plain_laws.proofs.Booleans.{clash, or_nothing}
use Rattle.dir_model.specs.declared.area.Area.{Area}
use Rattle.dir_model.specs.declared.area.Area.TheVariants as area
use Rattle.dir_model.specs.declared.event.Event.{Event}
use Rattle.dir_model.specs.declared.pod.PodId.{PodId}
use Rattle.dir_model.specs.declared.request.Request.{Request}
use Rattle.dir_model.specs.declared.request.Request.TheVariants.{MakeFolder, MoveFolder, RemoveFolder}
use Rattle.dir_model.specs.declared.request.Reply.{Reply}
use Rattle.dir_model.specs.declared.request.Reply.TheVariants.{Done}
use Rattle.dir_model.specs.declared.spot.Spot.{Spot}
use Rattle.dir_model.specs.Calls.{Extends, is_foreign, is_kill}
use Rattle.dir_model.specs.Pods.{pod_text}
use Rattle.dir_model.specs.Quiet.{Quiet}
use Rattle.dir_model.specs.Areas.{is_stage}
use Rattle.dir_model.specs.State.{DirState, Namespace, empty_state, folder_at, spot_eq}
use Rattle.dir_model.specs.Trace.{namespace_replied, state_after, state_next, states_next}
use Rattle.dir_model.proofs.Chains.{states_next-append}
use Rattle.dir_model.proofs.Lists.{all_left, same_rest}
use Rattle.dir_rules.specs.Standing.{is_in}
use Rattle.folder_contents.proofs.Places.{located}
use Rattle.folder_contents.proofs.Spots.{one_location}
use Rattle.lifecycle.proofs.Places.{made_elsewhere, moved_elsewhere, removed_elsewhere}
use Rattle.phase_read.specs.Read.{is_pod_spot}
use Rattle.dir_model.specs.Spots.{pod_spot}
use Rattle.standing_images.specs.Images.{SameImages, ImagesStay}
use Rattle.commands.specs.Prepare.{prepares_pod}
use Rattle.commands.specs.PrepareQuiet.{is_making_spot}
use Rattle.commands.specs.Run.{makes_and_runs}
use Rattle.commands.proofs.Changes.{prepare_changes, run_changes}
use Rattle.commands.proofs.NextState.{trees_all}
use Rattle.commands.proofs.OwnSteps.{in_process, same_folders}
use Rattle.commands.proofs.RemovalQuiet.{ChangesAt, own_asked}

-- it brings no folder into images
abbrev pub BringsElsewhere : Request → Type 0
BringsElsewhere (MakeFolder new) = is_in area.Images new.area ≡ false
BringsElsewhere (MoveFolder from to) = is_in area.Images to.area ≡ false
BringsElsewhere request = Unit {0}

module _ (touched : Spot → Bool) (asks : Request → Bool) (c : ChangesAt touched asks) (apart : (place : Spot) → is_in area.Images place.area ≡ true → touched place ≡ false)
    (brings : (request : Request) → asks request ≡ true → BringsElsewhere request) where
  -- what lies elsewhere is no place there
  outside : (here spot : Spot) → is_in area.Images here.area ≡ false → is_in area.Images spot.area ≡ true → spot_eq here spot ≡ false
  outside here spot off is = by (spot_eq here spot) refl
    where
      by : (b : Bool) → spot_eq here spot ≡ b → b ≡ false
      by false e = refl
      by true e = clash (is_in area.Images spot.area) is (subst (λ (s : Spot). is_in area.Images s.area ≡ false) (one_location here spot e) off)

  untouched : (here spot : Spot) → touched here ≡ true → is_in area.Images spot.area ≡ true → spot_eq here spot ≡ false
  untouched here spot there is = by (spot_eq here spot) refl
    where
      by : (b : Bool) → spot_eq here spot ≡ b → b ≡ false
      by false e = refl
      by true e = clash (touched here) there (subst (λ (s : Spot). touched s ≡ false) (sym (one_location here spot e)) (apart spot is))

  place_same : (p : ℕ) (n : Namespace) (request : Request) (reply : Reply) → (is_kill request || in_process asks request) ≡ true → (spot : Spot) → is_in area.Images spot.area ≡ true →
      folder_at (namespace_replied n p request reply) spot ≡ folder_at n spot
  place_same p n (MakeFolder new) Done h spot is = made_elsewhere n spot new (outside new spot (brings (MakeFolder new) (or_nothing (asks (MakeFolder new)) h)) is)
  place_same p n (MakeFolder new) reply h spot is = refl
  place_same p n (MoveFolder from to) Done h spot is =
      let asked = or_nothing (asks (MoveFolder from to)) h in
      moved_elsewhere n spot from to (outside to spot (brings (MoveFolder from to) asked) is) (untouched from spot (c.moves from to asked) is)
  place_same p n (MoveFolder from to) reply h spot is = refl
  place_same p n (RemoveFolder gone) Done h spot is = removed_elsewhere n spot gone (untouched gone spot (c.removes gone (or_nothing (asks (RemoveFolder gone)) h)) is)
  place_same p n (RemoveFolder gone) reply h spot is = refl
  place_same p n request reply h spot is = ap (λ (fs : List (Option Spot)). folder_at (record n { folders = fs }) spot) (same_folders p n request reply refl (λ handle. refl))

  places_same : (me : ℕ) (s : DirState) (es : List Event) → AllByRecursion (λ e. e.process ≡ me) es → AllByRecursion (λ e. (is_foreign me e || in_process asks e.request) ≡ true) es →
      (spot : Spot) → is_in area.Images spot.area ≡ true → folder_at (states_next s es).namespace spot ≡ folder_at s.namespace spot
  places_same me s [] own asked spot is = refl
  places_same me s (e ∷ es) own asked spot is =
      places_same me (state_next s e) es own.1 asked.1 spot is
      ∙ place_same e.process s.namespace e.request e.reply (own_asked touched asks c me e own.0 asked.0) spot is

  pub images_stay_beside : {me : ℕ} {old new : List Event} → Extends (in_process asks) me old new → Quiet me old new → ImagesStay old new
  images_stay_beside {me} {old} {new} ext quiet more rest is =
      let whole : new ≡ old ++ (more ++ rest) = is ∙ append_assoc old more rest in
      let own : AllByRecursion (λ e. e.process ≡ me) more = all_left (λ e. e.process ≡ me) more rest
      (subst (λ (l : List Event). AllByRecursion (λ e. e.process ≡ me) l) (same_rest old quiet.more (more ++ rest) (sym quiet.grown ∙ whole)) quiet.own) in
      let asked : AllByRecursion (λ e. (is_foreign me e || in_process asks e.request) ≡ true) more = all_left (λ e. (is_foreign me e || in_process asks e.request) ≡ true) more rest
      (subst (λ (l : List Event). AllByRecursion (λ e. (is_foreign me e || in_process asks e.request) ≡ true) l) (same_rest old ext.more (more ++ rest) (sym ext.grown ∙ whole)) ext.asked) in
      subst (λ (t : DirState). SameImages (state_after old) t) (sym (states_next-append empty_state old more)) (record {
        places = places_same me (state_after old) more own asked;
        trees = λ spot folder inside there.
            let l = located (state_after old).namespace spot folder there in
            trees_all touched asks c me (state_after old) more own asked folder l.0 l.1.0 (apart l.0 (subst (λ (s : Spot). is_in area.Images s.area ≡ true) (sym (one_location l.0 spot l.1.1)) inside));
      })

-- so does a process that prepares a pod
pod_apart : (draw : PodId) (place : Spot) → is_in area.Images place.area ≡ true → is_making_spot draw place ≡ false
pod_apart draw place is = by (spot_eq place (pod_spot draw area.Embryo)) (spot_eq place (pod_spot draw area.Prepare)) (spot_eq place (pod_spot draw area.Prepared)) refl refl refl
  where
    at : (here : Spot) → is_in area.Images here.area ≡ false → spot_eq place here ≡ true → is_making_spot draw place ≡ false
    at here off e = clash (is_in area.Images place.area) is (subst (λ (s : Spot). is_in area.Images s.area ≡ false) (sym (one_location place here e)) off)

    by : (a b d : Bool) → spot_eq place (pod_spot draw area.Embryo) ≡ a → spot_eq place (pod_spot draw area.Prepare) ≡ b → spot_eq place (pod_spot draw area.Prepared) ≡ d → is_making_spot draw place ≡ false
    by true b d e f g = at (pod_spot draw area.Embryo) refl e
    by false true d e f g = at (pod_spot draw area.Prepare) refl f
    by false false true e f g = at (pod_spot draw area.Prepared) refl g
    by false false false e f g = rw (e, f, g) refl

asked_make : (a : Bool) → ((a || false) || false) ≡ true → a ≡ true
asked_make true h = refl
asked_make false h = cc

embryo_elsewhere : (draw : PodId) (new : Spot) → ((spot_eq new (pod_spot draw area.Embryo) || false) || false) ≡ true → is_in area.Images new.area ≡ false
embryo_elsewhere draw new h =
    let e = asked_make (spot_eq new (pod_spot draw area.Embryo)) h in
    subst (λ (s : Spot). is_in area.Images s.area ≡ false) (sym (one_location new (pod_spot draw area.Embryo) e)) refl

-- a move from embryo to prepare, or from there to such an area
moved_on_elsewhere : (draw : PodId) (last : Area) → is_in area.Images last ≡ false → (from to : Spot) →
    (((spot_eq from (pod_spot draw area.Embryo) && spot_eq to (pod_spot draw area.Prepare)) || ((spot_eq from (pod_spot draw area.Prepare) && spot_eq to (pod_spot draw last)) || false)) || false) ≡ true →
    is_in area.Images to.area ≡ false
moved_on_elsewhere draw last off from to h =
    by (spot_eq from (pod_spot draw area.Embryo)) (spot_eq to (pod_spot draw area.Prepare)) (spot_eq from (pod_spot draw area.Prepare)) (spot_eq to (pod_spot draw last)) refl refl h
  where
    at : (here : Spot) → is_in area.Images here.area ≡ false → spot_eq to here ≡ true → is_in area.Images to.area ≡ false
    at here beside e = subst (λ (s : Spot). is_in area.Images s.area ≡ false) (sym (one_location to here e)) beside

    by : (a b d g : Bool) → spot_eq to (pod_spot draw area.Prepare) ≡ b → spot_eq to (pod_spot draw last) ≡ g →
        (((a && b) || ((d && g) || false)) || false) ≡ true → is_in area.Images to.area ≡ false
    by a true d g e f h = at (pod_spot draw area.Prepare) refl e
    by a false d true e f h = at (pod_spot draw last) off f
    by true false true false e f h = cc
    by true false false false e f h = cc
    by false false true false e f h = cc
    by false false false false e f h = cc

prepares_elsewhere : (draw : PodId) (request : Request) → prepares_pod draw request ≡ true → BringsElsewhere request
prepares_elsewhere draw (MakeFolder new) h = embryo_elsewhere draw new h
prepares_elsewhere draw (MoveFolder from to) h = moved_on_elsewhere draw area.Prepared refl from to h
prepares_elsewhere draw request h = tt

pub prepare_keeps : (draw : PodId) {me : ℕ} {old new : List Event} → Extends (in_process (prepares_pod draw)) me old new → Quiet me old new → ImagesStay old new
prepare_keeps draw ext quiet = images_stay_beside (is_making_spot draw) (prepares_pod draw) (prepare_changes draw) (pod_apart draw) (prepares_elsewhere draw) ext quiet

-- and one that makes a pod and runs it
run_apart : (draw : PodId) (place : Spot) → is_in area.Images place.area ≡ true → is_pod_spot draw place ≡ false
run_apart draw place is = by place.area is
  where
    by : (a : Area) → is_in area.Images a ≡ true → (is_stage a && bytes_eq place.name (pod_text draw.bytes)) ≡ false
    by area.Images h = refl
    by a h = cc

run_elsewhere : (draw : PodId) (request : Request) → makes_and_runs draw request ≡ true → BringsElsewhere request
run_elsewhere draw (MakeFolder new) h = embryo_elsewhere draw new h
run_elsewhere draw (MoveFolder from to) h = moved_on_elsewhere draw area.Run refl from to h
run_elsewhere draw request h = tt

pub run_keeps : (draw : PodId) {me : ℕ} {old new : List Event} → Extends (in_process (makes_and_runs draw)) me old new → Quiet me old new → ImagesStay old new
run_keeps draw ext quiet = images_stay_beside (is_pod_spot draw) (makes_and_runs draw) (run_changes draw) (run_apart draw) (run_elsewhere draw) ext quiet
