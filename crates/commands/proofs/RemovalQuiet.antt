-- Where nobody else steps: what a process leaves that moves and removes folders of some locations alone, and what others had
-- open before.
use Rattle.std.proofs.Common.{◌≡◌, ℕ, Bool, true, false, not, ◌||◌, ◌==◌, cond, Option, Some, None, option_map, List, [], ◌∷◌, ◌++◌, slice_get, refl, sym, ap, subst, ◌∙◌, append_assoc}
use Rattle.std.specs.List.{list_any, AllByRecursion}
use Rattle.std.proofs.lemmas.Option.{slice_get-map}
use Rattle.plain_laws.proofs.Lists.{get_pushed}
use Rattle.plain_laws.proofs.Booleans.{or_nothing}
use Rattle.dir_model.specs.declared.event.Event.{Event}
use Rattle.dir_model.specs.declared.opening.Opening.{Opening}
use Rattle.dir_model.specs.declared.spot.Spot.{Spot}
use Rattle.dir_model.specs.declared.request.Request.{Request}
use Rattle.dir_model.specs.declared.request.Request.TheVariants.{MakeFolder, MoveFolder, RemoveFolder, MakeDirIn, MakeFileIn, AppendIn, RemoveFileIn, RemoveDirIn}
use Rattle.dir_model.specs.declared.request.Reply.{Reply}
use Rattle.dir_model.specs.declared.request.Reply.TheVariants.{Done}
use Rattle.dir_model.specs.State.{Namespace, DirState, empty_state, spot_eq}
use Rattle.dir_model.specs.Trace.{state_after, state_next, states_next, moved, removed, namespace_replied}
use Rattle.dir_model.specs.Calls.{is_foreign, is_kill, Extends, AtOwnStep}
use Rattle.dir_model.specs.Quiet.{Quiet}
use Rattle.dir_model.proofs.Lists.{same_rest, same_self, all_left}
use Rattle.dir_model.proofs.Chains.{states_next-append}
use Rattle.folder_contents.proofs.Spots.{one_location}
use Rattle.command_outcomes.specs.Ends.{StaysBeside}
use Rattle.commands.proofs.PlacesKept.{IsPlace}
use Rattle.commands.proofs.OwnSteps.{elsewhere, in_process, step_others, same_folders}

-- the location of the folder in which a request changes something
abbrev pub changed_in : Request → Option Spot
changed_in (MakeDirIn inner) = Some inner.spot
changed_in (MakeFileIn inner) = Some inner.spot
changed_in (AppendIn inner piece) = Some inner.spot
changed_in (RemoveFileIn inner) = Some inner.spot
changed_in (RemoveDirIn inner) = Some inner.spot
changed_in request = None

-- it moves folders from these locations, and removes folders and changes what stands in them there, and nowhere else
pub record ChangesAt (touched : Spot → Bool) (asks : Request → Bool) : Type 0 where
  pub moves : (from to : Spot) → asks (MoveFolder from to) ≡ true → touched from ≡ true
  pub removes : (spot : Spot) → asks (RemoveFolder spot) ≡ true → touched spot ≡ true
  pub fills : (request : Request) (spot : Spot) → changed_in request ≡ Some spot → asks request ≡ true → touched spot ≡ true

module _ (touched : Spot → Bool) (asks : Request → Bool) (c : ChangesAt touched asks) where
  -- another location
  pub elsewhere_from : (from place : Spot) → touched from ≡ true → touched place ≡ false → spot_eq place from ≡ false
  elsewhere_from from place there other = by (spot_eq place from) refl
    where
      by : (b : Bool) → spot_eq place from ≡ b → spot_eq place from ≡ false
      by true same = let clash : true ≡ false = sym there ∙ (ap touched (sym (one_location place from same)) ∙ other) in cc
      by false apart = apart

  pub place_step : (p : ℕ) (w : Namespace) (request : Request) (reply : Reply) (folder : ℕ) (place : Spot) → (is_kill request || in_process asks request) ≡ true → IsPlace folder place w → touched place ≡ false →
      IsPlace folder place (namespace_replied w p request reply)
  place_step p w (MakeFolder here) Done folder place h at other = get_pushed w.folders (Some here) (Some place) folder at
  place_step p w (MakeFolder here) reply folder place h at other = at
  place_step p w (MoveFolder from to) Done folder place h at other =
      slice_get-map (moved from to) w.folders folder
      ∙ (ap (option_map (moved from to)) at ∙ ap (λ b. Some (cond b (Some to) (Some place))) (elsewhere_from from place (c.moves from to (or_nothing (asks (MoveFolder from to)) h)) other))
  place_step p w (MoveFolder from to) reply folder place h at other = at
  place_step p w (RemoveFolder gone) Done folder place h at other =
      slice_get-map (removed gone) w.folders folder
      ∙ (ap (option_map (removed gone)) at ∙ ap (λ b. Some (cond b None (Some place))) (elsewhere_from gone place (c.removes gone (or_nothing (asks (RemoveFolder gone)) h)) other))
  place_step p w (RemoveFolder gone) reply folder place h at other = at
  place_step p w request reply folder place h at other = ap (λ (fs : List (Option Spot)). slice_get fs folder) (same_folders p w request reply refl (λ handle. refl)) ∙ at

  pub own_asked : (me : ℕ) (e : Event) → e.process ≡ me → (is_foreign me e || in_process asks e.request) ≡ true → (is_kill e.request || in_process asks e.request) ≡ true
  own_asked me e mine asked =
      ap (λ b. (not b || is_kill e.request) || in_process asks e.request) (sym (same_self me))
      ∙ (ap (λ (q : ℕ). (not (q == me) || is_kill e.request) || in_process asks e.request) (sym mine) ∙ asked)

  places_all : (me : ℕ) (s : DirState) (es : List Event) → AllByRecursion (λ e. e.process ≡ me) es → AllByRecursion (λ e. (is_foreign me e || in_process asks e.request) ≡ true) es → StaysBeside touched s (states_next s es)
  places_all me s [] own asked folder place at other = at
  places_all me s (e ∷ es) own asked folder place at other =
      places_all me (state_next s e) es own.1 asked.1 folder place (place_step e.process s.namespace e.request e.reply folder place (own_asked me e own.0 asked.0) at other) other

  pub places_beside : {me : ℕ} {old new : List Event} → Extends (in_process asks) me old new → Quiet me old new → StaysBeside touched (state_after old) (state_after new)
  places_beside {me} {old} {new} ext quiet =
      let own : AllByRecursion (λ e. e.process ≡ me) ext.more = subst (λ (l : List Event). AllByRecursion (λ e. e.process ≡ me) l)
      (same_rest old quiet.more ext.more (sym quiet.grown ∙ ext.grown)) quiet.own in
      let here : state_after new ≡ states_next (state_after old) ext.more = ap state_after ext.grown ∙ states_next-append empty_state old ext.more in
      subst (λ (s : DirState). StaysBeside touched (state_after old) s) (sym here) (places_all me (state_after old) ext.more own ext.asked)

-- no own step adds to what others have open
all_others : (me : ℕ) (s : DirState) (es : List Event) (test : Opening → Bool) → AllByRecursion (λ e. e.process ≡ me) es →
    list_any (elsewhere me test) (states_next s es).namespace.openings ≡ true → list_any (elsewhere me test) s.namespace.openings ≡ true
all_others me s [] test own any = any
all_others me s (e ∷ es) test own any =
    let n : Namespace = s.namespace in
    let next : list_any (elsewhere me test) (namespace_replied n e.process e.request e.reply).openings ≡ true = all_others me (state_next s e) es test own.1 any in
    step_others me n e.request e.reply test (subst (λ (q : ℕ). list_any (elsewhere me test) (namespace_replied n q e.request e.reply).openings ≡ true) own.0 next)

-- what another process held at an own step it held before
pub held_before : {me : ℕ} {old new : List Event} (test : Opening → Bool) → AtOwnStep me old new (λ s. list_any (elsewhere me test) s.namespace.openings ≡ true) → Quiet me old new →
    list_any (elsewhere me test) (state_after old).namespace.openings ≡ true
held_before {me} {old} {new} test at quiet =
    let es = at.later ++ at.step ∷ [] in
    let whole : new ≡ old ++ (es ++ at.rest) = at.ends ∙ (ap (λ h. (h ++ at.step ∷ []) ++ at.rest) at.begins ∙ simp append_assoc) in
    let own : AllByRecursion (λ e. e.process ≡ me) es = all_left _ es at.rest
    (subst (λ (l : List Event). AllByRecursion (λ e. e.process ≡ me) l) (same_rest old quiet.more (es ++ at.rest) (sym quiet.grown ∙ whole)) quiet.own) in
    let here : state_after (at.before ++ at.step ∷ []) ≡ states_next (state_after old) es = ap (λ h. state_after (h ++ at.step ∷ [])) at.begins ∙
    (ap state_after (append_assoc old at.later (at.step ∷ [])) ∙ states_next-append empty_state old es) in
    all_others me (state_after old) es test own (subst (λ (s : DirState). list_any (elsewhere me test) s.namespace.openings ≡ true) here at.holds)
