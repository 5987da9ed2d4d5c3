-- No two folders stand at one location, in every run.
use Rattle.std.proofs.Common.{arith, ◌≡◌, ◌⊎◌, inl, inr, ℕ, Bool, true, false, cond, Option, Some, None, option_map, List, [], ◌∷◌, ◌++◌, length, map, slice_get, refl, sym, ap, ◌∙◌}
use Rattle.std.specs.Prelude.{zero, suc}
use Rattle.std.proofs.lemmas.Option.{slice_get-map}
use Rattle.std.proofs.lemmas.Bool.{and_parts}
use Rattle.plain_laws.proofs.Booleans.{clash}
use Rattle.dir_model.specs.declared.spot.Spot.{Spot}
use Rattle.dir_model.specs.declared.event.Event.{Event}
use Rattle.dir_model.specs.declared.request.DirError.TheVariants.{Exists}
use Rattle.dir_model.specs.declared.request.Request.{Request}
use Rattle.dir_model.specs.declared.request.Request.TheVariants.{MakeFolder, MoveFolder, Open, OpenArea, RemoveFolder}
use Rattle.dir_model.specs.declared.request.Reply.{Reply}
use Rattle.dir_model.specs.declared.request.Reply.TheVariants.{Done, Opened}
use Rattle.dir_model.specs.State.{Namespace, DirState, empty_state, spot_eq, is_at, stands}
use Rattle.dir_model.specs.Trace.{moved, removed, namespace_replied, state_next, states_next, state_after}
use Rattle.dir_model.specs.Replies.{is_reply}
use Rattle.dir_model.specs.Calls.{may_step, is_allowed, is_run_from, IsRun}
use Rattle.dir_model.proofs.Spots.{spot_self}
use Rattle.lifecycle.proofs.Lists.{In}
use Rattle.lifecycle.proofs.Handles.{none_refused, refused_if}
use Rattle.lifecycle.proofs.Places.{none_at, spot_right}
use Rattle.lifecycle.proofs.Step.{stands_from}
use Rattle.dir_model.proofs.Allowed.{allowed_parts}

-- the folder with this number stands at the location
abbrev pub on_place : Spot → Option (Option Spot) → Bool
on_place spot None = false
on_place spot (Some place) = is_at spot place

abbrev pub is_there : List (Option Spot) → Spot → ℕ → Bool
is_there fs spot i = on_place spot (slice_get fs i)

abbrev pub Single : List (Option Spot) → Type 0
Single fs = (spot : Spot) (i j : ℕ) → is_there fs spot i ≡ true → is_there fs spot j ≡ true → i ≡ j

get_in : (fs : List (Option Spot)) (spot : Spot) (i : ℕ) → is_there fs spot i ≡ true →
    (x : Option Spot) × (In x fs × (is_at spot x ≡ true))
get_in [] spot i h = cc
get_in (x ∷ fs) spot zero h = (x, (inl refl, h))
get_in (x ∷ fs) spot (suc i) h = let e = get_in fs spot i h in (e.0, (inr e.1.0, e.1.1))

-- none stands at a location that is free
not_free : {X : Type 0} (fs : List (Option Spot)) (new spot : Spot) (i : ℕ) →
    ((x : Option Spot) → In x fs → is_at new x ≡ false) → spot_eq new spot ≡ true → is_there fs spot i ≡ true → X
not_free {X} fs new spot i free same h = let e = get_in fs spot i h in by e.0 (free e.0 e.1.0) e.1.1
  where
    by : (x : Option Spot) → is_at new x ≡ false → is_at spot x ≡ true → X
    by (Some here) off on = clash (spot_eq here new) (spot_right here new spot same ∙ on) off
    by None off on = absurd (cc)

push_there : (fs : List (Option Spot)) (y : Option Spot) (spot : Spot) (i : ℕ) → is_there (fs ++ y ∷ []) spot i ≡ true →
    (is_there fs spot i ≡ true) ⊎ ((i ≡ length fs) × (is_at spot y ≡ true))
push_there [] y spot zero h = inr (refl, h)
push_there [] y spot (suc i) h = cc
push_there (x ∷ fs) y spot zero h = inl h
push_there (x ∷ fs) y spot (suc i) h = by (push_there fs y spot i h)
  where
    by : (is_there fs spot i ≡ true) ⊎ ((i ≡ length fs) × (is_at spot y ≡ true)) →
        (is_there fs spot i ≡ true) ⊎ ((suc i ≡ length (x ∷ fs)) × (is_at spot y ≡ true))
    by (inl k) = inl k
    by (inr (e, k)) = inr (omega (arith, e), k)

made : (fs : List (Option Spot)) (new : Spot) → ((x : Option Spot) → In x fs → is_at new x ≡ false) → Single fs →
    Single (fs ++ Some new ∷ [])
made fs new free s spot i j h k = by (push_there fs (Some new) spot i h) (push_there fs (Some new) spot j k)
  where
    by : (is_there fs spot i ≡ true) ⊎ ((i ≡ length fs) × (spot_eq new spot ≡ true)) →
        (is_there fs spot j ≡ true) ⊎ ((j ≡ length fs) × (spot_eq new spot ≡ true)) → i ≡ j
    by (inl a) (inl b) = s spot i j a b
    by (inr a) (inr b) = a.0 ∙ sym b.0
    by (inl a) (inr b) = not_free fs new spot i free b.1 a
    by (inr a) (inl b) = not_free fs new spot j free a.1 b

abbrev Came : List (Option Spot) → Spot → Spot → Spot → ℕ → Type 0
Came fs from to spot i = ((is_there fs from i ≡ true) × (spot_eq to spot ≡ true)) ⊎ (is_there fs spot i ≡ true)

came : (fs : List (Option Spot)) (from to spot : Spot) (i : ℕ) → is_there (map (moved from to) fs) spot i ≡ true →
    Came fs from to spot i
came fs from to spot i h = by (slice_get fs i) (ap (on_place spot) (sym (slice_get-map (moved from to) fs i)) ∙ h)
  where
    one : (b : Bool) (x : Option Spot) → is_at from x ≡ b → is_at spot (cond b (Some to) x) ≡ true →
        ((is_at from x ≡ true) × (spot_eq to spot ≡ true)) ⊎ (is_at spot x ≡ true)
    one true x e h = inl (e, h)
    one false x e h = inr h

    by : (o : Option (Option Spot)) → on_place spot (option_map (moved from to) o) ≡ true →
        ((on_place from o ≡ true) × (spot_eq to spot ≡ true)) ⊎ (on_place spot o ≡ true)
    by (Some x) h = one (is_at from x) x refl h
    by None h = cc

moves : (fs : List (Option Spot)) (from to : Spot) → ((x : Option Spot) → In x fs → is_at to x ≡ false) → Single fs →
    Single (map (moved from to) fs)
moves fs from to free s spot i j h k = by (came fs from to spot i h) (came fs from to spot j k)
  where
    by : Came fs from to spot i → Came fs from to spot j → i ≡ j
    by (inl a) (inl b) = s from i j a.0 b.0
    by (inr a) (inr b) = s spot i j a b
    by (inl a) (inr b) = not_free fs to spot j free a.1 b
    by (inr a) (inl b) = not_free fs to spot i free b.1 a

stayed : (fs : List (Option Spot)) (gone spot : Spot) (i : ℕ) → is_there (map (removed gone) fs) spot i ≡ true →
    is_there fs spot i ≡ true
stayed fs gone spot i h = by (slice_get fs i) (ap (on_place spot) (sym (slice_get-map (removed gone) fs i)) ∙ h)
  where
    one : (b : Bool) (x : Option Spot) → is_at spot (cond b None x) ≡ true → is_at spot x ≡ true
    one true x h = cc
    one false x h = h

    by : (o : Option (Option Spot)) → on_place spot (option_map (removed gone) o) ≡ true → on_place spot o ≡ true
    by (Some x) h = one (is_at gone x) x h
    by None h = cc

single_step : (n : DirState) (p : ℕ) (request : Request) (reply : Reply) → is_reply n p request reply ≡ true →
    Single n.namespace.folders → Single (namespace_replied n.namespace p request reply).folders
single_step n p (MakeFolder spot) Done is s =
    made n.namespace.folders spot (none_at n.namespace spot
    (refused_if (stands n.namespace spot) Exists (none_refused n p (MakeFolder spot) refl is))) s
single_step n p (MoveFolder from to) Done is s =
    moves n.namespace.folders from to (none_at n.namespace to (stands_from n p from to is).1) s
single_step n p (RemoveFolder gone) Done is s =
    λ spot i j h k. s spot i j (stayed n.namespace.folders gone spot i h) (stayed n.namespace.folders gone spot j k)
single_step n p (Open spot which) (Opened h) is s = s
single_step n p (OpenArea area) (Opened h) is s = s
single_step n p request (Opened h) is s = s
single_step n p request Done is s = s
single_step n p request reply is s = s

single_from : (es : List Event) (n : DirState) → is_run_from n es ≡ true → Single n.namespace.folders →
    Single (states_next n es).namespace.folders
single_from [] n run s = s
single_from (e ∷ es) n run s =
    let a = and_parts (is_allowed n e) (is_run_from (state_next n e) es) run in
    let b = allowed_parts n e a.0 in
    single_from es (state_next n e) a.1 (single_step n e.process e.request e.reply b.1 s)

pub single : (trace : List Event) → IsRun trace → Single (state_after trace).namespace.folders
single trace run = single_from trace empty_state run (λ spot i j h k. absurd (cc))

-- a folder that stands somewhere is found there
pub number_there : (fs : List (Option Spot)) (i : ℕ) (here : Spot) → slice_get fs i ≡ Some (Some here) →
    is_there fs here i ≡ true
number_there fs i here e = ap (on_place here) e ∙ spot_self here

pub number_stands : (n : Namespace) (i : ℕ) (here : Spot) → slice_get n.folders i ≡ Some (Some here) → stands n here ≡ true
number_stands n i here e = by (stands n here) refl
  where
    by : (b : Bool) → stands n here ≡ b → stands n here ≡ true
    by true h = h
    by false h = not_free n.folders here here i (none_at n here h) (spot_self here) (number_there n.folders i here e)
