-- Where nobody else steps, what no other process held at an own step none held before.
use Rattle.std.proofs.Common.{◌≡◌, ℕ, Bool, true, false, not, ◌&&◌, ◌==◌, List, refl, sym, ap, subst, ◌∙◌}
use Rattle.std.specs.List.{list_any}
use Rattle.dir_model.specs.declared.event.Event.{Event}
use Rattle.dir_model.specs.declared.opening.Opening.{Opening}
use Rattle.dir_model.specs.declared.opening.Target.{Target}
use Rattle.dir_model.specs.declared.opening.Target.TheVariants as target
use Rattle.dir_model.specs.declared.spot.Handle.{Handle}
use Rattle.dir_model.specs.declared.spot.Mode.TheVariants.{Shared}
use Rattle.dir_model.specs.declared.spot.Which.TheVariants.{Own}
use Rattle.dir_model.specs.declared.request.Request.{Request}
use Rattle.dir_model.specs.declared.request.Request.TheVariants.{OpenArea, Open, TryLock, Close, Finish, Kill}
use Rattle.dir_model.specs.declared.request.Reply.{Reply}
use Rattle.dir_model.specs.declared.request.Reply.TheVariants.{Done, Opened}
use Rattle.dir_model.specs.Calls.{Extends, AtOwnStep}
use Rattle.dir_model.specs.Locks.{is_handle, is_folder, is_own, opposes, owns}
use Rattle.dir_model.specs.Quiet.{Quiet}
use Rattle.dir_model.specs.State.{Namespace}
use Rattle.dir_model.specs.Trace.{state_after, namespace_replied, locked, opened, opened_gate}
use Rattle.dir_model.proofs.Lists.{and_left, and_right, any_push, any_filter, any_map}
use Rattle.dir_model.proofs.OpenHandles.{opposes_shared}
use Rattle.pod_locks.specs.ClaimCauses.{is_lock}
use Rattle.pod_locks.specs.Causes.{is_held_against}
use Rattle.commands.proofs.OwnSteps.{back_at, elsewhere, mine_only, same_openings}

not_mine : (me : ℕ) (test : Opening → Bool) (h : Handle) (o : Opening) → elsewhere me test o ≡ true → not (is_handle me h o) ≡ true
not_mine me test h o is = by (o.process == me) (o.handle.number == h.number) (and_left (not (o.process == me)) (test o) is)
  where
    by : (a b : Bool) → not a ≡ true → not (a && b) ≡ true
    by true b other = cc
    by false b other = refl

-- no own step takes away what others have open
kept_others : (me : ℕ) (w : Namespace) (request : Request) (reply : Reply) (test : Opening → Bool) → list_any (elsewhere me test) w.openings ≡ true → list_any (elsewhere me test) (namespace_replied w me request reply).openings ≡ true
kept_others me w (OpenArea area) (Opened handle) test any = any_push (elsewhere me test) w.openings (opened_gate me handle area) any
kept_others me w (OpenArea area) reply test any = any
kept_others me w (Open spot which) (Opened handle) test any = any_push (elsewhere me test) w.openings (opened w me handle spot which) any
kept_others me w (Open spot which) reply test any = any
kept_others me w (TryLock handle mode) Done test any = any_map (elsewhere me test) (locked me handle mode) (mine_only me test handle mode) w.openings ∙ any
kept_others me w (TryLock handle mode) reply test any = any
kept_others me w (Close handle) Done test any = any_filter (elsewhere me test) (λ o. not (is_handle me handle o)) (λ o is. not_mine me test handle o is) w.openings any
kept_others me w (Close handle) reply test any = any
kept_others me w Finish Done test any = any_filter (elsewhere me test) (λ o. not (o.process == me)) (λ o is. and_left (not (o.process == me)) (test o) is) w.openings any
kept_others me w Finish reply test any = any
kept_others me w Kill Done test any = any_filter (elsewhere me test) (λ o. not (o.process == me)) (λ o is. and_left (not (o.process == me)) (test o) is) w.openings any
kept_others me w Kill reply test any = any
kept_others me w request reply test any = subst (λ (os : List Opening). list_any (elsewhere me test) os ≡ true) (sym (same_openings me w request reply refl (λ handle. refl))) any

free_back : (me : ℕ) (w : Namespace) (request : Request) (reply : Reply) (test : Opening → Bool) → list_any (elsewhere me test) (namespace_replied w me request reply).openings ≡ false → list_any (elsewhere me test) w.openings ≡ false
free_back me w request reply test free = by (list_any (elsewhere me test) w.openings) refl
  where
    by : (b : Bool) → list_any (elsewhere me test) w.openings ≡ b → b ≡ false
    by false is = refl
    by true is = let clash : true ≡ false = sym (kept_others me w request reply test is) ∙ free in cc

pub free_before : {asks : Request → Bool} {me : ℕ} {old new : List Event} (test : Opening → Bool) → AtOwnStep me old new (λ s. list_any (elsewhere me test) s.namespace.openings ≡ false) → Extends asks me old new → Quiet me old new →
    list_any (elsewhere me test) (state_after old).namespace.openings ≡ false
free_before {asks} {me} test at ext quiet =
    back_at (λ s. list_any (elsewhere me test) s.namespace.openings ≡ false) asks me (λ s request reply h free. free_back me s.namespace request reply test free) at ext quiet

-- who holds a folder's own lock against a shared one holds it exclusively

own_is : (t : Target) → is_lock Own t ≡ is_own t
own_is (target.Own spot) = refl
own_is (target.Claim spot) = refl
own_is (target.Gate area) = refl

pub held_owns : (me folder : ℕ) (o : Opening) → is_held_against me Own Shared folder o ≡ true → owns folder o ≡ true
held_owns me folder o is =
    let held = and_right (not (o.process == me)) (is_folder folder o.folder && (is_lock Own o.target && opposes Shared o.lock)) is in
    sym (ap (λ b. is_folder folder o.folder && b) (ap (λ b. b && opposes Shared o.lock) (own_is o.target) ∙ ap (λ b. is_own o.target && b) (opposes_shared o.lock))) ∙ held
