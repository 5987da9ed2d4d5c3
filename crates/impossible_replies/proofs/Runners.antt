-- Who holds a pod that it moved to run runs it.
use Rattle.std.proofs.Common.{◌≡◌, ◌⊎◌, inl, inr, ℕ, Bool, true, false, not, ◌&&◌, ◌||◌, ◌==◌, cond, bytes_eq, Option, Some, None, is_some, List, [], ◌∷◌, ◌++◌, map, filter, refl, sym, ap, subst, ◌∙◌}
use Rattle.std.specs.List.{list_any}
use Rattle.std.proofs.lemmas.Bool.{and_parts}
use Rattle.plain_laws.proofs.Booleans.{clash}
use Rattle.plain_laws.proofs.Lists.{any_filtered}
use Rattle.plain_laws.proofs.Texts.{same_text}
use Rattle.dir_model.specs.declared.area.Area.{Area}
use Rattle.dir_model.specs.declared.area.Area.TheVariants as area
use Rattle.dir_model.specs.declared.spot.Mode.{Mode}
use Rattle.dir_model.specs.declared.spot.Mode.TheVariants.{Shared, Exclusive}
use Rattle.dir_model.specs.declared.spot.Spot.{Spot}
use Rattle.dir_model.specs.declared.spot.Handle.{Handle}
use Rattle.dir_model.specs.declared.opening.Target.{Target}
use Rattle.dir_model.specs.declared.opening.Target.TheVariants.{Own, Claim, Gate}
use Rattle.dir_model.specs.declared.event.Event.{Event}
use Rattle.dir_model.specs.declared.request.Request.{Request}
use Rattle.dir_model.specs.declared.request.Request.TheVariants.{Begin, MakeFolder, MoveFolder, Open, OpenArea, TryLock, Close, Finish}
use Rattle.dir_model.specs.declared.request.Reply.{Reply}
use Rattle.dir_model.specs.declared.request.Reply.TheVariants.{Done, Opened, Refused}
use Rattle.dir_model.specs.Areas.{is_stage}
use Rattle.dir_model.specs.Local.{is_own_of}
use Rattle.dir_model.specs.Locks.{is_exclusive, target_of}
use Rattle.dir_model.specs.State.{DirState, empty_state, folder_at, stands, lives, has_begun}
use Rattle.dir_model.specs.Trace.{state_after, namespace_replied}
use Rattle.dir_model.specs.Calls.{is_begin, is_kill, is_foreign}
use Rattle.dir_model.proofs.Chains.{state_after-push}
use Rattle.dir_model.proofs.Lists.{and_left, and_right, and_both, not_true, or_last, same_number}
use Rattle.dir_model.proofs.Spots.{spot_self}
use Rattle.dir_rules.specs.declared.seen.Seen.{Seen}
use Rattle.dir_rules.specs.declared.standing.Held.{Held}
use Rattle.dir_rules.specs.declared.standing.Standing.{Standing}
use Rattle.dir_rules.specs.Standing.{is_in, is_spot_of_pod, is_garbage, area_of, intends, draws, began_as, is_remover, is_run_prepared, is_own_held, holds_own, shares_area, last_move_of, find_held, held_with_mode, is_handle_held, uncover, uncovered_by_close, standing_replied}
use Rattle.dir_rules.specs.LockRules.{on_spot, moved_in, holds_pod, may_lock_by, may_lock_own, may_lock_target}
use Rattle.dir_rules.specs.Rules.{runs}
use Rattle.dir_rules.specs.Conforms.{nothing_seen, seen_of, seen_replied}
use Rattle.dir_rules.proofs.Standings.{standing_is, looked_holdings}
use Rattle.dir_rules.proofs.Unborn.{unborn_saw_nothing}
use Rattle.lifecycle.specs.declared.machine.PodState.{PodState}
use Rattle.lifecycle.specs.declared.machine.PodState.TheVariants.{Absent, Embryo, Preparing, Prepared, Running, Exited, Deleting}
use Rattle.lifecycle.specs.declared.machine.Transition.{Transition}
use Rattle.lifecycle.specs.declared.machine.Transition.TheVariants as turn
use Rattle.lifecycle.specs.PodMachine.{after_transition, transition, exists, is_area_of_state, is_owner, pod_state, pod_state_next}
use Rattle.lifecycle.specs.Executions.{IsConforming}
use Rattle.lifecycle.proofs.Lists.{In, any_in, in_any, in_map, find_in}
use Rattle.lifecycle.proofs.Handles.{lock_free}
use Rattle.lifecycle.proofs.Linked.{Bare, own, open_held}
use Rattle.lifecycle.proofs.Locks.{Lock, lock_of}
use Rattle.lifecycle.proofs.Closes.{any_mapped, held_once}
use Rattle.lifecycle.proofs.Invariant.{may_own, grip_of, holding}
use Rattle.lifecycle.proofs.Owners.{after_run, may_last, traced, is_move_of, same_moves, holder_owns}
use Rattle.lifecycle.proofs.Stays.{machine_append}
use Rattle.lifecycle.proofs.Phases.{stands_exists}
use Rattle.lifecycle.proofs.Places.{same_name, moved_there, none_stands}
use Rattle.lifecycle.proofs.Step.{stands_from}
use Rattle.folder_contents.proofs.Along.{Happens, happens, along, whose, foreign_same, own_next, sound_at, linked_at, knows_at, pod_at}
use Rattle.folder_contents.proofs.Knowledge.{lived}
use Rattle.folder_contents.proofs.Guards.{kinds_apart}
use Rattle.folder_contents.proofs.Spots.{in_area}
use Rattle.impossible_replies.proofs.Alongside.{Steps, steps}
use Rattle.impossible_replies.proofs.Fits.{is_fit, fits}
use Rattle.impossible_replies.proofs.Origins.{at}
use Rattle.impossible_replies.proofs.Brought.{no_starter}
use Rattle.impossible_replies.proofs.Movers.{starts, moved_as}

-- its last move
pub last_run : (s : Seen) (u : List ℕ) → on_spot (λ spot. is_in area.Run spot.area) (last_move_of u s.standing.moves) ≡ true →
    (spot : Spot) × ((last_move_of u s.standing.moves ≡ Some spot) × ((is_in area.Run spot.area ≡ true) × (In spot s.standing.moves × (is_spot_of_pod u spot ≡ true))))
last_run s u h = by (last_move_of u s.standing.moves) refl h
  where
    by : (o : Option Spot) → last_move_of u s.standing.moves ≡ o → on_spot (λ spot. is_in area.Run spot.area) o ≡ true →
        (spot : Spot) × ((last_move_of u s.standing.moves ≡ Some spot) × ((is_in area.Run spot.area ≡ true) × (In spot s.standing.moves × (is_spot_of_pod u spot ≡ true))))
    by None e h = cc
    by (Some spot) e h = (spot, (e, (h, find_in (is_spot_of_pod u) spot s.standing.moves e)))

module _ (h : List Event) (p : ℕ) (conforming : IsConforming h) (u : List ℕ) where
  abbrev s : Seen
  s = seen_of p h

  past : on_spot (λ spot. is_in area.Run spot.area) (last_move_of u s.standing.moves) ≡ true → after_run (pod_state u h) p ≡ true
  past last =
      let x = last_run s u last in
      subst (λ (a : Area). may_last (pod_state u h) p a ≡ true) (sym (in_area area.Run x.0.area x.1.1.0))
      ((traced u h conforming p).last x.0 (ap (λ (k : Standing). last_move_of u k.moves) (sym (standing_is p h)) ∙ x.1.0))

  starter : on_spot (λ spot. is_in area.Run spot.area) (last_move_of u s.standing.moves) ≡ true → intends (λ i. starts i.kind) s.standing.intent ≡ true
  starter last = let x = last_run s u last in (moved_as h conforming p).run x.0 x.1.1.1.0 x.1.1.0

  pub run_state : lives (state_after h).namespace p ≡ true → runs s u ≡ true → exists (pod_state u h) ≡ true → pod_state u h ≡ Running p
  run_state living running there = by (pod_state u h) refl owner (past x.1)
    where
      x : (holds_own u s.standing ≡ true) × (on_spot (λ spot. is_in area.Run spot.area) (last_move_of u s.standing.moves) ≡ true)
      x = and_parts (holds_own u s.standing) (on_spot (λ spot. is_in area.Run spot.area) (last_move_of u s.standing.moves)) running

      moved : moved_in u s.standing ≡ true
      moved = let y = last_run s u x.1 in ap (on_spot (λ spot. is_in area.Prepare spot.area || is_in area.Run spot.area)) y.1.0
          ∙ or_last (is_in area.Prepare y.0.area) (is_in area.Run y.0.area) y.1.1.0

      holds : holds_pod u s.standing ≡ true
      holds =
          let y = any_in (is_own_held u) s.standing.holdings x.0 in
          in_any (λ h. is_own_held u h && (moved_in u s.standing || is_garbage (area_of h.target))) y.0 s.standing.holdings y.1.0
          (and_both (is_own_held u y.0) (moved_in u s.standing || is_garbage (area_of y.0.target)) y.1.1
          (ap (λ b. b || is_garbage (area_of y.0.target)) moved))

      owner : is_owner p (pod_state u h) ≡ true
      owner = holder_owns u h p conforming there living (ap (holds_pod u) (sym (standing_is p h)) ∙ holds)

      deleter : (o : ℕ) (f : Area) → pod_state u h ≡ Deleting o f → ⊥
      deleter o f e =
          let n = (state_after h).namespace in
          let a = holding p n s.standing (grip_of u) (linked_at p h conforming living) x.0 in
          let may = (pod_at u h conforming).owns a.0 a.1.0 a.1.1.1 in
          let garbage = and_right (a.0.process == o) (is_garbage (area_of a.0.target)) (subst (λ (z : PodState). may_own z a.0.process (area_of a.0.target) ≡ true) e may) in
          let y = open_held p n s.standing a.0 (linked_at p h conforming living) a.1.0 a.1.1.0 in
          let g = and_parts (is_own_of u a.0.target) (is_exclusive a.0.lock) a.1.1.1 in
          kinds_apart starts is_remover no_starter s.standing.intent (starter x.1)
          (fit a.0.target a.0.lock g.0 g.1 garbage (subst (λ (b : Bare). is_fit s.standing.intent b.target b.lock ≡ true) y.1.1 (fits h conforming p y.0 y.1.0)))
        where
          fit : (t : Target) (l : Option Mode) → is_own_of u t ≡ true → is_exclusive l ≡ true → is_garbage (area_of t) ≡ true → is_fit s.standing.intent t l ≡ true →
              intends (λ i. is_remover i.kind) s.standing.intent ≡ true
          fit (Own spot) (Some Exclusive) of on g k = ap (λ b. not b || intends (λ i. is_remover i.kind) s.standing.intent) (sym g) ∙ k
          fit (Own spot) (Some Shared) of on g k = cc
          fit (Own spot) None of on g k = cc
          fit (Claim spot) l of on g k = cc
          fit (Gate a) l of on g k = cc

      by : (z : PodState) → pod_state u h ≡ z → is_owner p z ≡ true → after_run z p ≡ true → z ≡ Running p
      by (Running o) e own after = ap Running (sym (same_number p o own))
      by (Preparing o) e own after = cc
      by (Deleting o f) e own after = absurd (deleter o f e)
      by z e own after = cc

-- a lock that it had before, or has now
own_gained : (h : List Event) (p : ℕ) (u : List ℕ) (request : Request) (reply : Reply) → Steps h p request reply →
    on_spot (λ spot. is_in area.Run spot.area) (last_move_of u (seen_of p h).standing.moves) ≡ true →
    holds_own u (standing_replied (seen_of p h).standing request reply) ≡ true → holds_own u (seen_of p h).standing ≡ true
own_gained h p u request reply x last had = go request reply x had
  where
    never : (z : PodState) → pod_state u h ≡ z → after_run z p ≡ false → ⊥
    never z e off = clash (after_run (pod_state u h) p) (past h p x.conforming u last) (ap (λ (y : PodState). after_run y p) e ∙ off)

    locked : (handle : Handle) (m : Mode) → Steps h p (TryLock handle m) Done → list_any (is_own_held u) (map (held_with_mode handle m) (seen_of p h).standing.holdings) ≡ true →
        holds_own u (seen_of p h).standing ≡ true
    locked handle m x had =
        let e = any_in (is_own_held u) (map (held_with_mode handle m) (seen_of p h).standing.holdings) had in
        let i = in_map (held_with_mode handle m) (seen_of p h).standing.holdings e.0 e.1.0 in
        by i.0 i.1.0 (is_handle_held handle i.0) refl (ap (is_own_held u) (sym i.1.1) ∙ e.1.1)
      where
        lock : Lock p (state_after h).namespace (seen_of p h).standing handle m
        lock = lock_of p (state_after h).namespace (seen_of p h).standing handle m (sound_at h x.conforming) (linked_at p h x.conforming x.living)
            (lock_free (state_after h) p handle m x.is) (and_left (may_lock_by (seen_of p h).standing (find_held handle (seen_of p h).standing) m) _ x.may)

        refused : (t : Target) → lock.held.target ≡ t → is_own_of u t ≡ true → may_lock_target (seen_of p h).standing lock.held.covered t Exclusive ≡ true → ⊥
        refused (Own spot) same of may = at spot.area may
          where
            name : spot.name ≡ u
            name = same_text spot.name u (and_right (is_stage spot.area) (bytes_eq spot.name u) of)

            at : (a : Area) → may_lock_own (seen_of p h).standing lock.held.covered spot.name a Exclusive ≡ true → ⊥
            at area.Embryo g =
                let y = and_parts (seen_of p h).standing.embryo_under_lock (draws spot.name (seen_of p h).standing) g in
                never (Embryo p) ((knows_at u p h x.conforming x.living).embryo_under_lock y.0 (subst (λ (v : List ℕ). draws v (seen_of p h).standing ≡ true) name y.1)) refl
            at area.Prepared g = never Prepared ((knows_at u p h x.conforming x.living).covered lock.held lock.known
                (subst (λ (t : Target). is_own_of u t ≡ true) (sym same) of) (and_right (began_as is_run_prepared (seen_of p h).standing) lock.held.covered g)).0 refl
            at area.ExitedGarbage g = kinds_apart starts is_remover no_starter (seen_of p h).standing.intent (starter h p x.conforming u last) g
            at area.Garbage g = kinds_apart starts is_remover no_starter (seen_of p h).standing.intent (starter h p x.conforming u last) g
            at a g = cc
        refused (Claim spot) same of may = cc
        refused (Gate a) same of may = cc

        new : (y : Held) → In y (seen_of p h).standing.holdings → is_handle_held handle y ≡ true → (m2 : Mode) → m ≡ m2 → (is_own_of u y.target && is_exclusive (Some m2)) ≡ true → ⊥
        new y j num Shared same t = clash false (and_right (is_own_of u y.target) false t) refl
        new y j num Exclusive same t =
            let target : lock.held.target ≡ y.target = ap (λ (b : Bare). b.target)
            (held_once p (state_after h).namespace (seen_of p h).standing handle lock.held y (sound_at h x.conforming) (linked_at p h x.conforming x.living) lock.known j lock.number num) in
            refused y.target target (and_left (is_own_of u y.target) true t)
            (subst (λ (z : Mode). may_lock_target (seen_of p h).standing lock.held.covered y.target z ≡ true) same
            (subst (λ (t : Target). may_lock_target (seen_of p h).standing lock.held.covered t m ≡ true) (ap (λ (b : Bare). b.target) (sym lock.same) ∙ target) lock.may))

        by : (y : Held) → In y (seen_of p h).standing.holdings → (b : Bool) → is_handle_held handle y ≡ b → is_own_held u (held_with_mode handle m y) ≡ true → holds_own u (seen_of p h).standing ≡ true
        by y j false e t = in_any (is_own_held u) y (seen_of p h).standing.holdings j (ap (λ b. is_own_held u (cond b (record y { lock = Some m }) y)) (sym e) ∙ t)
        by y j true e t = absurd (new y j e m refl (ap (λ b. is_own_held u (cond b (record y { lock = Some m }) y)) (sym e) ∙ t))

    go : (request : Request) (reply : Reply) → Steps h p request reply → holds_own u (standing_replied (seen_of p h).standing request reply) ≡ true → holds_own u (seen_of p h).standing ≡ true
    go request (Refused e left) x had = had
    go (Open spot w) (Opened g) x had = free (is_own_of u (target_of spot w)) had
      where
        free : (b : Bool) → ((b && false) || holds_own u (seen_of p h).standing) ≡ true → holds_own u (seen_of p h).standing ≡ true
        free true q = q
        free false q = q
    go (OpenArea a) (Opened g) x had = had
    go request (Opened g) x had = had
    go (MakeFolder spot) Done x had = by (is_stage spot.area) had
      where
        by : (b : Bool) → holds_own u (cond b (record (seen_of p h).standing { made = true; embryo_under_lock = shares_area area.Embryo (seen_of p h).standing }) (seen_of p h).standing) ≡ true →
            holds_own u (seen_of p h).standing ≡ true
        by true q = q
        by false q = q
    go (MoveFolder from to) Done x had = sym (any_mapped (is_own_held u) (uncover from) (seen_of p h).standing.holdings (λ y. refl)) ∙ had
    go (TryLock handle Shared) Done x had =
        locked handle Shared x (ap (λ (hs : List Held). list_any (is_own_held u) hs) (sym (looked_holdings (find_held handle (seen_of p h).standing) _)) ∙ had)
    go (TryLock handle Exclusive) Done x had = locked handle Exclusive x had
    go (Close handle) Done x had =
        any_filtered (is_own_held u) (λ y. not (is_handle_held handle y)) (seen_of p h).standing.holdings
        (sym (any_mapped (is_own_held u) (uncovered_by_close handle (seen_of p h).standing.holdings) (filter (λ y. not (is_handle_held handle y)) (seen_of p h).standing.holdings) (λ y. refl)) ∙ had)
    go Finish Done x had = cc
    go request Done x had = had
    go request reply x had = had

-- who runs a pod after a step that doesn't move it ran it before
pub runs_before : (h : List Event) (p : ℕ) (u : List ℕ) (request : Request) (reply : Reply) → Steps h p request reply → is_move_of u request reply ≡ false →
    runs (seen_replied (seen_of p h) request reply) u ≡ true → runs (seen_of p h) u ≡ true
runs_before h p u request reply x off r =
    let k = (seen_of p h).standing in
    let z = and_parts (holds_own u (standing_replied k request reply)) (on_spot (λ spot. is_in area.Run spot.area) (last_move_of u (standing_replied k request reply).moves)) r in
    let last = ap (on_spot (λ spot. is_in area.Run spot.area)) (sym (same_moves u k request reply off)) ∙ z.1 in
    and_both (holds_own u k) (on_spot (λ spot. is_in area.Run spot.area) (last_move_of u k.moves)) (own_gained h p u request reply x last z.0) last

-- who begins runs none
pub begun_runs : (u : List ℕ) (request : Request) (reply : Reply) → is_begin request ≡ true → runs (seen_replied nothing_seen request reply) u ≡ true → ⊥
begun_runs u (Begin intent) Done on r = cc
begun_runs u (Begin intent) (Refused er left) on r = cc
begun_runs u (Begin intent) reply on r = cc
begun_runs u request reply on r = cc

-- a pod that runs goes on to exist
exists_on : (o : Option Transition) (q p : ℕ) → exists (after_transition o q (Running p)) ≡ true
exists_on None q p = refl
exists_on (Some turn.End) q p = by (q == p)
  where
    by : (b : Bool) → exists (cond b Exited (Running p)) ≡ true
    by true = refl
    by false = refl
exists_on (Some turn.Make) q p = refl
exists_on (Some turn.BeginPrepare) q p = refl
exists_on (Some turn.Finish) q p = refl
exists_on (Some turn.Start) q p = refl
exists_on (Some turn.Mark) q p = refl
exists_on (Some turn.Sweep) q p = refl
exists_on (Some turn.BeginDelete) q p = refl
exists_on (Some turn.Remove) q p = refl

pub state_on : (u : List ℕ) (h : List Event) (e : Event) → pod_state u (h ++ e ∷ []) ≡ pod_state_next u (state_after h).namespace (pod_state u h) e
state_on u h e = machine_append u h (e ∷ []) empty_state Absent

abbrev Exists : ℕ → List ℕ → List Event → Type 0
Exists p u h = lives (state_after h).namespace p ≡ true → runs (seen_of p h) u ≡ true → exists (pod_state u h) ≡ true

exists_next : (p : ℕ) (u : List ℕ) (h : List Event) (e : Event) → IsConforming (h ++ e ∷ []) → Exists p u h → Exists p u (h ++ e ∷ [])
exists_next p u h e c was living running = by (whose p e)
  where
    x : Happens h e
    x = happens h e c

    kept : lives (state_after h).namespace p ≡ true → runs (seen_of p h) u ≡ true → exists (pod_state u (h ++ e ∷ [])) ≡ true
    kept l r =
        let z = run_state h p x.conforming u l r (was l r) in
        ap exists (state_on u h e) ∙ (ap (λ (y : PodState). exists (pod_state_next u (state_after h).namespace y e)) z
        ∙ exists_on (transition u (state_after h).namespace (Running p) e.process e.request e.reply) e.process p)

    moves : (request : Request) (reply : Reply) → Steps h p request reply → e.request ≡ request → e.reply ≡ reply → is_move_of u request reply ≡ true →
        exists (pod_state u (h ++ e ∷ [])) ≡ true
    moves (MoveFolder from to) Done y is done of =
        let n = (state_after h).namespace in
        let stood = stands_from (state_after h) p from to y.is in
        let after : stands (state_after (h ++ e ∷ [])).namespace to ≡ true =
        ap (λ (z : DirState). stands z.namespace to) (state_after-push h e)
        ∙ (ap (λ (r : Request). stands (namespace_replied n e.process r e.reply) to) is
        ∙ (ap (λ (r : Reply). stands (namespace_replied n e.process (MoveFolder from to) r) to) done
        ∙ (ap (λ (o : Option ℕ). is_some o) (moved_there n to from to (none_stands n to stood.1) (spot_self to)) ∙ stood.0))) in
        (stands_exists u (h ++ e ∷ []) to c of after).0
    moves (MoveFolder from to) (Refused er left) y is done of = cc
    moves request reply y is done of = cc

    own : Steps h p e.request e.reply → runs (seen_replied (seen_of p h) e.request e.reply) u ≡ true → (b : Bool) → is_move_of u e.request e.reply ≡ b →
        exists (pod_state u (h ++ e ∷ [])) ≡ true
    own y r true of = moves e.request e.reply y refl refl of
    own y r false off =
        kept y.living (runs_before h p u e.request e.reply y off r)

    by : (is_foreign p e ≡ true) ⊎ ((is_foreign p e ≡ false) × ((e.process ≡ p) × (is_kill e.request ≡ false))) → exists (pod_state u (h ++ e ∷ [])) ≡ true
    by (inl f) = kept (lived h e p f living) (subst (λ (s : Seen). runs s u ≡ true) (foreign_same p h e f) running)
    by (inr f) = on (is_begin e.request) refl
      where
        r : runs (seen_replied (seen_of p h) e.request e.reply) u ≡ true
        r = subst (λ (s : Seen). runs s u ≡ true) (own_next p h e f.0) running

        unborn : is_begin e.request ≡ true → has_begun (state_after h).namespace p ≡ false
        unborn on = subst (λ (q : ℕ). has_begun (state_after h).namespace q ≡ false) f.1.0
            (not_true (has_begun (state_after h).namespace e.process)
            (ap (λ c. cond c (not (has_begun (state_after h).namespace e.process)) (lives (state_after h).namespace e.process)) (sym on) ∙ x.due))

        on : (b : Bool) → is_begin e.request ≡ b → exists (pod_state u (h ++ e ∷ [])) ≡ true
        on false o = own (subst (λ (q : ℕ). Steps h q e.request e.reply) f.1.0 (steps h e c f.1.1 o)) r (is_move_of u e.request e.reply) refl
        on true o = absurd (begun_runs u e.request e.reply o (subst (λ (s : Seen). runs (seen_replied s e.request e.reply) u ≡ true) (unborn_saw_nothing p h x.conforming.run (unborn o)) r))

-- a living process that holds a pod which it moved to run runs it
pub running : (h : List Event) → IsConforming h → (p : ℕ) (u : List ℕ) → lives (state_after h).namespace p ≡ true → runs (seen_of p h) u ≡ true →
    pod_state u h ≡ Running p
running h conforming p u living r = run_state h p conforming u living r
    (along (λ h. (p : ℕ) (u : List ℕ) → Exists p u h) (λ p u living r. absurd (none p living)) (λ h e c was p u. exists_next p u h e c (was p u)) h conforming p u living r)
  where
    none : (p : ℕ) → lives (state_after []).namespace p ≡ true → ⊥
    none p h = cc

-- so the pod stands there
pub runner_found : (h : List Event) → IsConforming h → (p : ℕ) (u : List ℕ) → lives (state_after h).namespace p ≡ true → runs (seen_of p h) u ≡ true →
    (k : ℕ) × (folder_at (state_after h).namespace (at area.Run u) ≡ Some k)
runner_found h conforming p u living r =
    let pod = pod_at u h conforming in (
      pod.number,
      pod.at (at area.Run u) (same_name u u refl) ∙ ap (λ (z : PodState). cond (is_area_of_state area.Run z) (Some pod.number) None) (running h conforming p u living r),
    )
