-- The machine by events alone is the machine by the namespace.
use Rattle.std.proofs.Common.{◌≡◌, inl, inr, ℕ, Bool, true, false, not, ◌&&◌, ◌==◌, cond, Option, Some, None, List, [], ◌∷◌, ◌++◌, map, filter, find, refl, sym, ap, ◌∙◌}
use Rattle.std.proofs.lemmas.Bool.{and_parts}
use Rattle.plain_laws.proofs.Booleans.{clash}
use Rattle.dir_model.specs.declared.spot.Handle.{Handle}
use Rattle.dir_model.specs.declared.spot.Mode.{Mode}
use Rattle.dir_model.specs.declared.spot.Mode.TheVariants.{Shared, Exclusive}
use Rattle.dir_model.specs.declared.spot.Which.TheVariants as which
use Rattle.dir_model.specs.declared.opening.Opening.{Opening}
use Rattle.dir_model.specs.declared.request.Request.{Request}
use Rattle.dir_model.specs.declared.request.Request.TheVariants.{Begin, MakeFolder, MoveFolder, Open, OpenArea, TryLock, Close, RemoveFolder, Kill}
use Rattle.dir_model.specs.declared.request.Request.TheVariants as request
use Rattle.dir_model.specs.declared.request.Reply.{Reply}
use Rattle.dir_model.specs.declared.request.Reply.TheVariants.{Done, Begun, Opened, Names, Items, Read, Refused}
use Rattle.dir_model.specs.Locks.{is_handle, is_exclusive}
use Rattle.dir_model.specs.State.{Namespace, DirState, empty_state}
use Rattle.dir_model.specs.Trace.{namespace_replied, locked, opened, opened_gate, state_next, states_next}
use Rattle.dir_model.specs.Replies.{is_reply}
use Rattle.dir_model.specs.Calls.{may_step, is_allowed, is_run_from, IsRun}
use Rattle.dir_rules.specs.Standing.{area_of, is_garbage}
use Rattle.dir_model.specs.Local.{is_own_of}
use Rattle.lifecycle.specs.declared.machine.PodState.{PodState}
use Rattle.lifecycle.specs.declared.machine.PodState.TheVariants.{Absent}
use Rattle.lifecycle.specs.declared.machine.Transition.{Transition}
use Rattle.lifecycle.specs.declared.machine.Transition.TheVariants as turn
use Rattle.lifecycle.specs.PodMachine.{after_transition, transition, transition_if, on_opening, is_deleter, is_exclusive_own, is_owner, is_gone}
use Rattle.lifecycle.proofs.Lists.{In}
use Rattle.lifecycle.proofs.Handles.{Sound, handle_meet, held}
use Rattle.dir_model.specs.declared.event.Event.{Event}
use Rattle.dir_model.specs.declared.item.Item.{Item}
use Rattle.dir_model.specs.declared.request.DirError.{DirError}
use Rattle.lifecycle.specs.declared.grip.Grip.{Grip}
use Rattle.lifecycle.specs.PodMachine.{pod_state_next, pod_state_from, pod_state}
use Rattle.lifecycle.specs.Watch.{Watch, is_this, on_grip, gripped, is_exclusive_mode, watched, grips_replied, watch_next, watch_from, watch}
use Rattle.lifecycle.proofs.SoundRuns.{step_sound}
use Rattle.dir_model.specs.Paths.{is_well_formed}
use Rattle.lifecycle.proofs.Handles.{is_due}
use Rattle.dir_model.proofs.Allowed.{allowed_parts}

abbrev grip : Opening → Grip
grip o = record {
  process = o.process;
  handle = o.handle;
  in_garbage = is_garbage (area_of o.target);
  exclusive =
      is_exclusive o.lock;
}

abbrev ours : List ℕ → List Opening → List Grip
ours u os = map grip (filter (λ o. is_own_of u o.target) os)

push_ours : (u : List ℕ) (os : List Opening) (o : Opening) → ours u (os ++ o ∷ []) ≡ cond (is_own_of u o.target)
    (ours u os ++ grip o ∷ []) (ours u os)
push_ours u [] o = by (is_own_of u o.target)
  where
    by : (b : Bool) → map grip (cond b (o ∷ []) []) ≡ cond b (grip o ∷ []) []
    by true = refl
    by false = refl
push_ours u (x ∷ os) o = by (is_own_of u x.target) (is_own_of u o.target) (push_ours u os o)
  where
    by : (b c : Bool) → ours u (os ++ o ∷ []) ≡ cond c (ours u os ++ grip o ∷ []) (ours u os) →
        map grip (cond b (x ∷ filter (λ o. is_own_of u o.target) (os ++ o ∷ []))
        (filter (λ o. is_own_of u o.target) (os ++ o ∷ []))) ≡ cond c
        (map grip (cond b (x ∷ filter (λ o. is_own_of u o.target) os) (filter (λ o. is_own_of u o.target) os)) ++ grip o
        ∷ []) (map grip (cond b (x ∷ filter (λ o. is_own_of u o.target) os) (filter (λ o. is_own_of u o.target) os)))
    by true true go = ap (λ (l : List Grip). grip x ∷ l) go
    by true false go = ap (λ (l : List Grip). grip x ∷ l) go
    by false true go = go
    by false false go = go

mode_exclusive : (m : Mode) → is_exclusive (Some m) ≡ is_exclusive_mode m
mode_exclusive Shared = refl
mode_exclusive Exclusive = refl

lock_ours : (u : List ℕ) (p : ℕ) (h : Handle) (m : Mode) (os : List Opening) →
    ours u (map (locked p h m) os) ≡ map (gripped p h (is_exclusive_mode m)) (ours u os)
lock_ours u p h m [] = refl
lock_ours u p h m (x ∷ os) = by (is_handle p h x) (is_own_of u x.target) refl refl (lock_ours u p h m os)
  where
    by : (b c : Bool) → is_handle p h x ≡ b → is_own_of u x.target ≡ c →
        ours u (map (locked p h m) os) ≡ map (gripped p h (is_exclusive_mode m)) (ours u os) →
        map grip (cond (is_own_of u (cond b (held m x) x).target)
        (cond b (held m x) x ∷ filter (λ o. is_own_of u o.target) (map (locked p h m) os))
        (filter (λ o. is_own_of u o.target) (map (locked p h m) os))) ≡ map (gripped p h (is_exclusive_mode m))
        (map grip (cond c (x ∷ filter (λ o. is_own_of u o.target) os) (filter (λ o. is_own_of u o.target) os)))
    by true true e f go = rw (e, f)
        (ap (λ (l : List Grip). record {
          process = x.process;
          handle = x.handle;
          in_garbage =
              is_garbage (area_of x.target);
          exclusive = is_exclusive (Some m);
        } ∷ l) go
        ∙ ap (λ b. record {
          process = x.process;
          handle = x.handle;
          in_garbage =
              is_garbage (area_of x.target);
          exclusive = b;
        } ∷ map (gripped p h (is_exclusive_mode m)) (ours u os))
        (mode_exclusive m))
    by true false e f go = rw f go
    by false true e f go = rw (e, f) (ap (λ (l : List Grip). grip x ∷ l) go)
    by false false e f go = rw f go

drop_ours : (u : List ℕ) (t : Opening → Bool) (r : Grip → Bool) (os : List Opening) →
    ((o : Opening) → t o ≡ r (grip o)) → ours u (filter t os) ≡ filter r (ours u os)
drop_ours u t r [] same = refl
drop_ours u t r (x ∷ os) same = by (t x) (is_own_of u x.target) refl refl (drop_ours u t r os same)
  where
    by : (b c : Bool) → t x ≡ b → is_own_of u x.target ≡ c → ours u (filter t os) ≡ filter r (ours u os) →
        map grip (filter (λ o. is_own_of u o.target) (cond b (x ∷ filter t os) (filter t os))) ≡ filter r
        (map grip (cond c (x ∷ filter (λ o. is_own_of u o.target) os) (filter (λ o. is_own_of u o.target) os)))
    by true true e f go = rw (f, sym (same x), e) (ap (λ (l : List Grip). grip x ∷ l) go)
    by true false e f go = rw f go
    by false true e f go = rw (sym (same x), e) go
    by false false e f go = go

grips_step : (u : List ℕ) (n : Namespace) (p : ℕ) (request : Request) (reply : Reply) →
    ours u (namespace_replied n p request reply).openings ≡ grips_replied u (ours u n.openings) p request reply
grips_step u n p (Open spot which.Own) (Opened h) = push_ours u n.openings (opened n p h spot which.Own)
grips_step u n p (Open spot which.Claim) (Opened h) = push_ours u n.openings (opened n p h spot which.Claim)
grips_step u n p (OpenArea a) (Opened h) = push_ours u n.openings (opened_gate p h a)
grips_step u n p (TryLock h m) Done = lock_ours u p h m n.openings
grips_step u n p (Close h) Done = drop_ours u (λ o. not (is_handle p h o)) (λ g. not (is_this p h g)) n.openings (λ o. refl)
grips_step u n p request.Finish Done =
    drop_ours u (λ o. not (o.process == p)) (λ g. not (g.process == p)) n.openings (λ o. refl)
grips_step u n p Kill Done = drop_ours u (λ o. not (o.process == p)) (λ g. not (g.process == p)) n.openings (λ o. refl)
grips_step u n p (Begin intent) Done = refl
grips_step u n p (MakeFolder spot) Done = refl
grips_step u n p (MoveFolder from to) Done = refl
grips_step u n p (RemoveFolder spot) Done = refl
grips_step u n p (Open spot which) Done = refl
grips_step u n p (OpenArea a) Done = refl
grips_step u n p request Done = refl
grips_step u n p request (Opened h) = refl
grips_step u n p request (Refused e left) = refl
grips_step u n p request Begun = refl
grips_step u n p request (Names x) = refl
grips_step u n p request (Items x) = refl
grips_step u n p request (Read x) = refl

-- a handle is found among all, and among the pod's
none_else : (u : List ℕ) (p : ℕ) (h : Handle) (os : List Opening) →
    ((a : Opening) → In a os → is_handle p h a ≡ true → is_own_of u a.target ≡ false) →
    find (is_this p h) (ours u os) ≡ None
none_else u p h [] off = refl
none_else u p h (x ∷ os) off = by (is_own_of u x.target) (is_handle p h x) refl refl (none_else u p h os (λ a i. off a (inr i)))
  where
    by : (b c : Bool) → is_own_of u x.target ≡ b → is_handle p h x ≡ c → find (is_this p h) (ours u os) ≡ None →
        find (is_this p h) (map grip (cond b (x ∷ filter (λ o. is_own_of u o.target) os)
        (filter (λ o. is_own_of u o.target) os))) ≡ None
    by true true e f go = clash (is_own_of u x.target) e (off x (inl refl) f)
    by true false e f go = rw f go
    by false c e f go = go

find_ours : (u : List ℕ) (p : ℕ) (h : Handle) (t : Opening → Bool) (r : Grip → Bool) (os : List Opening) →
    ((a b : Opening) → In a os → In b os → is_handle a.process a.handle b ≡ true → a ≡ b) →
    ((o : Opening) → t o ≡ (is_own_of u o.target && r (grip o))) → on_opening t (find (is_handle p h) os) ≡ on_grip r
    (find (is_this p h) (ours u os))
find_ours u p h t r [] unique same = refl
find_ours u p h t r (x ∷ os) unique same =
    by (is_handle p h x) (is_own_of u x.target) refl refl
    (find_ours u p h t r os (λ a b i j. unique a b (inr i) (inr j)) same)
  where
    by : (b c : Bool) → is_handle p h x ≡ b → is_own_of u x.target ≡ c →
        on_opening t (find (is_handle p h) os) ≡ on_grip r (find (is_this p h) (ours u os)) →
        on_opening t (cond b (Some x) (find (is_handle p h) os)) ≡ on_grip r
        (find (is_this p h) (map grip (cond c (x ∷ filter (λ o. is_own_of u o.target) os)
        (filter (λ o. is_own_of u o.target) os))))
    by true true e f go = rw e (same x ∙ ap (λ b. b && r (grip x)) f)
    by true false e f go = same x ∙ (ap (λ b. b && r (grip x)) f
        ∙ sym (ap (on_grip r) (none_else u p h os (λ a i is. ap (λ (z : Opening). is_own_of u z.target)
        (sym (unique x a (inl refl) (inr i) (handle_meet p h x a e is))) ∙ f))))
    by false true e f go = rw e go
    by false false e f go = go

refused_none : (u : List ℕ) (n : Namespace) (s : PodState) (p : ℕ) (request : Request) (e : DirError) (left : ℕ) →
    None ≡ transition u n s p request (Refused e left)
refused_none u n s p (TryLock g Shared) e left = refl
refused_none u n s p (TryLock g Exclusive) e left = refl
refused_none u n s p request e left = refl

opened_none : (u : List ℕ) (n : Namespace) (s : PodState) (p : ℕ) (request : Request) (h : Handle) →
    None ≡ transition u n s p request (Opened h)
opened_none u n s p (TryLock g Shared) h = refl
opened_none u n s p (TryLock g Exclusive) h = refl
opened_none u n s p request h = refl

begun_none : (u : List ℕ) (n : Namespace) (s : PodState) (p : ℕ) (request : Request) → None ≡ transition u n s p request Begun
begun_none u n s p (TryLock g Shared) = refl
begun_none u n s p (TryLock g Exclusive) = refl
begun_none u n s p request = refl

names_none : (u : List ℕ) (n : Namespace) (s : PodState) (p : ℕ) (request : Request) (x : List (List ℕ)) →
    None ≡ transition u n s p request (Names x)
names_none u n s p (TryLock g Shared) x = refl
names_none u n s p (TryLock g Exclusive) x = refl
names_none u n s p request x = refl

items_none : (u : List ℕ) (n : Namespace) (s : PodState) (p : ℕ) (request : Request) (x : List Item) →
    None ≡ transition u n s p request (Items x)
items_none u n s p (TryLock g Shared) x = refl
items_none u n s p (TryLock g Exclusive) x = refl
items_none u n s p request x = refl

read_none : (u : List ℕ) (n : Namespace) (s : PodState) (p : ℕ) (request : Request) (x : List ℕ) →
    None ≡ transition u n s p request (Read x)
read_none u n s p (TryLock g Shared) x = refl
read_none u n s p (TryLock g Exclusive) x = refl
read_none u n s p request x = refl

watched_same : (u : List ℕ) (n : Namespace) (s : PodState) (p : ℕ) (request : Request) (reply : Reply) → Sound n →
    watched u s (ours u n.openings) p request reply ≡ transition u n s p request reply
watched_same u n s p (TryLock h Exclusive) Done sound =
    ap (λ b. transition_if (not (is_gone s) && b) turn.BeginDelete)
    (sym (find_ours u p h (is_deleter u) (λ g. g.in_garbage) n.openings sound.unique (λ o. refl)))
watched_same u n s p (Close h) Done sound =
    ap (λ b. transition_if (is_owner p s && b) turn.End)
    (sym (find_ours u p h (is_exclusive_own u) (λ g. g.exclusive) n.openings sound.unique (λ o. refl)))
watched_same u n s p (TryLock h Shared) Done sound = refl
watched_same u n s p request Done sound = refl
watched_same u n s p request (Refused e left) sound = refused_none u n s p request e left
watched_same u n s p request (Opened h) sound = opened_none u n s p request h
watched_same u n s p request Begun sound = begun_none u n s p request
watched_same u n s p request (Names x) sound = names_none u n s p request x
watched_same u n s p request (Items x) sound = items_none u n s p request x
watched_same u n s p request (Read x) sound = read_none u n s p request x

watch_is_from : (u : List ℕ) (es : List Event) (n : DirState) (s : PodState) → Sound n.namespace →
    is_run_from n es ≡ true → watch_from u (record { state = s; grips = ours u n.namespace.openings }) es ≡ record
    { state = pod_state_from u n s es; grips = ours u (states_next n es).namespace.openings }
watch_is_from u [] n s sound run = refl
watch_is_from u (e ∷ es) n s sound run =
    let x = and_parts (is_allowed n e) (is_run_from (state_next n e) es) run in
    let y = allowed_parts n e x.0 in
    let next : watch_next u (record { state = s; grips = ours u n.namespace.openings }) e ≡ record
    { state = pod_state_next u n.namespace s e; grips = ours u (state_next n e).namespace.openings } =
    ap (λ (o : Option Transition). record {
      state = after_transition o e.process s;
      grips =
          grips_replied u (ours u n.namespace.openings) e.process e.request e.reply;
    })
    (watched_same u n.namespace s e.process e.request e.reply sound)
    ∙ ap (λ (gs : List Grip). record { state = pod_state_next u n.namespace s e; grips = gs })
    (sym (grips_step u n.namespace e.process e.request e.reply)) in
    ap (λ (w : Watch). watch_from u w es) next ∙ watch_is_from u es (state_next n e) (pod_state_next u n.namespace s e)
    (step_sound n e.process e.request e.reply (and_parts (is_well_formed e.request)
    (is_due n.namespace e.process e.request) y.0).1 y.1 sound) x.1

-- in every run
pub watch_is : (u : List ℕ) (h : List Event) → IsRun h → (watch u h).state ≡ pod_state u h
watch_is u h run = ap (λ (w : Watch). w.state) (watch_is_from u h empty_state Absent
    (record {
      unique = λ a b i j x. absurd i;
      alone = λ a b i j x y z. absurd i;
      living = λ a i. absurd i;
      bounded =
          λ a i f. absurd i;
    }) run)
