-- While others step, an open handle goes on to stand for its folder, and holds no lock.
use Rattle.std.proofs.Common.{◌≡◌, ◌⊎◌, inl, inr, ℕ, Bool, true, false, not, ◌&&◌, ◌||◌, ◌==◌, cond, Option, Some, None, List, [], ◌∷◌, find, refl, sym, ap, ◌∙◌}
use Rattle.std.specs.List.{list_any, AllByRecursion}
use Rattle.dir_model.specs.declared.event.Event.{Event}
use Rattle.dir_model.specs.declared.opening.Opening.{Opening}
use Rattle.dir_model.specs.declared.opening.Target.{Target}
use Rattle.dir_model.specs.declared.opening.Target.TheVariants.{Own, Claim, Gate}
use Rattle.dir_model.specs.declared.spot.Handle.{Handle}
use Rattle.dir_model.specs.declared.spot.Mode.{Mode}
use Rattle.dir_model.specs.declared.spot.Mode.TheVariants.{Shared, Exclusive}
use Rattle.dir_model.specs.declared.request.Request.{Request}
use Rattle.dir_model.specs.declared.request.Request.TheVariants.{Open, OpenArea, TryLock, Close, Finish, Kill}
use Rattle.dir_model.specs.declared.request.Reply.{Reply}
use Rattle.dir_model.specs.declared.request.Reply.TheVariants.{Done, Opened, Refused}
use Rattle.dir_model.specs.Locks.{is_handle, is_exclusive, is_own, is_folder, is_one_lock, is_same_lock, opposes, owns}
use Rattle.dir_model.specs.State.{Namespace, DirState, is_owned}
use Rattle.dir_model.specs.Trace.{state_next, states_next, namespace_replied, locked, opened, opened_gate}
use Rattle.dir_model.specs.Replies.{is_locked, is_opposed}
use Rattle.dir_model.specs.Calls.{is_foreign, is_kill}
use Rattle.dir_model.proofs.Lists.{and_left, and_false, any_push, any_last, any_filter, any_map, all_filter, all_push, all_map, apart_clash}

-- what is known of an opening if it is this handle's
abbrev pub Plain : ℕ → Handle → ℕ → Opening → Type 0
Plain me handle folder o = is_handle me handle o ≡ true → (is_own o.target ≡ true) × ((o.folder ≡ Some folder) × (o.lock ≡ None))

-- the handle is open, stands for the lock of this folder and holds no lock
pub record Fresh (me : ℕ) (handle : Handle) (folder : ℕ) (w : Namespace) : Type 0 where
  pub here : list_any (is_handle me handle) w.openings ≡ true
  pub only : AllByRecursion (Plain me handle folder) w.openings

-- that, or the process is over
abbrev pub StillOpen : ℕ → Handle → ℕ → Namespace → Type 0
StillOpen me handle folder w = Fresh me handle folder w ⊎ (list_any (λ p. p == me) w.ended ≡ true)

-- another process's step leaves the handles of this one
locked_same : (p : ℕ) (h : Handle) (m : Mode) (me : ℕ) (handle : Handle) (o : Opening) → is_handle me handle (locked p h m o) ≡ is_handle me handle o
locked_same p h m me handle o = elim (is_handle p h o) as (λ b. is_handle me handle (cond b (record o { lock = Some m }) o) ≡ is_handle me handle o) [ true ↦ refl | false ↦ refl ]

locked_plain : (p : ℕ) (h : Handle) (m : Mode) (me : ℕ) (handle : Handle) (folder : ℕ) → (p == me) ≡ false → (o : Opening) → Plain me handle folder o → Plain me handle folder (locked p h m o)
locked_plain p h m me handle folder apart o plain = by (is_handle p h o) (λ it. and_left (o.process == p) (o.handle.number == h.number) it)
  where
    by : (b : Bool) → (b ≡ true → (o.process == p) ≡ true) → Plain me handle folder (cond b (record o { lock = Some m }) o)
    by true it mine = absurd (apart_clash o.process p me (it refl) (and_left (o.process == me) (o.handle.number == handle.number) mine) apart)
    by false it mine = plain mine

mine_kept : (p : ℕ) (h : Handle) (me : ℕ) (handle : Handle) → (p == me) ≡ false → (o : Opening) → is_handle me handle o ≡ true → not (is_handle p h o) ≡ true
mine_kept p h me handle apart o mine = by (is_handle p h o) (λ it. and_left (o.process == p) (o.handle.number == h.number) it)
  where
    by : (b : Bool) → (b ≡ true → (o.process == p) ≡ true) → not b ≡ true
    by true it = absurd (apart_clash o.process p me (it refl) (and_left (o.process == me) (o.handle.number == handle.number) mine) apart)
    by false it = refl

mine_stays : (p me : ℕ) (handle : Handle) → (p == me) ≡ false → (o : Opening) → is_handle me handle o ≡ true → not (o.process == p) ≡ true
mine_stays p me handle apart o mine = by (o.process == p) (λ it. it)
  where
    by : (b : Bool) → (b ≡ true → (o.process == p) ≡ true) → not b ≡ true
    by true it = absurd (apart_clash o.process p me (it refl) (and_left (o.process == me) (o.handle.number == handle.number) mine) apart)
    by false it = refl

by_other : (me : ℕ) (handle : Handle) (folder p : ℕ) (w : Namespace) (request : Request) (reply : Reply) → (p == me) ≡ false → Fresh me handle folder w → Fresh me handle folder (namespace_replied w p request reply)
by_other me handle folder p w request (Refused error left) apart f = f
by_other me handle folder p w (Open spot which) (Opened h) apart f = record {
  here = any_push (is_handle me handle) w.openings (opened w p h spot which) f.here;
  only = all_push (Plain me handle folder) w.openings (opened w p h spot which) f.only (λ mine. let e : true ≡ false = sym (and_left (p == me) (h.number == handle.number) mine) ∙ apart in cc);
}
by_other me handle folder p w (OpenArea area) (Opened h) apart f = record {
  here = any_push (is_handle me handle) w.openings (opened_gate p h area) f.here;
  only = all_push (Plain me handle folder) w.openings (opened_gate p h area) f.only (λ mine. let e : true ≡ false = sym (and_left (p == me) (h.number == handle.number) mine) ∙ apart in cc);
}
by_other me handle folder p w _ (Opened h) apart f = f
by_other me handle folder p w (TryLock h mode) Done apart f = record {
  here = any_map (is_handle me handle) (locked p h mode) (locked_same p h mode me handle) w.openings ∙ f.here;
  only = all_map (Plain me handle folder) (locked p h mode) (locked_plain p h mode me handle folder apart) w.openings f.only;
}
by_other me handle folder p w (Close h) Done apart f = record {
  here = any_filter (is_handle me handle) (λ o. not (is_handle p h o)) (mine_kept p h me handle apart) w.openings f.here;
  only = all_filter (Plain me handle folder) (λ o. not (is_handle p h o)) w.openings f.only;
}
by_other me handle folder p w Finish Done apart f = record {
  here = any_filter (is_handle me handle) (λ o. not (o.process == p)) (mine_stays p me handle apart) w.openings f.here;
  only = all_filter (Plain me handle folder) (λ o. not (o.process == p)) w.openings f.only;
}
by_other me handle folder p w Kill Done apart f = record {
  here = any_filter (is_handle me handle) (λ o. not (o.process == p)) (mine_stays p me handle apart) w.openings f.here;
  only = all_filter (Plain me handle folder) (λ o. not (o.process == p)) w.openings f.only;
}
by_other me handle folder p w _ Done apart f = record { here = f.here; only = f.only }
by_other me handle folder p w request reply apart f = f

ended_stays : (me p : ℕ) (w : Namespace) (request : Request) (reply : Reply) → list_any (λ q. q == me) w.ended ≡ true → list_any (λ q. q == me) (namespace_replied w p request reply).ended ≡ true
ended_stays me p w request (Refused error left) h = h
ended_stays me p w (Open spot which) (Opened handle) h = h
ended_stays me p w _ (Opened handle) h = h
ended_stays me p w Finish Done h = any_push (λ q. q == me) w.ended p h
ended_stays me p w Kill Done h = any_push (λ q. q == me) w.ended p h
ended_stays me p w _ Done h = h
ended_stays me p w request reply h = h

-- this process's own kill, however it was answered
by_kill : (me : ℕ) (handle : Handle) (folder p : ℕ) (w : Namespace) (reply : Reply) → (p == me) ≡ true → Fresh me handle folder w → StillOpen me handle folder (namespace_replied w p Kill reply)
by_kill me handle folder p w Done same f = inr (any_last (λ q. q == me) w.ended p same)
by_kill me handle folder p w (Opened h) same f = inl f
by_kill me handle folder p w reply same f = inl f

-- a foreign event
by_foreign : (me : ℕ) (handle : Handle) (folder p : ℕ) (w : Namespace) (request : Request) (reply : Reply) (b : Bool) → (p == me) ≡ b → (not b || is_kill request) ≡ true → StillOpen me handle folder w → StillOpen me handle folder (namespace_replied w p request reply)
by_foreign me handle folder p w request reply b is foreign (inr over) = inr (ended_stays me p w request reply over)
by_foreign me handle folder p w request reply false is foreign (inl f) = inl (by_other me handle folder p w request reply is f)
by_foreign me handle folder p w Kill reply true is foreign (inl f) = by_kill me handle folder p w reply is f
by_foreign me handle folder p w _ reply true is foreign (inl f) = cc

pub still_open : (me : ℕ) (handle : Handle) (folder : ℕ) (s : DirState) (es : List Event) → AllByRecursion (λ e. is_foreign me e ≡ true) es → StillOpen me handle folder s.namespace → StillOpen me handle folder (states_next s es).namespace
still_open me handle folder s [] a k = k
still_open me handle folder s (e ∷ es) a k = still_open me handle folder (state_next s e) es a.1 (by_foreign me handle folder e.process s.namespace e.request e.reply (e.process == me) refl a.0 k)

-- the lock's answer tells whether another holds it exclusively
pub opposes_shared : (lock : Option Mode) → opposes Shared lock ≡ is_exclusive lock
opposes_shared None = refl
opposes_shared (Some Shared) = refl
opposes_shared (Some Exclusive) = refl

plain_found : (me : ℕ) (handle : Handle) (folder : ℕ) (xs : List Opening) → list_any (is_handle me handle) xs ≡ true → AllByRecursion (Plain me handle folder) xs → (x : Opening) × ((find (is_handle me handle) xs ≡ Some x) × ((is_own x.target ≡ true) × ((x.folder ≡ Some folder) × (x.lock ≡ None))))
plain_found me handle folder [] h a = cc
plain_found me handle folder (x ∷ xs) h a = by (is_handle me handle x) refl h (λ later. plain_found me handle folder xs later a.1)
  where
    by : (b : Bool) → is_handle me handle x ≡ b → (b || list_any (is_handle me handle) xs) ≡ true → (list_any (is_handle me handle) xs ≡ true → (y : Opening) × ((find (is_handle me handle) xs ≡ Some y) × ((is_own y.target ≡ true) × ((y.folder ≡ Some folder) × (y.lock ≡ None))))) → (y : Opening) × ((cond b (Some x) (find (is_handle me handle) xs) ≡ Some y) × ((is_own y.target ≡ true) × ((y.folder ≡ Some folder) × (y.lock ≡ None))))
    by true is h later = (x, (refl, a.0 is))
    by false is h later = later h

and_always : (b : Bool) → b ≡ (b && true)
and_always true = refl
and_always false = refl

one_lock : (a b : Target) (folder : ℕ) (other : Option ℕ) → is_own a ≡ true → is_one_lock a (Some folder) b other ≡ (is_folder folder other && is_own b)
one_lock (Own s) (Own t) folder other h = and_always (is_folder folder other)
one_lock (Own s) (Claim t) folder other h = sym (and_false (is_folder folder other))
one_lock (Own s) (Gate b) folder other h = sym (and_false (is_folder folder other))
one_lock (Claim s) b folder other h = cc
one_lock (Gate a) b folder other h = cc

pub and_moves : (a b c : Bool) → ((a && b) && c) ≡ (a && (b && c))
and_moves true b c = refl
and_moves false b c = refl

one_test : (me : ℕ) (handle : Handle) (folder : ℕ) (x o : Opening) → is_own x.target ≡ true → x.folder ≡ Some folder → Plain me handle folder o → (not (is_handle me handle o) && (is_same_lock x o && opposes Shared o.lock)) ≡ owns folder o
one_test me handle folder x o own at plain = by (is_handle me handle o) refl
  where
    by : (b : Bool) → is_handle me handle o ≡ b → (not b && (is_same_lock x o && opposes Shared o.lock)) ≡ (is_folder folder o.folder && (is_own o.target && is_exclusive o.lock))
    by true is = sym (ap (λ l. is_folder folder o.folder && (is_own o.target && is_exclusive l)) (plain is).1.1 ∙ (ap (λ b. is_folder folder o.folder && b) (and_false (is_own o.target)) ∙ and_false (is_folder folder o.folder)))
    by false is = ap (λ b. b && opposes Shared o.lock) (ap (λ (f : Option ℕ). is_one_lock x.target f o.target o.folder) at ∙ one_lock x.target o.target folder o.folder own) ∙ (and_moves (is_folder folder o.folder) (is_own o.target) (opposes Shared o.lock) ∙ ap (λ b. is_folder folder o.folder && (is_own o.target && b)) (opposes_shared o.lock))

all_tests : (me : ℕ) (handle : Handle) (folder : ℕ) (x : Opening) (xs : List Opening) → is_own x.target ≡ true → x.folder ≡ Some folder → AllByRecursion (Plain me handle folder) xs → list_any (λ o. not (is_handle me handle o) && (is_same_lock x o && opposes Shared o.lock)) xs ≡ list_any (owns folder) xs
all_tests me handle folder x [] own at a = refl
all_tests me handle folder x (y ∷ ys) own at a = rw (one_test me handle folder x y own at a.0, all_tests me handle folder x ys own at a.1) refl

pub locked_is_owned : (me : ℕ) (handle : Handle) (folder : ℕ) (w : Namespace) → Fresh me handle folder w → is_locked w me handle Shared ≡ is_owned w folder
locked_is_owned me handle folder w f =
    let x = plain_found me handle folder w.openings f.here f.only in
    ap (is_opposed w me handle Shared) x.1.0 ∙ all_tests me handle folder x.0 w.openings x.1.1.0 x.1.1.1.0 f.only
