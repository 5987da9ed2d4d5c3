-- Where the lock of an area can't be had, some other handle holds it in a mode that conflicts; where the process has no
-- other handle on it, one of another process. Where it is had, no other process holds it so.
use Rattle.std.proofs.Common.{arith, ◌≡◌, ◌⊎◌, inl, inr, ℕ, Bool, true, false, not, ◌&&◌, ◌||◌, ◌==◌, cond}
use Rattle.std.proofs.Common.{Option, Some, None, List, [], ◌∷◌, ◌++◌, map, filter, find, refl, sym, ap, subst, ◌∙◌}
use Rattle.std.specs.List.{list_any}
use Rattle.std.proofs.lemmas.Bool.Decides.{nat_tests}
use Rattle.plain_laws.proofs.Lists.{any_but}
use Rattle.dir_model.specs.declared.area.Area.{Area}
use Rattle.dir_model.specs.declared.event.Event.{Event}
use Rattle.dir_model.specs.declared.opening.Holding.{Holding}
use Rattle.dir_model.specs.declared.opening.Opening.{Opening}
use Rattle.dir_model.specs.declared.opening.Target.{Target}
use Rattle.dir_model.specs.declared.opening.Target.TheVariants.{Own, Claim, Gate}
use Rattle.dir_model.specs.declared.spot.Handle.{Handle}
use Rattle.dir_model.specs.declared.spot.Mode.{Mode}
use Rattle.dir_model.specs.declared.request.DirError.TheVariants.{Locked}
use Rattle.dir_model.specs.declared.request.Request.{Request}
use Rattle.dir_model.specs.declared.request.Request.TheVariants.{OpenArea, TryLock}
use Rattle.dir_model.specs.declared.request.Reply.{Reply}
use Rattle.dir_model.specs.declared.request.Reply.TheVariants.{Done, Opened, Refused}
use Rattle.dir_model.specs.Areas.{rank}
use Rattle.dir_model.specs.Locks.{is_handle, is_one_lock, is_same_lock, opposes}
use Rattle.dir_model.specs.State.{Namespace, DirState, has_open}
use Rattle.dir_model.specs.Trace.{locked, state_after}
use Rattle.dir_model.specs.Replies.{is_locked, is_opposed}
use Rattle.dir_model.specs.Calls.{AtOwnStep, CallStep, Interference, IsRun, LeftNothing, TookPlace, event}
use Rattle.dir_model.specs.Local.{nothing_local, is_handle_of, holding_of, holdings_in}
use Rattle.dir_model.proofs.Lists.{and_left, and_right, and_both, and_false, not_true, or_none, same_self, any_last, any_last_not, any_fewer, any_map}
use Rattle.dir_model.proofs.Chains.{state_after-push, run-left}
use Rattle.dir_model.proofs.Allowed.{allowed_reply, held_says, lock_says}
use Rattle.dir_model.proofs.Holdings.{replied_same, open_same}
use Rattle.dir_model.proofs.Moments.{took_at}
use Rattle.dir_rules.specs.declared.standing.Held.{Held}
use Rattle.dir_rules.specs.declared.seen.Seen.{Seen}
use Rattle.dir_rules.specs.Standing.{is_gate_of}
use Rattle.dir_rules.specs.LockRules.{is_open_on}
use Rattle.dir_rules.specs.Conforms.{seen_of, IsTied}
use Rattle.dir_rules.proofs.Tied.{meanwhile_unseen, lived_meanwhile, Lives}
use Rattle.dir_trait.proofs.Calls.{late_never}
use Rattle.dir_files.specs.AreaLocks.{on_gate, with_gate, is_free_of, is_against, IsBusy, IsBusyElsewhere, IsFreeElsewhere}
use Rattle.dir_files.proofs.OwnHandles.{open_meanwhile, open_as_seen}

-- lists

found_passes : {X : Type 0} (t p : X → Bool) (xs : List X) (x : X) → find t xs ≡ Some x → list_any (λ y. t y && not (p y)) xs ≡ false → p x ≡ true
found_passes t p [] x f none = cc
found_passes {X} t p (y ∷ ys) x f none = by (t y) f none (λ g rest. found_passes t p ys x g rest)
  where
    passes : (b : Bool) → (not b || list_any (λ z. t z && not (p z)) ys) ≡ false → b ≡ true
    passes true h = refl
    passes false h = cc

    by : (b : Bool) → cond b (Some y) (find t ys) ≡ Some x → ((b && not (p y)) || list_any (λ z. t z && not (p z)) ys) ≡ false →
        (find t ys ≡ Some x → list_any (λ z. t z && not (p z)) ys ≡ false → p x ≡ true) → p x ≡ true
    by true g rest later = let is : y ≡ x = cc in subst (λ (z : X). p z ≡ true) is (passes (p y) rest)
    by false g rest later = later g rest

unfound : {X : Type 0} (t : X → Bool) (xs : List X) → find t xs ≡ None → list_any t xs ≡ false
unfound t [] f = refl
unfound {X} t (x ∷ xs) f = by (t x) f (λ g. unfound t xs g)
  where
    by : (b : Bool) → cond b (Some x) (find t xs) ≡ None → (find t xs ≡ None → list_any t xs ≡ false) → (b || list_any t xs) ≡ false
    by true g rest = cc
    by false g rest = rest g

none_fails : {X : Type 0} (xs : List X) → list_any (λ (x : X). false) xs ≡ false
none_fails [] = refl
none_fails (x ∷ xs) = none_fails xs

own_any : (me : ℕ) (test : Holding → Bool) (os : List Opening) →
    list_any test (map holding_of (filter (λ o. o.process == me) os)) ≡ list_any (λ o. (o.process == me) && test (holding_of o)) os
own_any me test [] = refl
own_any me test (o ∷ os) = by (o.process == me) (own_any me test os)
  where
    by : (b : Bool) → list_any test (map holding_of (filter (λ x. x.process == me) os)) ≡ list_any
        (λ x. (x.process == me) && test (holding_of x)) os →
        list_any test (map holding_of (cond b (o ∷ filter (λ x. x.process == me) os) (filter (λ x. x.process == me) os))) ≡
        ((b && test (holding_of o)) || list_any (λ x. (x.process == me) && test (holding_of x)) os)
    by true rest = ap (λ b. test (holding_of o) || b) rest
    by false rest = rest

-- the lock of one area

meet : (a b c : ℕ) → (a == b) ≡ true → (b == c) ≡ true → (a == c) ≡ true
meet a b c h k = grind (arith, nat_tests)

same_gate : (area : Area) (a b : Target) (f g : Option ℕ) → is_gate_of area a ≡ true → is_one_lock a f b g ≡ true → is_gate_of area b ≡ true
same_gate area (Gate a) (Gate b) f g h k = meet (rank area) (rank a) (rank b) h k
same_gate area (Gate a) (Own spot) f g h k = cc
same_gate area (Gate a) (Claim spot) f g h k = cc
same_gate area (Own spot) b f g h k = cc
same_gate area (Claim spot) b f g h k = cc

module _ (me : ℕ) (handle : Handle) (area : Area) (mode : Mode) where
  -- an own handle of this number on something else, and an own handle of another number on this lock
  abbrev strays : Holding → Bool
  strays x = is_handle_of handle x && not (is_gate_of area x.target)

  abbrev doubles : Holding → Bool
  doubles x = is_gate_of area x.target && not (is_handle_of handle x)

  abbrev is_other : Opening → Bool
  is_other o = not (is_handle me handle o) && is_against area mode o

  opposed_here : (n : Namespace) (here : Opening) → is_gate_of area here.target ≡ true →
      list_any (λ o. not (is_handle me handle o) && (is_same_lock here o && opposes mode o.lock)) n.openings ≡ true → list_any is_other n.openings ≡ true
  opposed_here n here gate h =
      any_but (λ o. not (is_handle me handle o) && (is_same_lock here o && opposes mode o.lock)) (λ o. false) is_other
      (λ o is fine.
      let other = and_left (not (is_handle me handle o)) (is_same_lock here o && opposes mode o.lock) is in
      let more = and_right (not (is_handle me handle o)) (is_same_lock here o && opposes mode o.lock) is in
      and_both (not (is_handle me handle o)) (is_against area mode o) other
      (and_both (is_gate_of area o.target) (opposes mode o.lock)
      (same_gate area here.target o.target here.folder o.folder gate (and_left (is_same_lock here o) (opposes mode o.lock) more))
      (and_right (is_same_lock here o) (opposes mode o.lock) more)))
      n.openings (none_fails n.openings) h

  opposed_by : (n : Namespace) → list_any strays (holdings_in n me) ≡ false → is_locked n me handle mode ≡ true → list_any is_other n.openings ≡ true
  opposed_by n none locked = by (find (is_handle me handle) n.openings) refl locked
    where
      apart : (a b c : Bool) → ((a && b) && c) ≡ true → (a && (b && c)) ≡ true
      apart true b c h = h
      apart false b c h = h

      only : list_any (λ o. is_handle me handle o && not (is_gate_of area o.target)) n.openings ≡ false
      only = any_fewer (λ o. is_handle me handle o && not (is_gate_of area o.target)) (λ o. (o.process == me) && strays (holding_of o))
          (λ o is. apart (o.process == me) (o.handle.number == handle.number) (not (is_gate_of area o.target)) is) n.openings (sym (own_any me strays n.openings) ∙ none)

      by : (found : Option Opening) → find (is_handle me handle) n.openings ≡ found → is_opposed n me handle mode found ≡ true → list_any is_other n.openings ≡ true
      by None f h = cc
      by (Some here) f h = opposed_here n here (found_passes (is_handle me handle) (λ o. is_gate_of area o.target) n.openings here f only) h

  busy_by : (n : Namespace) → list_any is_other n.openings ≡ true → list_any (is_against area mode) n.openings ≡ true
  busy_by n h = any_but is_other (λ o. false) (is_against area mode) (λ o is fine. and_right (not (is_handle me handle o)) (is_against area mode o) is) n.openings (none_fails n.openings) h

  elsewhere_by : (n : Namespace) → list_any doubles (holdings_in n me) ≡ false → list_any is_other n.openings ≡ true →
      list_any (λ o. not (o.process == me) && is_against area mode o) n.openings ≡ true
  elsewhere_by n none h =
      any_but is_other (λ o. (o.process == me) && doubles (holding_of o)) (λ o. not (o.process == me) && is_against area mode o)
      (λ o is single. by (o.process == me) (o.handle.number == handle.number) (is_gate_of area o.target) (opposes mode o.lock) is single)
      n.openings (sym (own_any me doubles n.openings) ∙ none) h
    where
      by : (p i g c : Bool) → (not (p && i) && (g && c)) ≡ true → (p && (g && not i)) ≡ false → (not p && (g && c)) ≡ true
      by false i g c is single = is
      by true true g c is single = cc
      by true false true c is single = cc
      by true false false c is single = cc

-- the same of a handle that the process knows
abbrev doubled_by : Handle → Area → Held → Bool
doubled_by handle area h = is_gate_of area h.target && not (h.handle.number == handle.number)

-- the lock was opened, and is asked for later
module _ (me : ℕ) (handle : Handle) (area : Area) (mode : Mode) (opened_at mid asked_at : List Event)
    (open_took : TookPlace opened_at me (OpenArea area) (Opened handle) mid) (between : Interference me mid asked_at) (living : Lives me asked_at) where
  abbrev new_one : Holding
  new_one = record { handle = handle; target = Gate area; lock = None }

  abbrev before : Namespace
  before = (state_after opened_at).namespace

  open_then : holdings_in (state_after asked_at).namespace me ≡ holdings_in before me ++ new_one ∷ []
  open_then =
      open_meanwhile between living
      ∙ (ap (λ (s : DirState). holdings_in s.namespace me) (ap state_after open_took.grown ∙ state_after-push opened_at (event me (OpenArea area) (Opened handle)))
      ∙ replied_same before me (record nothing_local { holdings = holdings_in before me }) (OpenArea area) (Opened handle) refl refl)

  none_strays : list_any (strays me handle area mode) (holdings_in (state_after asked_at).namespace me) ≡ false
  none_strays =
      ap (list_any (strays me handle area mode)) open_then
      ∙ (any_last_not (strays me handle area mode) (holdings_in before me) new_one
      (ap (λ b. is_handle_of handle new_one && not b) (same_self (rank area)) ∙ and_false (is_handle_of handle new_one))
      ∙ any_fewer (strays me handle area mode) (is_handle_of handle) (λ x is. and_left (is_handle_of handle x) (not (is_gate_of area x.target)) is) (holdings_in before me)
      (open_same before me handle ∙ not_true (has_open before me handle) (allowed_reply (state_after opened_at) me (OpenArea area) (Opened handle) open_took.allowed)))

  -- it is among the open handles
  is_open : list_any (is_handle me handle) (state_after asked_at).namespace.openings ≡ true
  is_open =
      sym (own_any me (is_handle_of handle) (state_after asked_at).namespace.openings)
      ∙ (ap (list_any (is_handle_of handle)) open_then ∙ any_last (is_handle_of handle) (holdings_in before me) new_one (same_self handle.number))

-- in vain
module _ (me : ℕ) (handle : Handle) (area : Area) (mode : Mode) (opened_at mid asked_at late : List Event)
    (open_took : TookPlace opened_at me (OpenArea area) (Opened handle) mid) (between : Interference me mid asked_at)
    (ask_took : TookPlace asked_at me (TryLock handle mode) (Refused Locked 0) late) where
  alive : Lives me asked_at
  alive = (held_says (state_after asked_at) me handle mode ask_took.allowed).living

  some_other : list_any (is_other me handle area mode) (state_after asked_at).namespace.openings ≡ true
  some_other = opposed_by me handle area mode (state_after asked_at).namespace (none_strays me handle area mode opened_at mid asked_at open_took between alive)
      (held_says (state_after asked_at) me handle mode ask_took.allowed).told

  pub busy_took : AtOwnStep me mid late (IsBusy area mode)
  busy_took = took_at me mid asked_at (TryLock handle mode) (Refused Locked 0) late (IsBusy area mode) refl between ask_took
      (busy_by me handle area mode (state_after asked_at).namespace some_other)

  -- and what the process knew
  pub elsewhere_took : (s : Seen) → IsRun late → IsTied me mid (with_gate s handle area None) → is_free_of area s ≡ true → AtOwnStep me mid late (IsBusyElsewhere me area mode)
  elsewhere_took s run tied free =
      took_at me mid asked_at (TryLock handle mode) (Refused Locked 0) late (IsBusyElsewhere me area mode) refl between ask_took
      (elsewhere_by me handle area mode (state_after asked_at).namespace (sym (open_as_seen me asked_at earlier alive (doubles me handle area mode)) ∙ seen_once) some_other)
    where
      earlier : IsRun asked_at
      earlier = run-left asked_at (event me (TryLock handle mode) (Refused Locked 0) ∷ []) (subst IsRun ask_took.grown run)

      first : doubled_by handle area (on_gate handle area None) ≡ false
      first = ap (λ b. is_gate_of area (Gate area) && not b) (same_self handle.number) ∙ and_false (is_gate_of area (Gate area))

      rest : list_any (doubled_by handle area) s.standing.holdings ≡ false
      rest = any_fewer (doubled_by handle area) (λ h. is_gate_of area h.target)
          (λ h is. and_left (is_gate_of area h.target) (not (h.handle.number == handle.number)) is) s.standing.holdings (not_true (is_open_on (Gate area) s.standing.holdings) free)

      seen_once : list_any (doubled_by handle area) (seen_of me asked_at).standing.holdings ≡ false
      seen_once =
          ap (λ (z : Seen). list_any (doubled_by handle area) z.standing.holdings) (meanwhile_unseen between)
          ∙ (sym (ap (λ (z : Seen). list_any (doubled_by handle area) z.standing.holdings) (tied.living (lived_meanwhile between alive)).same)
          ∙ or_none (doubled_by handle area (on_gate handle area None)) (list_any (doubled_by handle area) s.standing.holdings) first rest)

-- or it was had
module _ (me : ℕ) (handle : Handle) (area : Area) (mode : Mode) where
  one_gate : (a b : Target) (f g : Option ℕ) → is_gate_of area a ≡ true → is_gate_of area b ≡ true → is_one_lock a f b g ≡ true
  one_gate (Gate a) (Gate b) f g h k = both (rank area) (rank a) (rank b) h k
    where
      both : (x y z : ℕ) → (x == y) ≡ true → (x == z) ≡ true → (y == z) ≡ true
      both x y z h k = grind (arith, nat_tests)
  one_gate (Gate a) (Own spot) f g h k = cc
  one_gate (Gate a) (Claim spot) f g h k = cc
  one_gate (Own spot) b f g h k = cc
  one_gate (Claim spot) b f g h k = cc

  not_mine : (p i : Bool) → not p ≡ true → not (p && i) ≡ true
  not_mine false i is = refl
  not_mine true i is = cc

  abbrev is_elsewhere : Opening → Bool
  is_elsewhere o = not (o.process == me) && is_against area mode o

  -- who holds it elsewhere opposes this handle
  opposing : (here : Opening) → is_gate_of area here.target ≡ true → (o : Opening) → is_elsewhere o ≡ true →
      (not (is_handle me handle o) && (is_same_lock here o && opposes mode o.lock)) ≡ true
  opposing here gate o is =
      let against = and_right (not (o.process == me)) (is_against area mode o) is in
      and_both (not (is_handle me handle o)) _ (not_mine (o.process == me) (o.handle.number == handle.number) (and_left (not (o.process == me)) (is_against area mode o) is))
      (and_both (is_same_lock here o) (opposes mode o.lock)
      (one_gate here.target o.target here.folder o.folder gate (and_left (is_gate_of area o.target) (opposes mode o.lock) against))
      (and_right (is_gate_of area o.target) (opposes mode o.lock) against))

  none_elsewhere : (n : Namespace) → list_any (strays me handle area mode) (holdings_in n me) ≡ false → list_any (is_handle me handle) n.openings ≡ true →
      is_locked n me handle mode ≡ false → list_any is_elsewhere n.openings ≡ false
  none_elsewhere n none there free = by (find (is_handle me handle) n.openings) refl free
    where
      apart : (a b c : Bool) → ((a && b) && c) ≡ true → (a && (b && c)) ≡ true
      apart true b c h = h
      apart false b c h = h

      only : list_any (λ o. is_handle me handle o && not (is_gate_of area o.target)) n.openings ≡ false
      only = any_fewer (λ o. is_handle me handle o && not (is_gate_of area o.target)) (λ o. (o.process == me) && strays me handle area mode (holding_of o))
          (λ o is. apart (o.process == me) (o.handle.number == handle.number) (not (is_gate_of area o.target)) is) n.openings (sym (own_any me (strays me handle area mode) n.openings) ∙ none)

      by : (found : Option Opening) → find (is_handle me handle) n.openings ≡ found → is_opposed n me handle mode found ≡ false → list_any is_elsewhere n.openings ≡ false
      by None f h = let clash : true ≡ false = sym there ∙ unfound (is_handle me handle) n.openings f in cc
      by (Some here) f h =
          any_fewer is_elsewhere (λ o. not (is_handle me handle o) && (is_same_lock here o && opposes mode o.lock))
          (opposing here (found_passes (is_handle me handle) (λ o. is_gate_of area o.target) n.openings here f only)) n.openings h

  -- and an own lock changes nothing of that
  its_own : (o : Opening) → is_elsewhere (locked me handle mode o) ≡ is_elsewhere o
  its_own o = by (is_handle me handle o) (λ it. and_left (o.process == me) (o.handle.number == handle.number) it)
    where
      by : (b : Bool) → (b ≡ true → (o.process == me) ≡ true) → is_elsewhere (cond b (record o { lock = Some mode }) o) ≡ is_elsewhere o
      by true it = ap (λ c. not c && (is_gate_of area o.target && opposes mode (Some mode))) (it refl) ∙ sym (ap (λ c. not c && is_against area mode o) (it refl))
      by false it = refl

  pub free_took : (opened_at mid asked_at late : List Event) → TookPlace opened_at me (OpenArea area) (Opened handle) mid → Interference me mid asked_at →
      TookPlace asked_at me (TryLock handle mode) Done late → AtOwnStep me mid late (IsFreeElsewhere me area mode)
  free_took opened_at mid asked_at late open_took between ask_took =
      let n : Namespace = (state_after asked_at).namespace in
      let says = lock_says (state_after asked_at) me handle mode ask_took.allowed in
      took_at me mid asked_at (TryLock handle mode) Done late (IsFreeElsewhere me area mode) refl between ask_took
      (any_map is_elsewhere (locked me handle mode) its_own n.openings
      ∙ none_elsewhere n (none_strays me handle area mode opened_at mid asked_at open_took between says.living)
      (is_open me handle area mode opened_at mid asked_at open_took between says.living) says.told)

abbrev Happened : ℕ → List Event → Request → Reply → List Event → Type 0
Happened me before request reply new = TookPlace before me request reply new ⊎ LeftNothing before me request reply new

module _ (me : ℕ) (old mid late : List Event) (handle : Handle) (area : Area) (mode : Mode)
    (opens : CallStep me old (OpenArea area) (Opened handle) mid) (asks : CallStep me mid (TryLock handle mode) (Refused Locked 0) late) where
  pub busy_step : AtOwnStep me mid late (IsBusy area mode)
  busy_step = by opens.own asks.own
    where
      by : Happened me opens.before (OpenArea area) (Opened handle) mid → Happened me asks.before (TryLock handle mode) (Refused Locked 0) late →
          AtOwnStep me mid late (IsBusy area mode)
      by (inl o) (inl a) = busy_took me handle area mode opens.before mid asks.before late o asks.meanwhile a
      by (inl o) (inr l) = late_never l refl
      by (inr l) a = late_never l refl

  pub elsewhere_step : (s : Seen) → IsTied me mid (with_gate s handle area None) → is_free_of area s ≡ true → AtOwnStep me mid late (IsBusyElsewhere me area mode)
  elsewhere_step s tied free = by opens.own asks.own
    where
      by : Happened me opens.before (OpenArea area) (Opened handle) mid → Happened me asks.before (TryLock handle mode) (Refused Locked 0) late →
          AtOwnStep me mid late (IsBusyElsewhere me area mode)
      by (inl o) (inl a) = elsewhere_took me handle area mode opens.before mid asks.before late o asks.meanwhile a s asks.run tied free
      by (inl o) (inr l) = late_never l refl
      by (inr l) a = late_never l refl

pub free_step : (me : ℕ) (old mid late : List Event) (handle : Handle) (area : Area) (mode : Mode) → CallStep me old (OpenArea area) (Opened handle) mid →
    CallStep me mid (TryLock handle mode) Done late → AtOwnStep me mid late (IsFreeElsewhere me area mode)
free_step me old mid late handle area mode opens asks = by opens.own asks.own
  where
    by : Happened me opens.before (OpenArea area) (Opened handle) mid → Happened me asks.before (TryLock handle mode) Done late →
        AtOwnStep me mid late (IsFreeElsewhere me area mode)
    by (inl o) (inl a) = free_took me handle area mode opens.before mid asks.before late o asks.meanwhile a
    by (inl o) (inr l) = late_never l refl
    by (inr l) a = late_never l refl
