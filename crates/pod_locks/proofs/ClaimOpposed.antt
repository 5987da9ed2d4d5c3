-- Where a lock of a pod can't be had, another process holds it, unless this one has a second handle on it.
use Rattle.std.proofs.Common.{◌≡◌, ◌⊎◌, inl, inr, ℕ, Bool, true, false, not, cond, ◌&&◌, ◌==◌}
use Rattle.std.proofs.Common.{Option, Some, None, is_some, List, [], ◌∷◌, ◌++◌, map, find, append-nil, refl, sym, ap, subst, ◌∙◌}
use Rattle.std.specs.List.{list_any}
use Rattle.plain_laws.proofs.Lists.{none_of_filter, any_but}
use Rattle.dir_model.specs.declared.event.Event.{Event}
use Rattle.dir_model.specs.declared.opening.Opening.{Opening}
use Rattle.dir_model.specs.declared.pod.PodId.{PodId}
use Rattle.dir_model.specs.declared.spot.Handle.{Handle}
use Rattle.dir_model.specs.declared.spot.Mode.{Mode}
use Rattle.dir_model.specs.declared.spot.Mode.TheVariants.{Shared, Exclusive}
use Rattle.dir_model.specs.declared.spot.Spot.{Spot}
use Rattle.dir_model.specs.declared.opening.Target.{Target}
use Rattle.dir_model.specs.declared.opening.Target.TheVariants as target
use Rattle.dir_model.specs.declared.spot.Which.{Which}
use Rattle.dir_model.specs.declared.spot.Which.TheVariants.{Own, Claim}
use Rattle.dir_model.specs.declared.tree.TreeEntry.{TreeEntry}
use Rattle.dir_model.specs.declared.request.DirError.TheVariants.{Locked}
use Rattle.dir_model.specs.declared.request.Request.TheVariants.{Open, TryLock}
use Rattle.dir_model.specs.declared.request.Reply.TheVariants.{Done, Opened, Refused}
use Rattle.dir_model.specs.Locks.{is_handle, is_folder, is_one_lock, is_same_lock, opposes, target_of}
use Rattle.dir_model.specs.State.{Namespace, DirState, folder_at, has_open}
use Rattle.dir_model.specs.Trace.{opened, locked, state_after}
use Rattle.dir_model.specs.Replies.{is_locked, is_opposed, refused_in, open_refusal}
use Rattle.dir_model.specs.Calls.{CallStep, Interference, IsRun, LeftNothing, TookPlace, event}
use Rattle.dir_model.specs.Local.{holding_of}
use Rattle.dir_model.proofs.Lists.{and_left, and_right, and_both, and_false, or_none, same_self, any_fewer, any_map, filter_push}
use Rattle.dir_model.proofs.Chains.{state_after-push, run-left}
use Rattle.dir_model.proofs.Allowed.{open_says, lock_says, held_says, allowed_reply}
use Rattle.dir_model.proofs.Moments.{took_at, some_number}
use Rattle.dir_model.proofs.Holdings.{mine}
use Rattle.dir_rules.specs.declared.standing.Held.{Held}
use Rattle.dir_rules.specs.declared.seen.Seen.{Seen}
use Rattle.dir_rules.specs.Conforms.{seen_of, IsTied}
use Rattle.dir_rules.proofs.Tied.{meanwhile_unseen, lived_meanwhile, Lives}
use Rattle.dir_trait.proofs.Calls.{late_never}
use Rattle.dir_files.proofs.OwnHandles.{open_as_seen}
use Rattle.pod_locks.specs.ClaimRequests.{in_prepared}
use Rattle.pod_locks.specs.ClaimHolding.{on_prepared_lock, and_held, is_own_lock}
use Rattle.pod_locks.specs.ClaimCauses.{is_lock, is_held_elsewhere, OpensThere, PreparedHeldByAnother, HadAlone}
use Rattle.pod_locks.proofs.OwnOpenings.{find_last, own, own_any, find_own, own_meanwhile, same_lock, doubles}
use Rattle.pod_locks.proofs.Opposed.{not_refused}

holds_some : (lock : Option Mode) → opposes Exclusive lock ≡ true → is_some lock ≡ true
holds_some None is = cc
holds_some (Some mode) is = refl

module _ (me : ℕ) (handle : Handle) (which : Which) (spot : Spot) (f : ℕ) where
  abbrev here : Opening
  here = record { process = me; handle = handle; target = target_of spot which; folder = Some f; lock = None }

  elsewhere_by : (os : List Opening) → list_any (doubles which handle) (map holding_of (own me os)) ≡ false
      → list_any (λ o. not (is_handle me handle o) && (is_same_lock here o && opposes Exclusive o.lock)) os ≡ true → list_any (is_held_elsewhere me which f) os ≡ true
  elsewhere_by os none h =
      any_but (λ o. not (is_handle me handle o) && (is_same_lock here o && opposes Exclusive o.lock)) (λ o. (o.process == me) && doubles which handle (holding_of o)) (is_held_elsewhere me which f)
      (λ o is single.
      let more = and_right (not (is_handle me handle o)) (is_same_lock here o && opposes Exclusive o.lock) is in
      let same = same_lock which spot f o.target o.folder (and_left (is_same_lock here o) (opposes Exclusive o.lock) more) in
      let held = holds_some o.lock (and_right (is_same_lock here o) (opposes Exclusive o.lock) more) in
      by (o.process == me) (o.handle.number == handle.number) (is_lock which o.target) (is_folder f o.folder) (is_some o.lock) (and_left (not (is_handle me handle o)) (is_same_lock here o && opposes Exclusive o.lock) is) single same.0 same.1 held)
      os (sym (own_any me (doubles which handle) os) ∙ none) h
    where
      by : (p i k g l : Bool) → not (p && i) ≡ true → (p && (k && not i)) ≡ false → k ≡ true → g ≡ true → l ≡ true → (not p && (g && (k && l))) ≡ true
      by false i true true true other single x y z = refl
      by true true k g l other single x y z = cc
      by true false true g l other single x y z = cc
      by true false false g l other single x y z = cc
      by false i false g l other single x y z = cc
      by false i true false l other single x y z = cc
      by false i true true false other single x y z = cc

-- the lock was opened, and asked for later
module _ (me : ℕ) (handle : Handle) (pod : PodId) (which : Which) (old opened_at mid asked_at : List Event) (first : Interference me old opened_at)
    (open_took : TookPlace opened_at me (Open (in_prepared pod) which) (Opened handle) mid) (between : Interference me mid asked_at) (living : Lives me asked_at) where
  abbrev before : Namespace
  before = (state_after opened_at).namespace

  abbrev after : Namespace
  after = (state_after asked_at).namespace

  abbrev New : Opening
  New = opened before me handle (in_prepared pod) which

  own_then : own me after.openings ≡ own me before.openings ++ New ∷ []
  own_then =
      own_meanwhile between living
      ∙ (ap (λ (s : DirState). own me s.namespace.openings) (ap state_after open_took.grown ∙ state_after-push opened_at (event me (Open (in_prepared pod) which) (Opened handle)))
      ∙ filter_push (mine me) before.openings New (same_self me))

  is_it : find (is_handle me handle) after.openings ≡ Some New
  is_it = find_own me handle after.openings ∙ (ap (find (is_handle me handle)) own_then
      ∙ find_last (is_handle me handle) (own me before.openings) New
      (none_of_filter (is_handle me handle) (mine me) before.openings (open_says (state_after opened_at) me (in_prepared pod) which handle open_took.allowed).unopened)
      (and_both (me == me) (handle.number == handle.number) (same_self me) (same_self handle.number)))

  opens : (k : ℕ) → folder_at before (in_prepared pod) ≡ Some k → refused_in (open_refusal which) (state_after opened_at).entries (Some k) ≡ None
  opens k at =
      ap (λ (o : Option ℕ). refused_in (open_refusal which) (state_after opened_at).entries o) (sym at)
      ∙ not_refused (refused_in (open_refusal which) (state_after opened_at).entries (folder_at before (in_prepared pod))) (not (has_open before me handle))
      (allowed_reply (state_after opened_at) me (Open (in_prepared pod) which) (Opened handle) open_took.allowed)

-- in vain
module _ (me : ℕ) (handle : Handle) (pod : PodId) (which : Which) (old opened_at mid asked_at late : List Event) (first : Interference me old opened_at)
    (open_took : TookPlace opened_at me (Open (in_prepared pod) which) (Opened handle) mid) (between : Interference me mid asked_at)
    (ask_took : TookPlace asked_at me (TryLock handle Exclusive) (Refused Locked 0) late)
    (z : Seen) (single : list_any (λ h. is_lock which h.target) z.standing.holdings ≡ false) (run : IsRun late) (tied : IsTied me mid (and_held (on_prepared_lock pod which handle None (is_own_lock which)) z)) where
  abbrev then : Namespace
  then = (state_after asked_at).namespace

  told : is_locked then me handle Exclusive ≡ true
  told = (held_says (state_after asked_at) me handle Exclusive ask_took.allowed).told

  alive : Lives me asked_at
  alive = (held_says (state_after asked_at) me handle Exclusive ask_took.allowed).living

  abbrev doubled : Held → Bool
  doubled h = doubles which handle (record { handle = h.handle; target = h.target; lock = h.lock })

  rest : list_any doubled z.standing.holdings ≡ false
  rest = any_fewer doubled (λ h. is_lock which h.target) (λ h is. and_left (is_lock which h.target) (not (h.handle.number == handle.number)) is) z.standing.holdings single

  seen_once : list_any doubled (seen_of me asked_at).standing.holdings ≡ false
  seen_once =
      ap (λ (s : Seen). list_any doubled s.standing.holdings) (meanwhile_unseen between)
      ∙ (sym (ap (λ (s : Seen). list_any doubled s.standing.holdings) (tied.living (lived_meanwhile between alive)).same)
      ∙ or_none (doubled (on_prepared_lock pod which handle None (is_own_lock which))) (list_any doubled z.standing.holdings)
      (ap (λ b. is_lock which (target_of (in_prepared pod) which) && not b) (same_self handle.number) ∙ and_false (is_lock which (target_of (in_prepared pod) which))) rest)

  earlier : IsRun asked_at
  earlier = run-left asked_at (event me (TryLock handle Exclusive) (Refused Locked 0) ∷ []) (subst IsRun ask_took.grown run)

  single_now : list_any (doubles which handle) (map holding_of (own me then.openings)) ≡ false
  single_now = sym (open_as_seen me asked_at earlier alive (doubles which handle)) ∙ seen_once

  held_took : PreparedHeldByAnother pod which me old late
  held_took =
      let before = (state_after opened_at).namespace in
      let k = some_number (folder_at before (in_prepared pod)) (open_says (state_after opened_at) me (in_prepared pod) which handle open_took.allowed).there in
      let at : opened before me handle (in_prepared pod) which ≡ here me handle which (in_prepared pod) k.0 = ap (λ (o : Option ℕ). let r : Opening = record { process = me; handle = handle; target = target_of (in_prepared pod) which; folder = o; lock = None } in r) k.1 in
      let found : find (is_handle me handle) then.openings ≡ Some (here me handle which (in_prepared pod) k.0) = is_it me handle pod which old opened_at mid asked_at first open_took between alive ∙ ap (λ (o : Opening). Some o) at in
      record {
        folder = k.0;
        between = mid;
        found = took_at me old opened_at (Open (in_prepared pod) which) (Opened handle) mid (OpensThere pod which k.0) refl first open_took
            (k.1, ap (λ (es : List TreeEntry). refused_in (open_refusal which) es (Some k.0)) (append-nil (state_after opened_at).entries) ∙ opens me handle pod which old opened_at mid asked_at first open_took between alive k.0 k.1);
        held = took_at me mid asked_at (TryLock handle Exclusive) (Refused Locked 0) late (λ s. list_any (is_held_elsewhere me which k.0) s.namespace.openings ≡ true) refl between ask_took
            (elsewhere_by me handle which (in_prepared pod) k.0 then.openings single_now (sym (ap (is_opposed then me handle Exclusive) found) ∙ told));
      }

-- or with the lock had
module _ (me : ℕ) (handle : Handle) (which : Which) (spot : Spot) (f : ℕ) where
  some_holds : (lock : Option Mode) → is_some lock ≡ true → opposes Exclusive lock ≡ true
  some_holds None is = cc
  some_holds (Some Shared) is = refl
  some_holds (Some Exclusive) is = refl

  -- who holds it elsewhere opposes this handle
  opposing : (o : Opening) → is_held_elsewhere me which f o ≡ true → (not (is_handle me handle o) && (is_same_lock (here me handle which spot f) o && opposes Exclusive o.lock)) ≡ true
  opposing o is =
      let rest = and_right (not (o.process == me)) (is_folder f o.folder && (is_lock which o.target && is_some o.lock)) is in
      let lock = and_right (is_folder f o.folder) (is_lock which o.target && is_some o.lock) rest in
      and_both (not (is_handle me handle o)) _ (not_mine (o.process == me) (o.handle.number == handle.number) (and_left (not (o.process == me)) _ is))
      (and_both (is_same_lock (here me handle which spot f) o) (opposes Exclusive o.lock)
      (one_lock which o.target o.folder (and_left (is_lock which o.target) (is_some o.lock) lock) (and_left (is_folder f o.folder) _ rest)) (some_holds o.lock (and_right (is_lock which o.target) (is_some o.lock) lock)))
    where
      not_mine : (p i : Bool) → not p ≡ true → not (p && i) ≡ true
      not_mine false i is = refl
      not_mine true i is = cc

      one_lock : (w : Which) (t : Target) (g : Option ℕ) → is_lock w t ≡ true → is_folder f g ≡ true → is_one_lock (target_of spot w) (Some f) t g ≡ true
      one_lock Own (target.Own at) g lock is = is
      one_lock Own (target.Claim at) g lock is = cc
      one_lock Own (target.Gate a) g lock is = cc
      one_lock Claim (target.Claim at) g lock is = is
      one_lock Claim (target.Own at) g lock is = cc
      one_lock Claim (target.Gate a) g lock is = cc

  none_elsewhere : (os : List Opening) → list_any (λ o. not (is_handle me handle o) && (is_same_lock (here me handle which spot f) o && opposes Exclusive o.lock)) os ≡ false → list_any (is_held_elsewhere me which f) os ≡ false
  none_elsewhere os none = any_fewer (is_held_elsewhere me which f) (λ o. not (is_handle me handle o) && (is_same_lock (here me handle which spot f) o && opposes Exclusive o.lock)) opposing os none

  -- and an own lock changes nothing of that
  its_own : (o : Opening) → is_held_elsewhere me which f (locked me handle Exclusive o) ≡ is_held_elsewhere me which f o
  its_own o = by (is_handle me handle o) (λ it. and_left (o.process == me) (o.handle.number == handle.number) it)
    where
      by : (b : Bool) → (b ≡ true → (o.process == me) ≡ true) → is_held_elsewhere me which f (cond b (record o { lock = Some Exclusive }) o) ≡ is_held_elsewhere me which f o
      by true it = ap (λ c. not c && (is_folder f o.folder && (is_lock which o.target && true))) (it refl) ∙ sym (ap (λ c. not c && (is_folder f o.folder && (is_lock which o.target && is_some o.lock))) (it refl))
      by false it = refl

module _ (me : ℕ) (handle : Handle) (pod : PodId) (which : Which) (old opened_at mid asked_at late : List Event) (first : Interference me old opened_at)
    (open_took : TookPlace opened_at me (Open (in_prepared pod) which) (Opened handle) mid) (between : Interference me mid asked_at)
    (ask_took : TookPlace asked_at me (TryLock handle Exclusive) Done late) where
  free_took : HadAlone pod which me old late
  free_took =
      let n : Namespace = (state_after asked_at).namespace in
      let says = lock_says (state_after asked_at) me handle Exclusive ask_took.allowed in
      let k = some_number (folder_at (state_after opened_at).namespace (in_prepared pod)) (open_says (state_after opened_at) me (in_prepared pod) which handle open_took.allowed).there in
      let at : opened (state_after opened_at).namespace me handle (in_prepared pod) which ≡ here me handle which (in_prepared pod) k.0 = ap (λ (o : Option ℕ). let r : Opening = record { process = me; handle = handle; target = target_of (in_prepared pod) which; folder = o; lock = None } in r) k.1 in
      let found = is_it me handle pod which old opened_at mid asked_at first open_took between says.living ∙ ap (λ (o : Opening). Some o) at in
      let none = none_elsewhere me handle which (in_prepared pod) k.0 n.openings (sym (ap (is_opposed n me handle Exclusive) found) ∙ says.told) in
      record {
        folder = k.0;
        between = mid;
        found = took_at me old opened_at (Open (in_prepared pod) which) (Opened handle) mid (OpensThere pod which k.0) refl first open_took
            (k.1, ap (λ (es : List TreeEntry). refused_in (open_refusal which) es (Some k.0)) (append-nil (state_after opened_at).entries) ∙ opens me handle pod which old opened_at mid asked_at first open_took between says.living k.0 k.1);
        free = took_at me mid asked_at (TryLock handle Exclusive) Done late (λ s. list_any (is_held_elsewhere me which k.0) s.namespace.openings ≡ false) refl between ask_took
            (any_map (is_held_elsewhere me which k.0) (locked me handle Exclusive) (its_own me handle which (in_prepared pod) k.0) n.openings ∙ none);
      }

-- the same of the calls
pub held_step : (me : ℕ) (old mid late : List Event) (handle : Handle) (pod : PodId) (which : Which) → CallStep me old (Open (in_prepared pod) which) (Opened handle) mid → CallStep me mid (TryLock handle Exclusive) (Refused Locked 0) late
    → (z : Seen) → list_any (λ h. is_lock which h.target) z.standing.holdings ≡ false → IsTied me mid (and_held (on_prepared_lock pod which handle None (is_own_lock which)) z) → PreparedHeldByAnother pod which me old late
held_step me old mid late handle pod which opens asks z single tied = by opens.own asks.own
  where
    by : TookPlace opens.before me (Open (in_prepared pod) which) (Opened handle) mid ⊎ LeftNothing opens.before me (Open (in_prepared pod) which) (Opened handle) mid
        → TookPlace asks.before me (TryLock handle Exclusive) (Refused Locked 0) late ⊎ LeftNothing asks.before me (TryLock handle Exclusive) (Refused Locked 0) late → PreparedHeldByAnother pod which me old late
    by (inl o) (inl a) = held_took me handle pod which old opens.before mid asks.before late opens.meanwhile o asks.meanwhile a z single asks.run tied
    by (inl o) (inr l) = late_never l refl
    by (inr l) a = late_never l refl

pub alone_step : (me : ℕ) (old mid late : List Event) (handle : Handle) (pod : PodId) (which : Which) → CallStep me old (Open (in_prepared pod) which) (Opened handle) mid → CallStep me mid (TryLock handle Exclusive) Done late → HadAlone pod which me old late
alone_step me old mid late handle pod which opens asks = by opens.own asks.own
  where
    by : TookPlace opens.before me (Open (in_prepared pod) which) (Opened handle) mid ⊎ LeftNothing opens.before me (Open (in_prepared pod) which) (Opened handle) mid
        → TookPlace asks.before me (TryLock handle Exclusive) Done late ⊎ LeftNothing asks.before me (TryLock handle Exclusive) Done late → HadAlone pod which me old late
    by (inl o) (inl a) = free_took me handle pod which old opens.before mid asks.before late opens.meanwhile o asks.meanwhile a
    by (inl o) (inr l) = late_never l refl
    by (inr l) a = late_never l refl
