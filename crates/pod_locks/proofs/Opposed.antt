-- Where a lock of a pod can't be had, at any place and in either mode, another process holds it, unless this one has a second
-- handle on it; and where it is had, no other process holds it in a mode that conflicts.
use Rattle.std.proofs.Common.{◌≡◌, ◌⊎◌, inl, inr, ℕ, Bool, true, false, not, ◌&&◌, ◌==◌, cond}
use Rattle.std.proofs.Common.{Option, Some, None, is_some, List, [], ◌∷◌, ◌++◌, append-nil, map, find, refl, sym, ap, subst, ◌∙◌}
use Rattle.std.specs.List.{list_any}
use Rattle.plain_laws.proofs.Lists.{none_of_filter, any_but}
use Rattle.dir_model.specs.declared.area.Area.{Area}
use Rattle.dir_model.specs.declared.event.Event.{Event}
use Rattle.dir_model.specs.declared.opening.Opening.{Opening}
use Rattle.dir_model.specs.declared.opening.Target.{Target}
use Rattle.dir_model.specs.declared.opening.Target.TheVariants as target
use Rattle.dir_model.specs.declared.pod.PodId.{PodId}
use Rattle.dir_model.specs.declared.spot.Handle.{Handle}
use Rattle.dir_model.specs.declared.spot.Mode.{Mode}
use Rattle.dir_model.specs.declared.spot.Spot.{Spot}
use Rattle.dir_model.specs.declared.spot.Which.{Which}
use Rattle.dir_model.specs.declared.spot.Which.TheVariants.{Own, Claim}
use Rattle.dir_model.specs.declared.request.DirError.{DirError}
use Rattle.dir_model.specs.declared.request.DirError.TheVariants.{Locked}
use Rattle.dir_model.specs.declared.request.Request.TheVariants.{Open, TryLock}
use Rattle.dir_model.specs.declared.request.Reply.TheVariants.{Done, Opened, Refused}
use Rattle.dir_model.specs.declared.tree.TreeEntry.{TreeEntry}
use Rattle.dir_model.specs.Locks.{is_handle, is_folder, is_one_lock, is_same_lock, opposes, target_of}
use Rattle.dir_model.specs.State.{Namespace, DirState, folder_at, has_open}
use Rattle.dir_model.specs.Trace.{locked, opened, state_after}
use Rattle.dir_model.specs.Replies.{is_locked, is_opposed, refused_in, open_refusal}
use Rattle.dir_model.specs.Calls.{CallStep, Interference, IsRun, LeftNothing, TookPlace, AtOwnStep, event}
use Rattle.dir_model.specs.Local.{holding_of}
use Rattle.dir_model.proofs.Lists.{and_left, and_right, and_both, and_false, or_none, same_self, any_fewer, any_map, filter_push}
use Rattle.dir_model.proofs.Chains.{state_after-push, run-left}
use Rattle.dir_model.proofs.Allowed.{open_says, lock_says, held_says, allowed_reply}
use Rattle.dir_model.proofs.Moments.{took_at, some_number}
use Rattle.dir_model.proofs.Holdings.{mine}
use Rattle.dir_rules.specs.declared.standing.Held.{Held}
use Rattle.dir_rules.specs.declared.seen.Seen.{Seen}
use Rattle.dir_rules.specs.Conforms.{seen_of, IsTied}
use Rattle.dir_rules.proofs.Tied.{meanwhile_unseen, lived_meanwhile, Lives}
use Rattle.dir_trait.proofs.Calls.{late_never}
use Rattle.dir_files.proofs.OwnHandles.{open_as_seen}
use Rattle.dir_model.specs.Spots.{pod_spot}
use Rattle.pod_locks.specs.ClaimCauses.{is_lock}
use Rattle.pod_locks.specs.Holding.{and_held}
use Rattle.pod_locks.specs.Causes.{OpensAt, is_held_against, PodHeldByAnother, FreeOfOthers}
use Rattle.pod_locks.proofs.OwnOpenings.{find_last, own, own_any, find_own, own_meanwhile, same_lock, doubles}

abbrev pub asked_on : PodId → Area → Which → Handle → Bool → Held
asked_on pod area which handle covered = record { handle = handle; target = target_of (pod_spot pod area) which; lock = None; covered = covered }

module _ (me : ℕ) (handle : Handle) (which : Which) (mode : Mode) (spot : Spot) (f : ℕ) where
  abbrev here : Opening
  here = record { process = me; handle = handle; target = target_of spot which; folder = Some f; lock = None }

  elsewhere_by : (os : List Opening) → list_any (doubles which handle) (map holding_of (own me os)) ≡ false
      → list_any (λ o. not (is_handle me handle o) && (is_same_lock here o && opposes mode o.lock)) os ≡ true → list_any (is_held_against me which mode f) os ≡ true
  elsewhere_by os none h =
      any_but (λ o. not (is_handle me handle o) && (is_same_lock here o && opposes mode o.lock)) (λ o. (o.process == me) && doubles which handle (holding_of o)) (is_held_against me which mode f)
      (λ o is single.
      let more = and_right (not (is_handle me handle o)) (is_same_lock here o && opposes mode o.lock) is in
      let same = same_lock which spot f o.target o.folder (and_left (is_same_lock here o) (opposes mode o.lock) more) in
      let held = and_right (is_same_lock here o) (opposes mode o.lock) more in
      by (o.process == me) (o.handle.number == handle.number) (is_lock which o.target) (is_folder f o.folder) (opposes mode o.lock) (and_left (not (is_handle me handle o)) (is_same_lock here o && opposes mode o.lock) is) single same.0 same.1 held)
      os (sym (own_any me (doubles which handle) os) ∙ none) h
    where
      by : (p i k g l : Bool) → not (p && i) ≡ true → (p && (k && not i)) ≡ false → k ≡ true → g ≡ true → l ≡ true → (not p && (g && (k && l))) ≡ true
      by false i true true true other single x y z = refl
      by true true k g l other single x y z = cc
      by true false true g l other single x y z = cc
      by true false false g l other single x y z = cc
      by false i false g l other single x y z = cc
      by false i true false l other single x y z = cc
      by false i true true false other single x y z = cc

pub not_refused : (o : Option DirError) (more : Bool) → (not (is_some o) && more) ≡ true → o ≡ None
not_refused None more is = refl
not_refused (Some e) more is = cc

-- the lock was opened, and asked for later
module _ (me : ℕ) (handle : Handle) (pod : PodId) (area : Area) (which : Which) (mode : Mode) (old opened_at mid asked_at : List Event) (first : Interference me old opened_at)
    (open_took : TookPlace opened_at me (Open (pod_spot pod area) which) (Opened handle) mid) (between : Interference me mid asked_at) (living : Lives me asked_at) where
  abbrev before : Namespace
  before = (state_after opened_at).namespace

  abbrev after : Namespace
  after = (state_after asked_at).namespace

  abbrev New : Opening
  New = opened before me handle (pod_spot pod area) which

  own_then : own me after.openings ≡ own me before.openings ++ New ∷ []
  own_then =
      own_meanwhile between living
      ∙ (ap (λ (s : DirState). own me s.namespace.openings) (ap state_after open_took.grown ∙ state_after-push opened_at (event me (Open (pod_spot pod area) which) (Opened handle)))
      ∙ filter_push (mine me) before.openings New (same_self me))

  is_it : find (is_handle me handle) after.openings ≡ Some New
  is_it = find_own me handle after.openings ∙ (ap (find (is_handle me handle)) own_then
      ∙ find_last (is_handle me handle) (own me before.openings) New
      (none_of_filter (is_handle me handle) (mine me) before.openings (open_says (state_after opened_at) me (pod_spot pod area) which handle open_took.allowed).unopened)
      (and_both (me == me) (handle.number == handle.number) (same_self me) (same_self handle.number)))

  -- of the folder that stood there
  its : (k : ℕ) × (folder_at before (pod_spot pod area) ≡ Some k)
  its = some_number (folder_at before (pod_spot pod area)) (open_says (state_after opened_at) me (pod_spot pod area) which handle open_took.allowed).there

  is_its : find (is_handle me handle) after.openings ≡ Some (here me handle which mode (pod_spot pod area) its.0)
  is_its = is_it ∙ ap (λ (o : Option ℕ). let r : Opening = record { process = me; handle = handle; target = target_of (pod_spot pod area) which; folder = o; lock = None } in Some r) its.1

  opens : refused_in (open_refusal which) (state_after opened_at).entries (Some its.0) ≡ None
  opens =
      ap (λ (o : Option ℕ). refused_in (open_refusal which) (state_after opened_at).entries o) (sym its.1)
      ∙ not_refused (refused_in (open_refusal which) (state_after opened_at).entries (folder_at before (pod_spot pod area))) (not (has_open before me handle))
      (allowed_reply (state_after opened_at) me (Open (pod_spot pod area) which) (Opened handle) open_took.allowed)

  found_its : AtOwnStep me old mid (OpensAt pod area which its.0)
  found_its = took_at me old opened_at (Open (pod_spot pod area) which) (Opened handle) mid (OpensAt pod area which its.0) refl first open_took
      (its.1, ap (λ (es : List TreeEntry). refused_in (open_refusal which) es (Some its.0)) (append-nil (state_after opened_at).entries) ∙ opens)

-- in vain
module _ (me : ℕ) (handle : Handle) (pod : PodId) (area : Area) (which : Which) (mode : Mode) (covered : Bool) (old opened_at mid asked_at late : List Event) (first : Interference me old opened_at)
    (open_took : TookPlace opened_at me (Open (pod_spot pod area) which) (Opened handle) mid) (between : Interference me mid asked_at)
    (ask_took : TookPlace asked_at me (TryLock handle mode) (Refused Locked 0) late)
    (z : Seen) (single : list_any (λ h. is_lock which h.target) z.standing.holdings ≡ false) (run : IsRun late) (tied : IsTied me mid (and_held (asked_on pod area which handle covered) z)) where
  abbrev then : Namespace
  then = (state_after asked_at).namespace

  told : is_locked then me handle mode ≡ true
  told = (held_says (state_after asked_at) me handle mode ask_took.allowed).told

  alive : Lives me asked_at
  alive = (held_says (state_after asked_at) me handle mode ask_took.allowed).living

  abbrev doubled : Held → Bool
  doubled h = doubles which handle (record { handle = h.handle; target = h.target; lock = h.lock })

  rest : list_any doubled z.standing.holdings ≡ false
  rest = any_fewer doubled (λ h. is_lock which h.target) (λ h is. and_left (is_lock which h.target) (not (h.handle.number == handle.number)) is) z.standing.holdings single

  seen_once : list_any doubled (seen_of me asked_at).standing.holdings ≡ false
  seen_once =
      ap (λ (s : Seen). list_any doubled s.standing.holdings) (meanwhile_unseen between)
      ∙ (sym (ap (λ (s : Seen). list_any doubled s.standing.holdings) (tied.living (lived_meanwhile between alive)).same)
      ∙ or_none (doubled (asked_on pod area which handle covered)) (list_any doubled z.standing.holdings)
      (ap (λ b. is_lock which (target_of (pod_spot pod area) which) && not b) (same_self handle.number) ∙ and_false (is_lock which (target_of (pod_spot pod area) which))) rest)

  earlier : IsRun asked_at
  earlier = run-left asked_at (event me (TryLock handle mode) (Refused Locked 0) ∷ []) (subst IsRun ask_took.grown run)

  single_now : list_any (doubles which handle) (map holding_of (own me then.openings)) ≡ false
  single_now = sym (open_as_seen me asked_at earlier alive (doubles which handle)) ∙ seen_once

  held_took : PodHeldByAnother pod area which mode me old late
  held_took =
      let k = its me handle pod area which mode old opened_at mid asked_at first open_took between alive in
      record {
        folder = k.0;
        between = mid;
        found = found_its me handle pod area which mode old opened_at mid asked_at first open_took between alive;
        held = took_at me mid asked_at (TryLock handle mode) (Refused Locked 0) late (λ s. list_any (is_held_against me which mode k.0) s.namespace.openings ≡ true) refl between ask_took
            (elsewhere_by me handle which mode (pod_spot pod area) k.0 then.openings single_now
            (sym (ap (is_opposed then me handle mode) (is_its me handle pod area which mode old opened_at mid asked_at first open_took between alive)) ∙ told));
      }

-- or with the lock had
module _ (me : ℕ) (handle : Handle) (which : Which) (mode : Mode) (spot : Spot) (f : ℕ) where
  -- who holds it elsewhere opposes this handle
  opposing : (o : Opening) → is_held_against me which mode f o ≡ true → (not (is_handle me handle o) && (is_same_lock (here me handle which mode spot f) o && opposes mode o.lock)) ≡ true
  opposing o is =
      let rest = and_right (not (o.process == me)) (is_folder f o.folder && (is_lock which o.target && opposes mode o.lock)) is in
      let lock = and_right (is_folder f o.folder) (is_lock which o.target && opposes mode o.lock) rest in
      and_both (not (is_handle me handle o)) _ (not_mine (o.process == me) (o.handle.number == handle.number) (and_left (not (o.process == me)) _ is))
      (and_both (is_same_lock (here me handle which mode spot f) o) (opposes mode o.lock)
      (one_lock which o.target o.folder (and_left (is_lock which o.target) (opposes mode o.lock) lock) (and_left (is_folder f o.folder) _ rest)) (and_right (is_lock which o.target) (opposes mode o.lock) lock))
    where
      not_mine : (p i : Bool) → not p ≡ true → not (p && i) ≡ true
      not_mine false i is = refl
      not_mine true i is = cc

      one_lock : (w : Which) (t : Target) (g : Option ℕ) → is_lock w t ≡ true → is_folder f g ≡ true → is_one_lock (target_of spot w) (Some f) t g ≡ true
      one_lock Own (target.Own at) g lock is = is
      one_lock Own (target.Claim at) g lock is = cc
      one_lock Own (target.Gate a) g lock is = cc
      one_lock Claim (target.Claim at) g lock is = is
      one_lock Claim (target.Own at) g lock is = cc
      one_lock Claim (target.Gate a) g lock is = cc

  none_opposing : (os : List Opening) → list_any (λ o. not (is_handle me handle o) && (is_same_lock (here me handle which mode spot f) o && opposes mode o.lock)) os ≡ false → list_any (is_held_against me which mode f) os ≡ false
  none_opposing os none = any_fewer (is_held_against me which mode f) (λ o. not (is_handle me handle o) && (is_same_lock (here me handle which mode spot f) o && opposes mode o.lock)) opposing os none

  -- and an own lock changes nothing of that
  its_own : (given : Mode) (o : Opening) → is_held_against me which mode f (locked me handle given o) ≡ is_held_against me which mode f o
  its_own given o = by (is_handle me handle o) (λ it. and_left (o.process == me) (o.handle.number == handle.number) it)
    where
      by : (b : Bool) → (b ≡ true → (o.process == me) ≡ true) → is_held_against me which mode f (cond b (record o { lock = Some given }) o) ≡ is_held_against me which mode f o
      by true it = ap (λ c. not c && (is_folder f o.folder && (is_lock which o.target && opposes mode (Some given)))) (it refl) ∙ sym (ap (λ c. not c && (is_folder f o.folder && (is_lock which o.target && opposes mode o.lock))) (it refl))
      by false it = refl

free_took : (me : ℕ) (handle : Handle) (pod : PodId) (area : Area) (which : Which) (mode : Mode) (old opened_at mid asked_at late : List Event) → Interference me old opened_at → TookPlace opened_at me (Open (pod_spot pod area) which) (Opened handle) mid
    → Interference me mid asked_at → TookPlace asked_at me (TryLock handle mode) Done late → FreeOfOthers pod area which mode me old late
free_took me handle pod area which mode old opened_at mid asked_at late first open_took between ask_took =
    let n : Namespace = (state_after asked_at).namespace in
    let says = lock_says (state_after asked_at) me handle mode ask_took.allowed in
    let k = its me handle pod area which mode old opened_at mid asked_at first open_took between says.living in
    let none = none_opposing me handle which mode (pod_spot pod area) k.0 n.openings
    (sym (ap (is_opposed n me handle mode) (is_its me handle pod area which mode old opened_at mid asked_at first open_took between says.living)) ∙ says.told) in
    record {
      folder = k.0;
      between = mid;
      found = found_its me handle pod area which mode old opened_at mid asked_at first open_took between says.living;
      free = took_at me mid asked_at (TryLock handle mode) Done late (λ s. list_any (is_held_against me which mode k.0) s.namespace.openings ≡ false) refl between ask_took
          (any_map (is_held_against me which mode k.0) (locked me handle mode) (its_own me handle which mode (pod_spot pod area) k.0 mode) n.openings ∙ none);
    }

-- the same of the calls
pub held_step : (me : ℕ) (old mid late : List Event) (handle : Handle) (pod : PodId) (area : Area) (which : Which) (mode : Mode) (covered : Bool) → CallStep me old (Open (pod_spot pod area) which) (Opened handle) mid → CallStep me mid (TryLock handle mode) (Refused Locked 0) late
    → (z : Seen) → list_any (λ h. is_lock which h.target) z.standing.holdings ≡ false → IsTied me mid (and_held (asked_on pod area which handle covered) z) → PodHeldByAnother pod area which mode me old late
held_step me old mid late handle pod area which mode covered opens asks z single tied = by opens.own asks.own
  where
    by : TookPlace opens.before me (Open (pod_spot pod area) which) (Opened handle) mid ⊎ LeftNothing opens.before me (Open (pod_spot pod area) which) (Opened handle) mid
        → TookPlace asks.before me (TryLock handle mode) (Refused Locked 0) late ⊎ LeftNothing asks.before me (TryLock handle mode) (Refused Locked 0) late → PodHeldByAnother pod area which mode me old late
    by (inl o) (inl a) = held_took me handle pod area which mode covered old opens.before mid asks.before late opens.meanwhile o asks.meanwhile a z single asks.run tied
    by (inl o) (inr l) = late_never l refl
    by (inr l) a = late_never l refl

pub free_step : (me : ℕ) (old mid late : List Event) (handle : Handle) (pod : PodId) (area : Area) (which : Which) (mode : Mode) → CallStep me old (Open (pod_spot pod area) which) (Opened handle) mid → CallStep me mid (TryLock handle mode) Done late
    → FreeOfOthers pod area which mode me old late
free_step me old mid late handle pod area which mode opens asks = by opens.own asks.own
  where
    by : TookPlace opens.before me (Open (pod_spot pod area) which) (Opened handle) mid ⊎ LeftNothing opens.before me (Open (pod_spot pod area) which) (Opened handle) mid
        → TookPlace asks.before me (TryLock handle mode) Done late ⊎ LeftNothing asks.before me (TryLock handle mode) Done late → FreeOfOthers pod area which mode me old late
    by (inl o) (inl a) = free_took me handle pod area which mode old opens.before mid asks.before late opens.meanwhile o asks.meanwhile a
    by (inl o) (inr l) = late_never l refl
    by (inr l) a = late_never l refl
