-- What a process knows that looks at a pod's lock, takes one, moves the pod, and gives the lock up.
use Rattle.std.proofs.Common.{◌≡◌, ℕ, Bool, true, false, not, ◌&&◌, ◌||◌, Option, Some, None, List, [], ◌∷◌, map, refl, ap, ◌∙◌}
use Rattle.plain_laws.proofs.Lists.{none_of_filter}
use Rattle.dir_model.specs.declared.area.Area.{Area}
use Rattle.dir_model.specs.declared.area.Area.TheVariants as area
use Rattle.dir_model.specs.declared.opening.Target.TheVariants as target
use Rattle.dir_model.specs.declared.pod.PodId.{PodId}
use Rattle.dir_model.specs.declared.spot.Handle.{Handle}
use Rattle.dir_model.specs.declared.spot.Mode.TheVariants.{Shared, Exclusive}
use Rattle.dir_model.specs.declared.spot.Spot.{Spot}
use Rattle.dir_model.specs.declared.spot.Which.{Which}
use Rattle.dir_model.specs.declared.spot.Which.TheVariants.{Own, Claim}
use Rattle.dir_model.specs.declared.request.DirError.{DirError}
use Rattle.dir_model.specs.declared.request.Request.TheVariants.{Open, TryLock, MoveFolder, Close}
use Rattle.dir_model.specs.declared.request.Reply.TheVariants.{Done, Opened, Refused}
use Rattle.dir_model.specs.Areas.{is_stage}
use Rattle.dir_model.specs.Locks.{target_of}
use Rattle.dir_model.specs.Local.{is_own_of}
use Rattle.dir_model.specs.Pods.{pod_text}
use Rattle.dir_model.proofs.Lists.{and_false}
use Rattle.dir_rules.specs.declared.standing.Held.{Held}
use Rattle.dir_rules.specs.declared.standing.Standing.{Standing}
use Rattle.dir_rules.specs.declared.seen.Seen.{Seen}
use Rattle.dir_rules.specs.Standing.{is_claim_of, uncover, holds_claim, looked_by, standing_done, held_with_mode}
use Rattle.dir_rules.specs.LockRules.{is_open_on, may_open, may_lock_own, may_lock_by, may_lock_target}
use Rattle.dir_rules.specs.Rules.{allows}
use Rattle.dir_rules.specs.Conforms.{seen_replied}
use Rattle.dir_rules.proofs.Looks.{Fresh, Plain, closed_plain, newest_found, newest_locked, alone_newest}
use Rattle.dir_model.specs.Spots.{pod_spot}
use Rattle.pod_locks.specs.Holding.{on_pod_lock, and_held, with_pod_lock, covers, MayLook, MayTakeLock, MayMove, with_look, KeepsHoldings, is_in_garbage}

-- lists

-- Own was asked for shared, at any place

abbrev own_at : PodId → Area → Handle → Bool → Held
own_at pod a h covered = record { handle = h; target = target.Own (pod_spot pod a); lock = None; covered = covered }

abbrev own_shared : PodId → Area → Handle → Bool → Held
own_shared pod a h covered = record { handle = h; target = target.Own (pod_spot pod a); lock = Some Shared; covered = covered }

plain_none : (pod : PodId) (a : Area) (h : Handle) (covered : Bool) → Plain (own_at pod a h covered) h
plain_none pod a h covered = record { number = refl; gate = refl; closes = λ b. refl; claim = λ u. refl; removal = λ here. refl }

plain_shared : (pod : PodId) (a : Area) (h : Handle) (covered : Bool) → Plain (own_shared pod a h covered) h
plain_shared pod a h covered = record { number = refl; gate = refl; closes = λ b. refl; claim = λ u. refl; removal = λ here. refl }

-- more handles don't take away who may ask
own_stays : (x : Held) (s : Seen) (covered : Bool) (u : List ℕ) (a : Area) → may_lock_own s.standing covered u a Shared ≡ true → may_lock_own (and_held x s).standing covered u a Shared ≡ true
own_stays x s covered u area.Prepare may = refl
own_stays x s covered u area.Prepared may = may
own_stays x s covered u area.Run may = refl
own_stays x s covered u area.ExitedGarbage may = refl
own_stays x s covered u area.Garbage may = refl
own_stays x s covered u _ may = cc

module _ (pod : PodId) (a : Area) (h : Handle) (z : Seen) (fresh : Fresh h z.standing.holdings) (look : MayLook pod a z) where
  abbrev Covers : Bool
  Covers = covers pod a z

  abbrev New : Held
  New = own_at pod a h Covers

  abbrev Opening : Seen
  Opening = and_held New z

  pub own_opened : seen_replied z (Open (pod_spot pod a) Own) (Opened h) ≡ Opening
  own_opened = refl

  may_ask_own : allows Opening (TryLock h Shared) ≡ true
  may_ask_own =
      ap (λ (o : Option Held). may_lock_by Opening.standing o Shared && true) (newest_found New z.standing.holdings)
      ∙ (ap (λ b. (b && may_lock_own Opening.standing Covers (pod_text pod.bytes) a Shared) && true) (alone_newest New z.standing.holdings look.alone)
      ∙ ap (λ b. b && true) (own_stays New z Covers (pod_text pod.bytes) a look.may))

  -- it was had
  abbrev Had : Seen
  Had = and_held (own_shared pod a h Covers) (with_look pod a z)

  had_standing : standing_done Opening.standing (TryLock h Shared) ≡ Had.standing
  had_standing =
      ap (λ (o : Option Held). looked_by o (record z.standing { holdings = map (held_with_mode h Shared) (New ∷ z.standing.holdings) })) (newest_found New z.standing.holdings)
      ∙ ap (λ (l : List Held). looked_by (Some New) (record z.standing { holdings = l })) (newest_locked New Shared z.standing.holdings fresh)

  own_had : seen_replied Opening (TryLock h Shared) Done ≡ Had
  own_had =
      ap (λ b. let r : Seen = record z { standing = standing_done Opening.standing (TryLock h Shared); kept = b && z.kept } in r) may_ask_own
      ∙ ap (λ (t : Standing). let r : Seen = record z { standing = t } in r) had_standing

  own_unhad : (error : DirError) → seen_replied Opening (TryLock h Shared) (Refused error 0) ≡ Opening
  own_unhad error = ap (λ b. let r : Seen = record Opening { kept = b && z.kept } in r) may_ask_own

  -- and given up again
  pub probed : seen_replied (seen_replied (seen_replied z (Open (pod_spot pod a) Own) (Opened h)) (TryLock h Shared) Done) (Close h) Done ≡ with_look pod a z
  probed =
      ap (λ (x : Seen). seen_replied x (Close h) Done) own_had
      ∙ closed_plain (with_look pod a z) h (own_shared pod a h Covers) (with_look pod a z).standing.seen_unowned (plain_shared pod a h Covers) fresh

  pub not_probed : (error : DirError) → seen_replied (seen_replied (seen_replied z (Open (pod_spot pod a) Own) (Opened h)) (TryLock h Shared) (Refused error 0)) (Close h) Done ≡ z
  not_probed error =
      ap (λ (x : Seen). seen_replied x (Close h) Done) (own_unhad error)
      ∙ closed_plain z h New z.standing.seen_unowned (plain_none pod a h Covers) fresh

pub not_opened : (pod : PodId) (a : Area) (z : Seen) (error : DirError) → seen_replied z (Open (pod_spot pod a) Own) (Refused error 0) ≡ z
not_opened pod a z error = refl

-- a lock of the pod is taken exclusively

plain_lock : (pod : PodId) (a : Area) (which : Which) (h : Handle) → Plain (on_pod_lock pod a which h None) h
plain_lock pod a Own h = record { number = refl; gate = refl; closes = λ b. refl; claim = λ u. refl; removal = λ here. refl }
plain_lock pod a Claim h = record { number = refl; gate = refl; closes = λ b. refl; claim = λ u. and_false (is_claim_of u (target.Claim (pod_spot pod a))); removal = λ here. refl }

lock_stays : (x : Held) (s : Seen) (u : List ℕ) (a : Area) → may_lock_own s.standing false u a Exclusive ≡ true → may_lock_own (and_held x s).standing false u a Exclusive ≡ true
lock_stays x s u area.Embryo may = may
lock_stays x s u area.Prepared may = may
lock_stays x s u area.ExitedGarbage may = may
lock_stays x s u area.Garbage may = may
lock_stays x s u _ may = cc

target_stays : (pod : PodId) (a : Area) (which : Which) (x : Held) (s : Seen) → may_lock_target s.standing false (target_of (pod_spot pod a) which) Exclusive ≡ true → may_lock_target (and_held x s).standing false (target_of (pod_spot pod a) which) Exclusive ≡ true
target_stays pod a Own x s may = lock_stays x s (pod_text pod.bytes) a may
target_stays pod a Claim x s may = may

pub lock_unopened : (pod : PodId) (a : Area) (which : Which) (z : Seen) → MayTakeLock pod a which z → (error : DirError) → seen_replied z (Open (pod_spot pod a) which) (Refused error 0) ≡ z
lock_unopened pod a which z may error = ap (λ b. let r : Seen = record z { kept = (b && true) && z.kept } in r) may.opens

module _ (pod : PodId) (a : Area) (which : Which) (h : Handle) (z : Seen) (fresh : Fresh h z.standing.holdings) (may : MayTakeLock pod a which z) where
  abbrev Newest : Held
  Newest = on_pod_lock pod a which h None

  abbrev Opens : Bool → Bool → Seen
  Opens covered allowed = record z { standing = record z.standing { holdings = record Newest { covered = covered && holds_claim (pod_text pod.bytes) z.standing } ∷ z.standing.holdings }; kept = (allowed && true) && z.kept }

  pub lock_opened : seen_replied z (Open (pod_spot pod a) which) (Opened h) ≡ and_held Newest z
  lock_opened = ap (λ b. Opens b (may_open (pod_spot pod a) which)) may.bare ∙ ap (λ b. Opens false b) may.opens

  may_try : allows (and_held Newest z) (TryLock h Exclusive) ≡ true
  may_try =
      ap (λ (o : Option Held). may_lock_by (and_held Newest z).standing o Exclusive && true) (newest_found Newest z.standing.holdings)
      ∙ (ap (λ b. (b && may_lock_target (and_held Newest z).standing false (target_of (pod_spot pod a) which) Exclusive) && true) (alone_newest Newest z.standing.holdings may.alone)
      ∙ ap (λ b. b && true) (target_stays pod a which Newest z may.may))

  pub lock_had : seen_replied (and_held Newest z) (TryLock h Exclusive) Done ≡ with_pod_lock pod a which h z
  lock_had =
      ap (λ b. let r : Seen = record z { standing = standing_done (and_held Newest z).standing (TryLock h Exclusive); kept = b && z.kept } in r) may_try
      ∙ ap (λ (l : List Held). let r : Seen = record z { standing = record z.standing { holdings = l } } in r) (newest_locked Newest Exclusive z.standing.holdings fresh)

  pub lock_refused : (error : DirError) → seen_replied (and_held Newest z) (TryLock h Exclusive) (Refused error 0) ≡ and_held Newest z
  lock_refused error = ap (λ b. let r : Seen = record (and_held Newest z) { kept = b && z.kept } in r) may_try

-- one that wasn't had is given up
pub lock_given : (pod : PodId) (a : Area) (which : Which) (h : Handle) (z : Seen) → Fresh h z.standing.holdings → seen_replied (and_held (on_pod_lock pod a which h None) z) (Close h) Done ≡ z
lock_given pod a Own h z fresh = closed_plain z h (on_pod_lock pod a Own h None) z.standing.seen_unowned (plain_lock pod a Own h) fresh
lock_given pod a Claim h z fresh = closed_plain z h (on_pod_lock pod a Claim h None) z.standing.seen_unowned (plain_lock pod a Claim h) fresh

-- the pod is moved

uncovers_none : (from : Spot) (hs : List Held) → is_open_on (target.Own from) hs ≡ false → map (uncover from) hs ≡ hs
uncovers_none from [] off = refl
uncovers_none from (x ∷ xs) off = by (is_own_of from.name x.target) refl off (λ rest. uncovers_none from xs rest)
  where
    by : (b : Bool) → is_own_of from.name x.target ≡ b → (b || is_open_on (target.Own from) xs) ≡ false → (is_open_on (target.Own from) xs ≡ false → map (uncover from) xs ≡ xs) → map (uncover from) (x ∷ xs) ≡ x ∷ xs
    by true is off rest = cc
    by false is off rest =
        ap (λ b. let r : Held = record x { covered = not (is_stage from.area && b) && x.covered } in r ∷ map (uncover from) xs) is
        ∙ (ap (λ b. let r : Held = record x { covered = not b && x.covered } in r ∷ map (uncover from) xs) (and_false (is_stage from.area))
        ∙ ap (λ (l : List Held). x ∷ l) (rest off))

module _ (pod : PodId) (from to : Area) (z : Seen) (may : MayMove pod from to z) where
  abbrev Moves : Seen
  Moves = seen_replied z (MoveFolder (pod_spot pod from) (pod_spot pod to)) Done

  pub moved_keeps : KeepsHoldings z Moves
  moved_keeps = record {
    intent = refl;
    holdings = uncovers_none (pod_spot pod from) z.standing.holdings may.alone;
    kept = ap (λ b. b && z.kept) may.allowed;
    bare = none_of_filter is_in_garbage _ z.items may.bare;
  }

  pub unmoved : (error : DirError) → seen_replied z (MoveFolder (pod_spot pod from) (pod_spot pod to)) (Refused error 0) ≡ z
  unmoved error = ap (λ b. let r : Seen = record z { kept = b && z.kept } in r) may.allowed
