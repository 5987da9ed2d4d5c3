-- What a process knows that takes the locks of a prepared pod, moves it, and gives its Claim up.
use Rattle.std.proofs.Common.{◌≡◌, ℕ, Bool, true, false, not, ◌&&◌, ◌||◌, ◌==◌, cond, bytes_eq, Option, Some, None, List, [], ◌∷◌, map, filter, refl, sym, ap, subst, ◌∙◌}
use Rattle.std.specs.List.{list_any}
use Rattle.plain_laws.proofs.Texts.{same_bytes}
use Rattle.dir_model.specs.declared.area.Area.{Area}
use Rattle.dir_model.specs.declared.area.Area.TheVariants.{Embryo, ExitedGarbage, Garbage, Incoming}
use Rattle.dir_model.specs.declared.item.Inner.{Inner}
use Rattle.dir_model.specs.declared.opening.Target.{Target}
use Rattle.dir_model.specs.declared.opening.Target.TheVariants as target
use Rattle.dir_model.specs.declared.pod.PodId.{PodId}
use Rattle.dir_model.specs.declared.spot.Handle.{Handle}
use Rattle.dir_model.specs.declared.spot.Mode.TheVariants.{Exclusive}
use Rattle.dir_model.specs.declared.spot.Spot.{Spot}
use Rattle.dir_model.specs.declared.spot.Which.{Which}
use Rattle.dir_model.specs.declared.spot.Which.TheVariants.{Own, Claim}
use Rattle.dir_model.specs.declared.request.DirError.{DirError}
use Rattle.dir_model.specs.declared.request.Request.TheVariants.{Open, TryLock, MoveFolder, Close}
use Rattle.dir_model.specs.declared.request.Reply.TheVariants.{Done, Opened, Refused}
use Rattle.dir_model.specs.Areas.{rank, is_stage}
use Rattle.dir_model.specs.Locks.{target_of}
use Rattle.dir_model.specs.Local.{is_own_of}
use Rattle.dir_model.specs.Pods.{pod_text}
use Rattle.dir_model.proofs.Lists.{and_false, same_self, any_fewer}
use Rattle.dir_rules.specs.declared.standing.Held.{Held}
use Rattle.dir_rules.specs.declared.seen.Seen.{Seen}
use Rattle.dir_rules.specs.declared.seen.ShownItem.{ShownItem}
use Rattle.dir_rules.specs.declared.seen.ShownArea.{ShownArea}
use Rattle.dir_rules.specs.Standing.{is_garbage, is_claim_of, is_handle_held, is_claim_held, is_gate_shared, is_gate_exclusive, gives_up, gives_up_cover, uncovered_by_close, uncover, holds_claim, holds_own, intends, standing_done}
use Rattle.dir_rules.specs.LockRules.{is_open_on, is_same_target, is_removal_held, may_lock_by, may_lock_target}
use Rattle.dir_rules.specs.Rules.{allows, runs, is_gate, is_deleting}
use Rattle.dir_rules.specs.Seen.{folder_moved, still_listed, still_shown, still_known}
use Rattle.dir_rules.specs.Conforms.{seen_replied}
use Rattle.dir_rules.proofs.Looks.{Fresh, Plain, none_given, filter_same, closed_plain, newest_found, newest_locked, alone_newest, deletes_none, none_dropped}
use Rattle.pod_locks.specs.ClaimRequests.{in_prepared, in_run}
use Rattle.pod_locks.specs.ClaimCauses.{is_lock}
use Rattle.pod_locks.specs.ClaimHolding.{on_prepared_lock, and_held, is_on_folder, MayClaim, MayTakePrepared, is_own_lock, with_prepared_lock, with_pod}

-- a process that has only locks of areas has none of the pod's
off_one : (which : Which) (spot : Spot) (t : Target) → is_same_target (target_of spot which) t ≡ true → not (is_gate t) ≡ true
off_one Own spot (target.Own here) is = refl
off_one Own spot (target.Claim here) is = refl
off_one Own spot (target.Gate a) is = cc
off_one Claim spot (target.Own here) is = refl
off_one Claim spot (target.Claim here) is = refl
off_one Claim spot (target.Gate a) is = cc

pub off : (which : Which) (spot : Spot) (hs : List Held) → list_any is_on_folder hs ≡ false → is_open_on (target_of spot which) hs ≡ false
off which spot hs apart = any_fewer (λ h. is_same_target (target_of spot which) h.target) is_on_folder (λ h is. off_one which spot h.target is) hs apart

pub kind_one : (which : Which) (t : Target) → is_lock which t ≡ true → not (is_gate t) ≡ true
kind_one Own (target.Own here) is = refl
kind_one Own (target.Claim here) is = cc
kind_one Own (target.Gate a) is = cc
kind_one Claim (target.Claim here) is = refl
kind_one Claim (target.Own here) is = cc
kind_one Claim (target.Gate a) is = cc

pub none_kind : (which : Which) (hs : List Held) → list_any is_on_folder hs ≡ false → list_any (λ h. is_lock which h.target) hs ≡ false
none_kind which hs apart = any_fewer (λ h. is_lock which h.target) is_on_folder (λ h is. kind_one which h.target is) hs apart

-- what changes handles on folders alone changes none of its
pub map_gates : (f : Held → Held) → ((h : Held) → not (is_gate h.target) ≡ false → f h ≡ h) → (hs : List Held) → list_any is_on_folder hs ≡ false → map f hs ≡ hs
map_gates f same [] apart = refl
map_gates f same (h ∷ hs) apart = by (not (is_gate h.target)) refl apart (λ rest. map_gates f same hs rest)
  where
    by : (b : Bool) → not (is_gate h.target) ≡ b → (b || list_any is_on_folder hs) ≡ false → (list_any is_on_folder hs ≡ false → map f hs ≡ hs) → map f (h ∷ hs) ≡ h ∷ hs
    by true is rest go = cc
    by false is rest go = ap (λ (x : Held). x ∷ map f hs) (same h is) ∙ ap (λ (l : List Held). h ∷ l) (go rest)

gate_own : (name : List ℕ) (t : Target) → not (is_gate t) ≡ false → is_own_of name t ≡ false
gate_own name (target.Own spot) g = cc
gate_own name (target.Claim spot) g = cc
gate_own name (target.Gate a) g = refl

pub gate_cover : (h : Handle) (whole : List Held) (t : Target) → not (is_gate t) ≡ false → gives_up_cover h whole t ≡ false
gate_cover h whole (target.Own spot) g = cc
gate_cover h whole (target.Claim spot) g = cc
gate_cover h whole (target.Gate a) g = refl

still_covered : (from : Spot) (h : Held) → not (is_gate h.target) ≡ false → uncover from h ≡ h
still_covered from h g = ap (λ b. let r : Held = record h { covered = not b && h.covered } in r) (ap (λ b. is_stage from.area && b) (gate_own from.name h.target g) ∙ and_false (is_stage from.area))

pub recovered : (c : Handle) (whole : List Held) (h : Held) → not (is_gate h.target) ≡ false → uncovered_by_close c whole h ≡ h
recovered c whole h g = ap (λ b. let r : Held = record h { covered = not b && h.covered } in r) (gate_cover c whole h.target g)

-- nothing hangs on a lock of the pod that isn't had, nor on Own
plain_free : (pod : PodId) (which : Which) (h : Handle) (covered : Bool) → Plain (on_prepared_lock pod which h None covered) h
plain_free pod Own h covered = record { number = refl; gate = refl; closes = λ a. refl; claim = λ u. refl; removal = λ here. refl }
plain_free pod Claim h covered = record { number = refl; gate = refl; closes = λ a. refl; claim = λ u. and_false (is_claim_of u (target.Claim (in_prepared pod))); removal = λ here. refl }

no_removal : (area : Area) (b : Bool) → (is_garbage area && ((2 == rank area) && b)) ≡ false
no_removal ExitedGarbage b = refl
no_removal Garbage b = refl
no_removal area b = refl

plain_own : (pod : PodId) (h : Handle) (covered : Bool) → Plain (on_prepared_lock pod Own h (Some Exclusive) covered) h
plain_own pod h covered = record { number = refl; gate = refl; closes = λ a. refl; claim = λ u. refl; removal = λ here. no_removal here.area (bytes_eq (pod_text pod.bytes) here.name) }

-- a lock that wasn't had is given up
pub free_given : (pod : PodId) (which : Which) (h : Handle) (covered : Bool) (z : Seen) → Fresh h z.standing.holdings → seen_replied (and_held (on_prepared_lock pod which h None covered) z) (Close h) Done ≡ z
free_given pod Own h covered z fresh = closed_plain z h (on_prepared_lock pod Own h None covered) z.standing.seen_unowned (plain_free pod Own h covered) fresh
free_given pod Claim h covered z fresh = closed_plain z h (on_prepared_lock pod Claim h None covered) z.standing.seen_unowned (plain_free pod Claim h covered) fresh

-- and so is Own
pub own_given : (pod : PodId) (h : Handle) (covered : Bool) (z : Seen) → Fresh h z.standing.holdings → seen_replied (and_held (on_prepared_lock pod Own h (Some Exclusive) covered) z) (Close h) Done ≡ z
own_given pod h covered z fresh = closed_plain z h (on_prepared_lock pod Own h (Some Exclusive) covered) z.standing.seen_unowned (plain_own pod h covered) fresh

-- a lock of the pod is opened, asked for, and had or not
pub not_opened : (pod : PodId) (which : Which) (z : Seen) (error : DirError) → seen_replied z (Open (in_prepared pod) which) (Refused error 0) ≡ z
not_opened pod Own z error = refl
not_opened pod Claim z error = refl

kind_stays : (pod : PodId) (which : Which) (x : Held) (covered : Bool) (z : Seen) → may_lock_target z.standing covered (target_of (in_prepared pod) which) Exclusive ≡ true
    → may_lock_target (and_held x z).standing covered (target_of (in_prepared pod) which) Exclusive ≡ true
kind_stays pod Own x covered z may = may
kind_stays pod Claim x covered z may = may

module _ (pod : PodId) (which : Which) (h : Handle) (covered : Bool) (z : Seen) (fresh : Fresh h z.standing.holdings)
    (alone : is_open_on (target_of (in_prepared pod) which) z.standing.holdings ≡ false)
    (may : may_lock_target z.standing covered (target_of (in_prepared pod) which) Exclusive ≡ true) where
  abbrev New : Held
  New = on_prepared_lock pod which h None covered

  abbrev Opening : Seen
  Opening = and_held New z

  may_try : allows Opening (TryLock h Exclusive) ≡ true
  may_try =
      ap (λ (o : Option Held). may_lock_by Opening.standing o Exclusive && true) (newest_found New z.standing.holdings)
      ∙ (ap (λ b. (b && may_lock_target Opening.standing covered (target_of (in_prepared pod) which) Exclusive) && true) (alone_newest New z.standing.holdings alone)
      ∙ ap (λ b. b && true) (kind_stays pod which New covered z may))

  pub lock_had : seen_replied Opening (TryLock h Exclusive) Done ≡ and_held (on_prepared_lock pod which h (Some Exclusive) covered) z
  lock_had =
      ap (λ b. let r : Seen = record z { standing = standing_done Opening.standing (TryLock h Exclusive); kept = b && z.kept } in r) may_try
      ∙ ap (λ (l : List Held). let r : Seen = record z { standing = record z.standing { holdings = l } } in r) (newest_locked New Exclusive z.standing.holdings fresh)

  pub lock_refused : (error : DirError) → seen_replied Opening (TryLock h Exclusive) (Refused error 0) ≡ Opening
  lock_refused error = ap (λ b. let r : Seen = record Opening { kept = b && z.kept } in r) may_try

-- who may take a lock: it has no other handle on it, may ask for it, and Own that it opens is covered
pub record CanTake (pod : PodId) (which : Which) (z : Seen) : Type 0 where
  pub alone : is_open_on (target_of (in_prepared pod) which) z.standing.holdings ≡ false
  pub may : may_lock_target z.standing (is_own_lock which) (target_of (in_prepared pod) which) Exclusive ≡ true
  pub single : list_any (λ h. is_lock which h.target) z.standing.holdings ≡ false
  pub opens : (h : Handle) → seen_replied z (Open (in_prepared pod) which) (Opened h) ≡ and_held (on_prepared_lock pod which h None (is_own_lock which)) z

abbrev claimed : PodId → Handle → Seen → Seen
claimed pod claim base = and_held (on_prepared_lock pod Claim claim (Some Exclusive) false) base

covers : (pod : PodId) (claim : Handle) (base : Seen) → holds_claim (pod_text pod.bytes) (claimed pod claim base).standing ≡ true
covers pod claim base = rw (same_bytes (pod_text pod.bytes)) refl

under_claim : (pod : PodId) (claim : Handle) (base : Seen) → MayClaim base → CanTake pod Own (claimed pod claim base)
under_claim pod claim base may = record {
  alone = off Own (in_prepared pod) base.standing.holdings may.apart;
  may = rw may.began refl;
  single = none_kind Own base.standing.holdings may.apart;
  opens = λ h. ap (λ b. and_held (on_prepared_lock pod Own h None b) (claimed pod claim base)) (covers pod claim base);
}

pub can_take : (pod : PodId) (which : Which) (z : Seen) → MayTakePrepared pod which z → CanTake pod which z
can_take pod Claim z may = record { alone = off Claim (in_prepared pod) z.standing.holdings may.apart; may = refl; single = none_kind Claim z.standing.holdings may.apart; opens = λ h. refl }
can_take pod Own z has = subst (λ (x : Seen). CanTake pod Own x) (sym has.is) (under_claim pod has.claim has.base has.may)

-- the pod is moved, under both
module _ (pod : PodId) (own claim : Handle) (base : Seen) (may : MayClaim base) where
  abbrev Name : List ℕ
  Name = pod_text pod.bytes

  abbrev Mid : Seen
  Mid = claimed pod claim base

  abbrev Both : Seen
  Both = with_prepared_lock pod Own own Mid

  spared : list_any (is_deleting Name) base.standing.holdings ≡ false
  spared = deletes_none Name base.standing.holdings (off Own (in_prepared pod) base.standing.holdings may.apart)

  may_move : allows Both (MoveFolder (in_prepared pod) (in_run pod)) ≡ true
  may_move = rw (same_bytes Name, may.began, spared) refl

  abbrev After : List Held → Bool → Seen
  After held kept = record (folder_moved Mid (in_prepared pod) (in_run pod)) { standing = record base.standing { holdings = held; moves = in_run pod ∷ base.standing.moves }; kept = kept }

  abbrev Uncovered : Bool → Held
  Uncovered covered = on_prepared_lock pod Own own (Some Exclusive) covered

  abbrev Rest : List Held
  Rest = on_prepared_lock pod Claim claim (Some Exclusive) false ∷ base.standing.holdings

  uncovers : map (uncover (in_prepared pod)) (Both.standing.holdings) ≡ Uncovered false ∷ Rest
  uncovers =
      ap (λ b. Uncovered (not b && true) ∷ map (uncover (in_prepared pod)) Rest) (same_bytes Name)
      ∙ ap (λ (l : List Held). Uncovered false ∷ on_prepared_lock pod Claim claim (Some Exclusive) false ∷ l) (map_gates (uncover (in_prepared pod)) (still_covered (in_prepared pod)) base.standing.holdings may.apart)

  pub moved_seen : seen_replied Both (MoveFolder (in_prepared pod) (in_run pod)) Done ≡ with_pod pod own Mid
  moved_seen =
      ap (λ (l : List Held). After l (allows Both (MoveFolder (in_prepared pod) (in_run pod)) && base.kept)) uncovers
      ∙ ap (λ b. After (Uncovered false ∷ Rest) (b && base.kept)) may_move

  pub unmoved_seen : (error : DirError) → seen_replied Both (MoveFolder (in_prepared pod) (in_run pod)) (Refused error 0) ≡ Both
  unmoved_seen error = ap (λ b. let r : Seen = record Both { kept = b && base.kept } in r) may_move

-- Claim is given up
module _ (pod : PodId) (claim : Handle) (t : Seen) (whole left : List Held)
    (gives : (test : Held → Bool) → gives_up test claim whole ≡ test (on_prepared_lock pod Claim claim (Some Exclusive) false))
    (filtered : map (uncovered_by_close claim whole) (filter (λ h. not (is_handle_held claim h)) whole) ≡ left) (seen_unowned_under_claim : t.standing.seen_unowned_under_claim ≡ []) where
  abbrev Within : List Held → Seen
  Within hs = record t { standing = record t.standing { holdings = hs } }

  abbrev Given : Bool → List Held → List (List ℕ) → Bool → List Inner → List ShownItem → List ShownArea → Bool → Seen
  Given g hs names image_under_lock listed items areas k = record t {
    standing = record t.standing { embryo_under_lock = not g && t.standing.embryo_under_lock; holdings = hs; seen_unowned_under_claim = names };
    image_under_lock = not image_under_lock && t.image_under_lock;
    listed = listed;
    items = items;
    areas = areas;
    kept = (not ((k && t.standing.embryo_under_lock) && intends (λ i. holds_own (pod_text i.draw.bytes) (Within whole).standing) t.standing.intent) && true) && t.kept;
  }

  names_left : filter (λ u. not (gives_up (is_claim_held u) claim whole)) t.standing.seen_unowned_under_claim ≡ t.standing.seen_unowned_under_claim
  names_left = ap (filter (λ u. not (gives_up (is_claim_held u) claim whole))) seen_unowned_under_claim ∙ sym seen_unowned_under_claim

  pub claim_given : seen_replied (Within whole) (Close claim) Done ≡ Within left
  claim_given =
      ap (λ (l : List Held). Given (gives_up (is_gate_shared Embryo) claim whole) l (filter (λ u. not (gives_up (is_claim_held u) claim whole)) t.standing.seen_unowned_under_claim) (gives_up (is_gate_shared Incoming) claim whole)
      (still_listed claim whole t.listed) (still_shown claim whole t.items) (still_known claim whole t.areas) (gives_up (is_gate_shared Embryo) claim whole)) filtered
      ∙ (ap (λ b. Given b left (filter (λ u. not (gives_up (is_claim_held u) claim whole)) t.standing.seen_unowned_under_claim) (gives_up (is_gate_shared Incoming) claim whole)
      (still_listed claim whole t.listed) (still_shown claim whole t.items) (still_known claim whole t.areas) b) (gives (is_gate_shared Embryo))
      ∙ (ap (λ (l : List (List ℕ)). Given false left l (gives_up (is_gate_shared Incoming) claim whole) (still_listed claim whole t.listed) (still_shown claim whole t.items) (still_known claim whole t.areas) false) names_left
      ∙ (ap (λ b. Given false left t.standing.seen_unowned_under_claim b (still_listed claim whole t.listed) (still_shown claim whole t.items) (still_known claim whole t.areas) false) (gives (is_gate_shared Incoming))
      ∙ (ap (λ (l : List Inner). Given false left t.standing.seen_unowned_under_claim false l (still_shown claim whole t.items) (still_known claim whole t.areas) false)
      (filter_same (λ inner. not (gives_up (is_removal_held inner.spot) claim whole)) t.listed (λ inner. ap not (gives (is_removal_held inner.spot))))
      ∙ (ap (λ (l : List ShownItem). Given false left t.standing.seen_unowned_under_claim false t.listed l (still_known claim whole t.areas) false)
      (filter_same (λ i. not (gives_up (is_removal_held i.inner.spot) claim whole)) t.items (λ i. ap not (gives (is_removal_held i.inner.spot))))
      ∙ ap (λ (l : List ShownArea). Given false left t.standing.seen_unowned_under_claim false t.listed t.items l false)
      (filter_same (λ a. not (gives_up (is_gate_exclusive a.area) claim whole)) t.areas (λ a. ap not (gives (is_gate_exclusive a.area)))))))))

module _ (pod : PodId) (claim : Handle) (base : Seen) (may : MayClaim base) (fresh : Fresh claim base.standing.holdings) where
  abbrev Newest : Held
  Newest = on_prepared_lock pod Claim claim (Some Exclusive) false

  abbrev Hs : List Held
  Hs = base.standing.holdings

  by_one : (b : Bool) → ((b && true) || false) ≡ b
  by_one true = refl
  by_one false = refl

  gives_alone : (test : Held → Bool) → gives_up test claim (Newest ∷ Hs) ≡ test Newest
  gives_alone test = rw (same_self claim.number, none_given test claim Hs fresh) (by_one (test Newest))

  dropped_newest : filter (λ h. not (is_handle_held claim h)) (Newest ∷ Hs) ≡ Hs
  dropped_newest = ap (λ b. cond (not b) (Newest ∷ filter (λ h. not (is_handle_held claim h)) Hs) (filter (λ h. not (is_handle_held claim h)) Hs)) (same_self claim.number) ∙ none_dropped claim Hs fresh

  -- where the pod wasn't moved
  pub claim_back : seen_replied (claimed pod claim base) (Close claim) Done ≡ base
  claim_back = claim_given pod claim base (Newest ∷ Hs) Hs gives_alone
      (ap (map (uncovered_by_close claim (Newest ∷ Hs))) dropped_newest ∙ map_gates (uncovered_by_close claim (Newest ∷ Hs)) (recovered claim (Newest ∷ Hs)) Hs may.apart) may.seen_unowned_under_claim

  -- and where it was
  module _ (own : Handle) (other : (own.number == claim.number) ≡ false) where
    abbrev Mine : Held
    Mine = on_prepared_lock pod Own own (Some Exclusive) false

    abbrev Whole : List Held
    Whole = Mine ∷ Newest ∷ Hs

    second : (a b : Bool) → ((a && false) || ((b && true) || false)) ≡ b
    second true true = refl
    second true false = refl
    second false true = refl
    second false false = refl

    gives_second : (test : Held → Bool) → gives_up test claim Whole ≡ test Newest
    gives_second test = rw (other, same_self claim.number, none_given test claim Hs fresh) (second (test Mine) (test Newest))

    dropped_second : filter (λ h. not (is_handle_held claim h)) Whole ≡ Mine ∷ Hs
    dropped_second = ap (λ b. cond (not b) (Mine ∷ filter (λ h. not (is_handle_held claim h)) (Newest ∷ Hs)) (filter (λ h. not (is_handle_held claim h)) (Newest ∷ Hs))) other ∙ ap (λ (l : List Held). Mine ∷ l) dropped_newest

    pub claim_back_after : seen_replied (with_pod pod own (claimed pod claim base)) (Close claim) Done ≡ with_pod pod own base
    claim_back_after = claim_given pod claim (with_pod pod own base) Whole (Mine ∷ Hs) gives_second
        (ap (map (uncovered_by_close claim Whole)) dropped_second
        ∙ (ap (λ b. let r : Held = record Mine { covered = b } in r ∷ map (uncovered_by_close claim Whole) Hs) (and_false (not (gives_up_cover claim Whole Mine.target)))
        ∙ ap (λ (l : List Held). Mine ∷ l) (map_gates (uncovered_by_close claim Whole) (recovered claim Whole) Hs may.apart))) may.seen_unowned_under_claim

-- it runs the pod then
pub runs_pod : (pod : PodId) (own : Handle) (s : Seen) → runs (with_pod pod own s) (pod_text pod.bytes) ≡ true
runs_pod pod own s = rw (same_bytes (pod_text pod.bytes)) refl
