-- A handle that is opened, asked for a shared lock and closed again leaves what is known as it was, but for where it looked.
use Rattle.std.proofs.Common.{◌≡◌, ℕ, Bool, true, false, not, ◌&&◌, ◌||◌, ◌==◌, cond, bytes_eq, Option, Some, None, List, [], ◌∷◌, ◌++◌, map, filter, find, Result, Ok, Err, refl, sym, ap, subst, ◌∙◌, append_assoc}
use Rattle.std.specs.List.{list_any}
use Rattle.plain_laws.proofs.Texts.{same_bytes}
use Rattle.dir_model.specs.declared.area.Area.{Area}
use Rattle.dir_model.specs.declared.area.Area.TheVariants.{Embryo, Prepare, Prepared, Run, ExitedGarbage, Garbage, Incoming, Images}
use Rattle.dir_model.specs.declared.opening.Target.{Target}
use Rattle.dir_model.specs.declared.opening.Target.TheVariants.{Own, Claim, Gate}
use Rattle.dir_model.specs.declared.spot.Handle.{Handle}
use Rattle.dir_model.specs.declared.spot.Mode.{Mode}
use Rattle.dir_model.specs.declared.spot.Mode.TheVariants.{Shared}
use Rattle.dir_model.specs.declared.spot.Spot.{Spot}
use Rattle.dir_model.specs.declared.request.DirError.{DirError}
use Rattle.dir_model.specs.declared.request.Request.TheVariants.{Open, TryLock, Close}
use Rattle.dir_model.specs.declared.request.Reply.TheVariants.{Done, Opened, Refused}
use Rattle.dir_rules.specs.declared.standing.Held.{Held}
use Rattle.dir_rules.specs.declared.standing.Standing.{Standing}
use Rattle.dir_rules.specs.declared.seen.Seen.{Seen}
use Rattle.dir_rules.specs.declared.seen.ShownItem.{ShownItem}
use Rattle.dir_rules.specs.declared.seen.ShownArea.{ShownArea}
use Rattle.dir_model.specs.declared.item.Inner.{Inner}
use Rattle.dir_model.specs.Pods.{pod_text}
use Rattle.dir_model.specs.Replies.{done_reply}
use Rattle.dir_rules.specs.Standing.{is_in, is_garbage, is_handle_held, held_with_mode, gives_up, gives_up_cover, uncovered_by_close, given_up, own_spot, prepared_name, looked_by, holds_claim, holds_own, intends, is_claim_held, is_gate_shared, is_gate_exclusive, is_gate_of, has_place, area_of, standing_done}
use Rattle.dir_model.specs.Areas.{is_stage, rank}
use Rattle.dir_rules.specs.LockRules.{is_removal_held, is_removal_target, is_same_target, is_open_on, is_second, is_alone, may_lock_own, may_lock_by}
use Rattle.dir_model.specs.Local.{is_own_of}
use Rattle.dir_rules.specs.Seen.{is_free, still_listed, still_shown, still_known}
use Rattle.dir_rules.specs.Rules.{is_deleting, allows, may_read_area}
use Rattle.dir_rules.specs.Conforms.{seen_replied, Looked, is_lookable}
use Rattle.dir_model.specs.Locks.{is_exclusive}
use Rattle.dir_model.proofs.Lists.{same_self, and_false}
use Rattle.dir_model.specs.declared.spot.Which.TheVariants as which

pub looked_same : (s : Seen) → Looked s s
looked_same s = record { free = []; same = refl }

pub looked_more : {a b c : Seen} → Looked a b → Looked b c → Looked a c
looked_more {a} {b} {c} ab bc = record {
  free = bc.free ++ ab.free;
  same = bc.same ∙ ap (λ (x : Seen). let r : Seen = record x { standing = record x.standing { seen_unowned = bc.free ++ x.standing.seen_unowned } } in r) ab.same ∙ ap (λ (l : List Spot). let r : Seen = record a { standing = record a.standing { seen_unowned = l } } in r) (sym (append_assoc bc.free ab.free a.standing.seen_unowned));
}

-- a number that isn't open: nothing is given up, dropped or locked by it
abbrev pub Fresh : Handle → List Held → Type 0
Fresh h hs = list_any (is_handle_held h) hs ≡ false

pub none_given : (test : Held → Bool) (h : Handle) (hs : List Held) → Fresh h hs → gives_up test h hs ≡ false
none_given test h [] fresh = refl
none_given test h (x ∷ hs) fresh = by (test x) (is_handle_held h x) fresh (λ f. none_given test h hs f)
  where
    by : (a b : Bool) → (b || list_any (is_handle_held h) hs) ≡ false → (Fresh h hs → gives_up test h hs ≡ false) → ((a && b) || gives_up test h hs) ≡ false
    by a true f go = cc
    by true false f go = go f
    by false false f go = go f

pub none_dropped : (h : Handle) (hs : List Held) → Fresh h hs → filter (λ g. not (is_handle_held h g)) hs ≡ hs
none_dropped h [] fresh = refl
none_dropped h (x ∷ hs) fresh = by (is_handle_held h x) fresh (λ f. none_dropped h hs f)
  where
    by : (b : Bool) → (b || list_any (is_handle_held h) hs) ≡ false → (Fresh h hs → filter (λ g. not (is_handle_held h g)) hs ≡ hs) → cond (not b) (x ∷ filter (λ g. not (is_handle_held h g)) hs) (filter (λ g. not (is_handle_held h g)) hs) ≡ x ∷ hs
    by true f go = cc
    by false f go = ap (λ (l : List Held). x ∷ l) (go f)

none_locked : (h : Handle) (m : Mode) (hs : List Held) → Fresh h hs → map (held_with_mode h m) hs ≡ hs
none_locked h m [] fresh = refl
none_locked h m (x ∷ hs) fresh = by (is_handle_held h x) fresh (λ f. none_locked h m hs f)
  where
    by : (b : Bool) → (b || list_any (is_handle_held h) hs) ≡ false → (Fresh h hs → map (held_with_mode h m) hs ≡ hs) → cond b (record { handle = x.handle; target = x.target; lock = Some m; covered = x.covered }) x ∷ map (held_with_mode h m) hs ≡ x ∷ hs
    by true f go = cc
    by false f go = ap (λ (l : List Held). x ∷ l) (go f)

pub map_same : {X : Type 0} (f : X → X) (xs : List X) → ((x : X) → f x ≡ x) → map f xs ≡ xs
map_same f [] same = refl
map_same {X} f (x ∷ xs) same = ap (λ (y : X). y ∷ map f xs) (same x) ∙ ap (λ (l : List X). x ∷ l) (map_same f xs same)

pub filter_same : {X : Type 0} (t : X → Bool) (xs : List X) → ((x : X) → t x ≡ true) → filter t xs ≡ xs
filter_same t [] all = refl
filter_same {X} t (x ∷ xs) all = ap (λ b. cond b (x ∷ filter t xs) (filter t xs)) (all x) ∙ ap (λ (l : List X). x ∷ l) (filter_same t xs all)

-- the newest handle: it isn't a lock that anything hangs on
pub record Plain (x : Held) (h : Handle) : Type 0 where
  pub number : x.handle ≡ h
  pub gate : is_gate_shared Embryo x ≡ false
  pub closes : (a : Area) → is_gate_exclusive a x ≡ false
  pub claim : (u : List ℕ) → is_claim_held u x ≡ false
  pub removal : (spot : Spot) → is_removal_held spot x ≡ false

module _ (s : Seen) (h : Handle) (x : Held) (seen_unowned : List Spot) (p : Plain x h) (fresh : Fresh h s.standing.holdings) where
  abbrev Hs : List Held
  Hs = x ∷ s.standing.holdings

  none : (test : Held → Bool) → test x ≡ false → gives_up test h Hs ≡ false
  none test off = ap (λ b. (b && is_handle_held h x) || gives_up test h s.standing.holdings) off ∙ none_given test h s.standing.holdings fresh

  no_cover : (t : Target) → gives_up_cover h Hs t ≡ false
  no_cover (Own spot) = none (is_claim_held spot.name) (p.claim spot.name)
  no_cover (Claim spot) = refl
  no_cover (Gate a) = refl

  dropped : map (uncovered_by_close h Hs) (filter (λ g. not (is_handle_held h g)) Hs) ≡ s.standing.holdings
  dropped = ap (λ (l : List Held). map (uncovered_by_close h Hs) l) (ap (λ b. cond (not b) (x ∷ filter (λ g. not (is_handle_held h g)) s.standing.holdings) (filter (λ g. not (is_handle_held h g)) s.standing.holdings)) (ap (λ (z : Handle). z.number == h.number) p.number ∙ same_self h.number) ∙ none_dropped h s.standing.holdings fresh)
      ∙ map_same (uncovered_by_close h Hs) s.standing.holdings (λ g. ap (λ b. let r : Held = record { handle = g.handle; target = g.target; lock = g.lock; covered = not b && g.covered } in r) (no_cover g.target))

  -- it is open
  abbrev and_open : Seen
  and_open = record s { standing = record s.standing { holdings = Hs; seen_unowned = seen_unowned } }

  closed_standing : given_up h and_open.standing ≡ record s.standing { seen_unowned = seen_unowned }
  closed_standing =
      ap (λ b. let r : Standing = record s.standing { seen_unowned = seen_unowned; embryo_under_lock = not b && s.standing.embryo_under_lock; holdings = map (uncovered_by_close h Hs) (filter (λ g. not (is_handle_held h g)) Hs); seen_unowned_under_claim = filter (λ u. not (gives_up (is_claim_held u) h Hs)) s.standing.seen_unowned_under_claim } in r) (none (is_gate_shared Embryo) p.gate)
      ∙ ap (λ (l : List Held). let r : Standing = record s.standing { seen_unowned = seen_unowned; holdings = l; seen_unowned_under_claim = filter (λ u. not (gives_up (is_claim_held u) h Hs)) s.standing.seen_unowned_under_claim } in r) dropped
      ∙ ap (λ (l : List (List ℕ)). let r : Standing = record s.standing { seen_unowned = seen_unowned; seen_unowned_under_claim = l } in r) (filter_same (λ u. not (gives_up (is_claim_held u) h Hs)) s.standing.seen_unowned_under_claim (λ u. ap not (none (is_claim_held u) (p.claim u))))

  -- the gate of incoming may be what is given up
  gives_store : gives_up (is_gate_shared Incoming) h Hs ≡ is_gate_shared Incoming x
  gives_store =
      ap (λ b. (is_gate_shared Incoming x && b) || gives_up (is_gate_shared Incoming) h s.standing.holdings) (ap (λ (z : Handle). z.number == h.number) p.number ∙ same_self h.number)
      ∙ (ap (λ b. (is_gate_shared Incoming x && true) || b) (none_given (is_gate_shared Incoming) h s.standing.holdings fresh) ∙ by (is_gate_shared Incoming x))
    where
      by : (b : Bool) → ((b && true) || false) ≡ b
      by true = refl
      by false = refl

  abbrev Closing : Standing → Bool → List Inner → List ShownItem → List ShownArea → Bool → Seen
  Closing standing b ls items areas c = record s { standing = standing; image_under_lock = not b && s.image_under_lock; listed = ls; items = items; areas = areas; kept = (not ((c && s.standing.embryo_under_lock) && intends (λ i. holds_own (pod_text i.draw.bytes) and_open.standing) s.standing.intent) && true) && s.kept }

  -- it is closed again
  pub closed_plain : seen_replied and_open (Close h) Done ≡ record s { standing = record s.standing { seen_unowned = seen_unowned }; image_under_lock = not (is_gate_shared Incoming x) && s.image_under_lock }
  closed_plain =
      ap (λ (t : Standing). Closing t (gives_up (is_gate_shared Incoming) h Hs) (still_listed h Hs s.listed) (still_shown h Hs s.items) (still_known h Hs s.areas) (gives_up (is_gate_shared Embryo) h Hs)) closed_standing
      ∙ ap (λ b. Closing (record s.standing { seen_unowned = seen_unowned }) b (still_listed h Hs s.listed) (still_shown h Hs s.items) (still_known h Hs s.areas) (gives_up (is_gate_shared Embryo) h Hs)) gives_store
      ∙ ap (λ (l : List Inner). Closing (record s.standing { seen_unowned = seen_unowned }) (is_gate_shared Incoming x) l (still_shown h Hs s.items) (still_known h Hs s.areas) (gives_up (is_gate_shared Embryo) h Hs)) (filter_same (λ l. not (gives_up (is_removal_held l.spot) h Hs)) s.listed (λ l. ap not (none (is_removal_held l.spot) (p.removal l.spot))))
      ∙ ap (λ (l : List ShownItem). Closing (record s.standing { seen_unowned = seen_unowned }) (is_gate_shared Incoming x) s.listed l (still_known h Hs s.areas) (gives_up (is_gate_shared Embryo) h Hs)) (filter_same (λ i. not (gives_up (is_removal_held i.inner.spot) h Hs)) s.items (λ i. ap not (none (is_removal_held i.inner.spot) (p.removal i.inner.spot))))
      ∙ ap (λ (l : List ShownArea). Closing (record s.standing { seen_unowned = seen_unowned }) (is_gate_shared Incoming x) s.listed s.items l (gives_up (is_gate_shared Embryo) h Hs)) (filter_same (λ a. not (gives_up (is_gate_exclusive a.area) h Hs)) s.areas (λ a. ap not (none (is_gate_exclusive a.area) (p.closes a.area))))
      ∙ ap (λ b. Closing (record s.standing { seen_unowned = seen_unowned }) (is_gate_shared Incoming x) s.listed s.items s.areas b) (none (is_gate_shared Embryo) p.gate)

-- the gate of incoming, not held exclusively
abbrev pub on_incoming : Handle → Option Mode → Held
on_incoming h lock = record { handle = h; target = Gate Incoming; lock = lock; covered = false }

pub plain_incoming : (h : Handle) (lock : Option Mode) → is_exclusive lock ≡ false → Plain (on_incoming h lock) h
plain_incoming h lock off = record { number = refl; gate = refl; closes = λ a. ap (λ b. is_gate_of a (Gate Incoming) && b) off ∙ and_false (is_gate_of a (Gate Incoming)); claim = λ u. refl; removal = λ here. ap (λ b. b && is_removal_target here (Gate Incoming)) off }

-- a handle on Own without an exclusive lock
abbrev pub on_own : Handle → Spot → Option Mode → Bool → Held
on_own h spot lock covered = record { handle = h; target = Own spot; lock = lock; covered = covered }

plain_own : (h : Handle) (spot : Spot) (lock : Option Mode) (covered : Bool) → is_exclusive lock ≡ false → Plain (on_own h spot lock covered) h
plain_own h spot lock covered off = record { number = refl; gate = refl; closes = λ a. refl; claim = λ u. refl; removal = λ here. ap (λ b. b && is_removal_target here (Own spot)) off }

pub none_second : (x : Held) (hs : List Held) → is_open_on x.target hs ≡ false → list_any (is_second x) hs ≡ false
none_second x [] off = refl
none_second x (g ∷ hs) off = by (is_same_target x.target g.target) off (λ f. none_second x hs f)
  where
    by : (b : Bool) → (b || is_open_on x.target hs) ≡ false → (is_open_on x.target hs ≡ false → list_any (is_second x) hs ≡ false) → ((b && not (is_handle_held x.handle g)) || list_any (is_second x) hs) ≡ false
    by true f go = cc
    by false f go = go f

-- it isn't the second of itself
pub alone_newest : (x : Held) (hs : List Held) → is_open_on x.target hs ≡ false → is_alone x (x ∷ hs) ≡ true
alone_newest x hs off =
    ap (λ b. not ((is_same_target x.target x.target && not b) || list_any (is_second x) hs)) (same_self x.handle.number)
    ∙ (ap (λ b. not (b || list_any (is_second x) hs)) (and_false (is_same_target x.target x.target)) ∙ ap not (none_second x hs off))

-- the newest handle is found by its number
pub newest_found : (x : Held) (hs : List Held) → find (is_handle_held x.handle) (x ∷ hs) ≡ Some x
newest_found x hs = ap (λ b. cond b (Some x) (find (is_handle_held x.handle) hs)) (same_self x.handle.number)

pub newest_locked : (x : Held) (m : Mode) (hs : List Held) → Fresh x.handle hs → map (held_with_mode x.handle m) (x ∷ hs) ≡ record { handle = x.handle; target = x.target; lock = Some m; covered = x.covered } ∷ hs
newest_locked x m hs fresh = ap (λ b. cond b (record { handle = x.handle; target = x.target; lock = Some m; covered = x.covered }) x ∷ map (held_with_mode x.handle m) hs) (same_self x.handle.number) ∙ ap (λ (l : List Held). record { handle = x.handle; target = x.target; lock = Some m; covered = x.covered } ∷ l) (none_locked x.handle m hs fresh)

module _ (s : Seen) (h : Handle) (spot : Spot) (fresh : Fresh h s.standing.holdings) where
  abbrev Covers : Bool
  Covers = is_in Prepared spot.area && holds_claim spot.name s.standing

  -- it was opened, and asked for the lock
  abbrev tried : Option Mode → List Spot → Seen
  tried lock seen_unowned = record s { standing = record s.standing { holdings = on_own h spot lock Covers ∷ s.standing.holdings; seen_unowned = seen_unowned } }

  opened_is : seen_replied s (Open spot which.Own) (Opened h) ≡ tried None s.standing.seen_unowned
  opened_is = refl

  closed_tried : (lock : Option Mode) (seen_unowned : List Spot) → is_exclusive lock ≡ false → seen_replied (tried lock seen_unowned) (Close h) Done ≡ record s { standing = record s.standing { seen_unowned = seen_unowned } }
  closed_tried lock seen_unowned off = closed_plain s h (on_own h spot lock Covers) seen_unowned (plain_own h spot lock Covers off) fresh

  pub may_try : is_lookable spot.area ≡ true → is_open_on (Own spot) s.standing.holdings ≡ false → allows (tried None s.standing.seen_unowned) (TryLock h Shared) ≡ true
  may_try look off =
      ap (λ (o : Option Held). may_lock_by (tried None s.standing.seen_unowned).standing o Shared && true) (newest_found (on_own h spot None Covers) s.standing.holdings)
      ∙ (ap (λ b. (b && may_lock_own (tried None s.standing.seen_unowned).standing Covers spot.name spot.area Shared) && true) (alone_newest (on_own h spot None Covers) s.standing.holdings off)
      ∙ ap (λ b. b && true) (by spot.area look))
    where
      by : (area : Area) → is_lookable area ≡ true → may_lock_own (tried None s.standing.seen_unowned).standing Covers spot.name area Shared ≡ true
      by Prepare look = refl
      by Run look = refl
      by ExitedGarbage look = refl
      by Garbage look = refl
      by _ look = cc

  not_prepared : is_lookable spot.area ≡ true → is_in Prepared spot.area ≡ false
  not_prepared look = by spot.area look
    where
      by : (area : Area) → is_lookable area ≡ true → is_in Prepared area ≡ false
      by Prepare look = refl
      by Run look = refl
      by ExitedGarbage look = refl
      by Garbage look = refl
      by _ look = cc

  locked_standing : is_lookable spot.area ≡ true → standing_done (tried None s.standing.seen_unowned).standing (TryLock h Shared) ≡ (tried (Some Shared) (own_spot (Own spot) ++ s.standing.seen_unowned)).standing
  locked_standing look =
      ap (λ (o : Option Held). looked_by o (record s.standing { holdings = map (held_with_mode h Shared) (on_own h spot None Covers ∷ s.standing.holdings) })) (newest_found (on_own h spot None Covers) s.standing.holdings)
      ∙ (ap (λ (l : List Held). looked_by (Some (on_own h spot None Covers)) (record s.standing { holdings = l })) (newest_locked (on_own h spot None Covers) Shared s.standing.holdings fresh)
      ∙ ap (λ b. let r : Standing = record s.standing { holdings = on_own h spot (Some Shared) Covers ∷ s.standing.holdings; seen_unowned = own_spot (Own spot) ++ s.standing.seen_unowned; seen_unowned_under_claim = cond (b && holds_claim spot.name s.standing) (prepared_name (Own spot)) [] ++ s.standing.seen_unowned_under_claim } in r) (not_prepared look))

  locked_try : is_lookable spot.area ≡ true → is_open_on (Own spot) s.standing.holdings ≡ false → seen_replied (tried None s.standing.seen_unowned) (TryLock h Shared) Done ≡ tried (Some Shared) (own_spot (Own spot) ++ s.standing.seen_unowned)
  locked_try look off =
      ap (λ b. let r : Seen = record s { standing = standing_done (tried None s.standing.seen_unowned).standing (TryLock h Shared); kept = b && s.kept } in r) (may_try look off)
      ∙ ap (λ (t : Standing). let r : Seen = record s { standing = t } in r) (locked_standing look)

  refused_try : is_lookable spot.area ≡ true → is_open_on (Own spot) s.standing.holdings ≡ false → (error : DirError) → seen_replied (tried None s.standing.seen_unowned) (TryLock h Shared) (Refused error 0) ≡ tried None s.standing.seen_unowned
  refused_try look off error = ap (λ b. let r : Seen = record (tried None s.standing.seen_unowned) { kept = b && s.kept } in r) (may_try look off)

  asked_again : (answer : Result (Unit {0}) DirError) → is_lookable spot.area ≡ true → is_open_on (Own spot) s.standing.holdings ≡ false → Looked s (seen_replied (seen_replied (tried None s.standing.seen_unowned) (TryLock h Shared) (done_reply answer)) (Close h) Done)
  asked_again (Ok done) look off = record { free = own_spot (Own spot); same = ap (λ (x : Seen). seen_replied x (Close h) Done) (locked_try look off) ∙ closed_tried (Some Shared) (own_spot (Own spot) ++ s.standing.seen_unowned) refl }
  asked_again (Err error) look off = record { free = []; same = ap (λ (x : Seen). seen_replied x (Close h) Done) (refused_try look off error) ∙ closed_tried None s.standing.seen_unowned refl }

-- what a caller cites
pub look_same : {s a b : Seen} {h : Handle} {spot : Spot} → Fresh h s.standing.holdings → a ≡ seen_replied s (Open spot which.Own) (Opened h) → b ≡ seen_replied a (Close h) Done → b ≡ s
look_same {s} {a} {b} {h} {spot} fresh x y = y ∙ ap (λ (z : Seen). seen_replied z (Close h) Done) x ∙ closed_tried s h spot fresh None s.standing.seen_unowned refl

pub look_looked : {s a b : Seen} {h : Handle} {spot : Spot} → Fresh h s.standing.holdings → a ≡ seen_replied s (Open spot which.Own) (Opened h) → b ≡ seen_replied a (Close h) Done → Looked s b
look_looked {s} {a} {b} fresh x y = subst (λ (w : Seen). Looked s w) (sym (look_same fresh x y)) (looked_same s)

pub ask_looked : {s a b c : Seen} {h : Handle} {spot : Spot} (answer : Result (Unit {0}) DirError) → is_lookable spot.area ≡ true → is_open_on (Own spot) s.standing.holdings ≡ false → Fresh h s.standing.holdings → a ≡ seen_replied s (Open spot which.Own) (Opened h) → b ≡ seen_replied a (TryLock h Shared) (done_reply answer) → c ≡ seen_replied b (Close h) Done → Looked s c
ask_looked {s} {a} {b} {c} {h} {spot} answer look off fresh x y z =
    subst (λ (w : Seen). Looked s w) (sym (z ∙ ap (λ (w : Seen). seen_replied w (Close h) Done) (y ∙ ap (λ (w : Seen). seen_replied w (TryLock h Shared) (done_reply answer)) x))) (asked_again s h spot fresh answer look off)

pub missed_looked : {s a : Seen} → a ≡ s → Looked s a
missed_looked {s} {a} x = subst (λ (w : Seen). Looked s w) (sym x) (looked_same s)

-- looks leave the open handles
pub looked_open_on : {a b : Seen} (t : Target) → Looked a b → is_open_on t a.standing.holdings ≡ false → is_open_on t b.standing.holdings ≡ false
looked_open_on {a} {b} t l h = ap (λ (s : Seen). is_open_on t s.standing.holdings) l.same ∙ h

lookable_pod : (a : Area) → is_lookable a ≡ true → is_stage a ≡ true
lookable_pod Prepare h = refl
lookable_pod Run h = refl
lookable_pod ExitedGarbage h = refl
lookable_pod Garbage h = refl
lookable_pod a h = cc

-- where the lock was had, the place is known to be free
pub ask_free : {s a b c : Seen} {h : Handle} {spot : Spot} → is_lookable spot.area ≡ true → is_open_on (Own spot) s.standing.holdings ≡ false → Fresh h s.standing.holdings → a ≡ seen_replied s (Open spot which.Own) (Opened h) → b ≡ seen_replied a (TryLock h Shared) Done → c ≡ seen_replied b (Close h) Done → is_free c spot ≡ true
ask_free {s} {a} {b} {c} {h} {spot} look off fresh x y z =
    let is : c ≡ record s { standing = record s.standing { seen_unowned = own_spot (Own spot) ++ s.standing.seen_unowned } } =
    z ∙ ap (λ (w : Seen). seen_replied w (Close h) Done) (y ∙ ap (λ (w : Seen). seen_replied w (TryLock h Shared) Done) x)
    ∙ ap (λ (w : Seen). seen_replied w (Close h) Done) (locked_try s h spot fresh look off) ∙ closed_tried s h spot fresh (Some Shared) (own_spot (Own spot) ++ s.standing.seen_unowned) refl in
    ap (λ (w : Seen). is_free w spot) is
    ∙ (ap (λ b. has_place spot.name spot.area (cond b (spot ∷ []) [] ++ s.standing.seen_unowned)) (lookable_pod spot.area look)
    ∙ (ap (λ b. (b && is_in spot.area spot.area) || has_place spot.name spot.area s.standing.seen_unowned) (same_bytes spot.name)
    ∙ ap (λ b. b || has_place spot.name spot.area s.standing.seen_unowned) (same_self (rank spot.area))))

-- a process with no handle on the pod's Own deletes nothing there
pub deletes_none : (name : List ℕ) (hs : List Held) → is_open_on (Own (record { area = Prepare; name = name })) hs ≡ false → list_any (is_deleting name) hs ≡ false
deletes_none name [] h = refl
deletes_none name (g ∷ hs) h = by g.target (is_exclusive g.lock) h (λ k. deletes_none name hs k)
  where
    by : (t : Target) (b : Bool) → (is_same_target (Own (record { area = Prepare; name = name })) t || is_open_on (Own (record { area = Prepare; name = name })) hs) ≡ false → (is_open_on (Own (record { area = Prepare; name = name })) hs ≡ false → list_any (is_deleting name) hs ≡ false) → (((is_own_of name t && b) && is_garbage (area_of t)) || list_any (is_deleting name) hs) ≡ false
    by (Claim spot) b h more = more h
    by (Gate area) b h more = more h
    by (Own spot) b h more = apart (is_stage spot.area && bytes_eq spot.name name) refl h
      where
        apart : (y : Bool) → (is_stage spot.area && bytes_eq spot.name name) ≡ y → (y || is_open_on (Own (record { area = Prepare; name = name })) hs) ≡ false → (((y && b) && is_garbage spot.area) || list_any (is_deleting name) hs) ≡ false
        apart true is h = cc
        apart false is h = more h

-- the areas of pods may be looked at
pub looks_there : (s : Seen) (place : Area) → is_stage place ≡ true → may_read_area s place ≡ true
looks_there s Images is = cc
looks_there s _ is = refl
