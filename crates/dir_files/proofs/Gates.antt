-- What a process knows by the calls on the lock of an area.
use Rattle.std.proofs.Common.{◌≡◌, ℕ, Bool, true, false, not, ◌&&◌, ◌||◌, cond, Option, Some, None, List, [], ◌∷◌, map, filter, refl, ap, ◌∙◌}
use Rattle.plain_laws.proofs.Booleans.{not_twice}
use Rattle.dir_model.specs.declared.area.Area.{Area}
use Rattle.dir_model.specs.declared.area.Area.TheVariants.{Embryo, Incoming}
use Rattle.dir_model.specs.declared.item.Inner.{Inner}
use Rattle.dir_model.specs.declared.opening.Target.{Target}
use Rattle.dir_model.specs.declared.opening.Target.TheVariants.{Own, Claim, Gate}
use Rattle.dir_model.specs.declared.spot.Handle.{Handle}
use Rattle.dir_model.specs.declared.spot.Mode.{Mode}
use Rattle.dir_model.specs.declared.spot.Mode.TheVariants.{Shared, Exclusive}
use Rattle.dir_model.specs.declared.request.DirError.{DirError}
use Rattle.dir_model.specs.declared.request.Request.TheVariants.{TryLock, Close}
use Rattle.dir_model.specs.declared.request.Reply.TheVariants.{Done, Refused}
use Rattle.dir_model.specs.Locks.{is_exclusive}
use Rattle.dir_model.specs.Pods.{pod_text}
use Rattle.dir_model.proofs.Lists.{and_false, not_true, same_self, any_fewer, filter_all}
use Rattle.dir_rules.specs.declared.standing.Held.{Held}
use Rattle.dir_rules.specs.declared.standing.Standing.{Standing}
use Rattle.dir_rules.specs.declared.seen.Seen.{Seen}
use Rattle.dir_rules.specs.declared.seen.ShownItem.{ShownItem}
use Rattle.dir_rules.specs.declared.seen.ShownArea.{ShownArea}
use Rattle.dir_rules.specs.Standing.{is_in, is_gate_of, is_handle_held, held_with_mode, gives_up, gives_up_cover, uncovered_by_close}
use Rattle.dir_rules.specs.Standing.{given_up, looked_by, intends, holds_own, is_claim_held, is_gate_shared, is_gate_exclusive, standing_done}
use Rattle.dir_rules.specs.LockRules.{is_removal_held, is_removal_target, may_lock_by, may_lock_gate}
use Rattle.dir_rules.specs.Seen.{still_listed, still_shown, still_known}
use Rattle.dir_rules.specs.Rules.{allows}
use Rattle.dir_rules.specs.Conforms.{seen_replied}
use Rattle.dir_rules.proofs.Looks.{Fresh, Plain, none_given, map_same, filter_same, closed_plain, alone_newest, newest_found, newest_locked}
use Rattle.dir_files.specs.AreaLocks.{on_gate, with_gate, MayLock, shared_given, is_listed_under, exclusive_given}

and_true : (b : Bool) → (b && true) ≡ b
and_true true = refl
and_true false = refl

filter_by : {X : Type 0} (t q : X → Bool) (xs : List X) → ((x : X) → t x ≡ q x) → filter t xs ≡ filter q xs
filter_by t q [] same = refl
filter_by {X} t q (x ∷ xs) same = ap (λ b. cond b (x ∷ filter t xs) (filter t xs)) (same x) ∙ ap (λ (l : List X). cond (q x) (x ∷ l) l) (filter_by t q xs same)

module _ (s : Seen) (h : Handle) (area : Area) (fresh : Fresh h s.standing.holdings) where
  -- the handle is open
  abbrev opened : Seen
  opened = with_gate s h area None

  kind_stays : (mode : Mode) → may_lock_gate s.standing area mode ≡ true → may_lock_gate opened.standing area mode ≡ true
  kind_stays Shared k = refl
  kind_stays Exclusive k = k

  may_try : (mode : Mode) → MayLock s area mode → allows opened (TryLock h mode) ≡ true
  may_try mode may =
      ap (λ (o : Option Held). may_lock_by opened.standing o mode && true) (newest_found (on_gate h area None) s.standing.holdings)
      ∙ (ap (λ b. (b && may_lock_gate opened.standing area mode) && true) (alone_newest (on_gate h area None) s.standing.holdings (not_true _ may.free))
      ∙ ap (λ b. b && true) (kind_stays mode may.kind))

  lock_stands : (mode : Mode) → standing_done opened.standing (TryLock h mode) ≡ (with_gate s h area (Some mode)).standing
  lock_stands Shared =
      ap (λ (o : Option Held). looked_by o (record s.standing { holdings = map (held_with_mode h Shared) (on_gate h area None ∷ s.standing.holdings) }))
      (newest_found (on_gate h area None) s.standing.holdings)
      ∙ ap (λ (l : List Held). let r : Standing = record s.standing { holdings = l } in r) (newest_locked (on_gate h area None) Shared s.standing.holdings fresh)
  lock_stands Exclusive = ap (λ (l : List Held). let r : Standing = record s.standing { holdings = l } in r) (newest_locked (on_gate h area None) Exclusive s.standing.holdings fresh)

  -- its lock is had, or not
  pub lock_seen : (mode : Mode) → MayLock s area mode → seen_replied opened (TryLock h mode) Done ≡ with_gate s h area (Some mode)
  lock_seen mode may =
      ap (λ b. let r : Seen = record s { standing = standing_done opened.standing (TryLock h mode); kept = b && s.kept } in r) (may_try mode may)
      ∙ ap (λ (t : Standing). let r : Seen = record s { standing = t } in r) (lock_stands mode)

  pub refusal_seen : (mode : Mode) (error : DirError) → MayLock s area mode → seen_replied opened (TryLock h mode) (Refused error 0) ≡ opened
  refusal_seen mode error may = ap (λ b. let r : Seen = record opened { kept = b && s.kept } in r) (may_try mode may)

  -- it is given up, while nothing hangs on it
  plain : (lock : Option Mode) → is_exclusive lock ≡ false → is_gate_shared Embryo (on_gate h area lock) ≡ false → Plain (on_gate h area lock) h
  plain lock off apart = record {
    number = refl;
    gate = apart;
    closes = λ a. ap (λ b. is_gate_of a (Gate area) && b) off ∙ and_false (is_gate_of a (Gate area));
    claim = λ u. refl;
    removal = λ here. ap (λ b. b && is_removal_target here (Gate area)) off;
  }

  pub open_given : seen_replied opened (Close h) Done ≡ s
  open_given =
      closed_plain s h (on_gate h area None) s.standing.seen_unowned (plain None refl (and_false (is_in Embryo area))) fresh
      ∙ ap (λ b. let r : Seen = record s { image_under_lock = not b && s.image_under_lock } in r) (and_false (is_in Incoming area))

  pub share_given : is_in Embryo area ≡ false → seen_replied (with_gate s h area (Some Shared)) (Close h) Done ≡ shared_given area s
  share_given apart =
      closed_plain s h (on_gate h area (Some Shared)) s.standing.seen_unowned (plain (Some Shared) refl (ap (λ b. b && true) apart)) fresh
      ∙ ap (λ b. let r : Seen = record s { image_under_lock = not b && s.image_under_lock } in r) (and_true (is_in Incoming area))

  -- or the exclusive lock
  abbrev Newest : Held
  Newest = on_gate h area (Some Exclusive)

  abbrev Hs : List Held
  Hs = Newest ∷ s.standing.holdings

  abbrev Others : List Held → List Held
  Others hs = filter (λ g. not (is_handle_held h g)) hs

  gives_it : (test : Held → Bool) → gives_up test h Hs ≡ test Newest
  gives_it test =
      ap (λ b. (test Newest && b) || gives_up test h s.standing.holdings) (same_self h.number)
      ∙ (ap (λ b. (test Newest && true) || b) (none_given test h s.standing.holdings fresh) ∙ by (test Newest))
    where
      by : (b : Bool) → ((b && true) || false) ≡ b
      by true = refl
      by false = refl

  no_cover : (t : Target) → gives_up_cover h Hs t ≡ false
  no_cover (Own spot) = gives_it (is_claim_held spot.name)
  no_cover (Claim spot) = refl
  no_cover (Gate a) = refl

  others_same : Others s.standing.holdings ≡ s.standing.holdings
  others_same = filter_all (λ g. not (is_handle_held h g)) s.standing.holdings
      (any_fewer (λ g. not (not (is_handle_held h g))) (is_handle_held h) (λ g is. not_twice (is_handle_held h g) is) s.standing.holdings fresh)

  dropped : map (uncovered_by_close h Hs) (Others Hs) ≡ s.standing.holdings
  dropped =
      ap (λ (l : List Held). map (uncovered_by_close h Hs) l) (ap (λ b. cond (not b) (Newest ∷ Others s.standing.holdings) (Others s.standing.holdings)) (same_self h.number) ∙ others_same)
      ∙ map_same (uncovered_by_close h Hs) s.standing.holdings (λ g. ap
      (λ b. let r : Held = record { handle = g.handle; target = g.target; lock = g.lock; covered = not b && g.covered } in r) (no_cover g.target))

  not_shared : (a : Area) → gives_up (is_gate_shared a) h Hs ≡ false
  not_shared a = gives_it (is_gate_shared a) ∙ and_false (is_in a area)

  abbrev Uncleared : List (List ℕ)
  Uncleared = filter (λ u. not (gives_up (is_claim_held u) h Hs)) s.standing.seen_unowned_under_claim

  given_standing : given_up h (with_gate s h area (Some Exclusive)).standing ≡ s.standing
  given_standing =
      ap (λ b. let r : Standing = record s.standing { embryo_under_lock = not b && s.standing.embryo_under_lock; holdings = map (uncovered_by_close h Hs) (Others Hs); seen_unowned_under_claim = Uncleared } in r) (not_shared Embryo)
      ∙ ap (λ (l : List Held). let r : Standing = record s.standing { holdings = l; seen_unowned_under_claim = Uncleared } in r) dropped
      ∙ ap (λ (l : List (List ℕ)). let r : Standing = record s.standing { seen_unowned_under_claim = l } in r)
      (filter_same (λ u. not (gives_up (is_claim_held u) h Hs)) s.standing.seen_unowned_under_claim (λ u. ap not (gives_it (is_claim_held u))))

  abbrev Given : Standing → Bool → Bool → Seen
  Given standing b c = record s {
    standing = standing;
    image_under_lock = not b && s.image_under_lock;
    listed = still_listed h Hs s.listed;
    items = still_shown h Hs s.items;
    areas = still_known h Hs s.areas;
    kept = (not ((c && s.standing.embryo_under_lock) && intends (λ i. holds_own (pod_text i.draw.bytes) (with_gate s h area (Some Exclusive)).standing) s.standing.intent) && true) && s.kept;
  }

  listed_still : still_listed h Hs s.listed ≡ filter (λ inner. not (is_listed_under area inner)) s.listed
  listed_still = filter_by (λ inner. not (gives_up (is_removal_held inner.spot) h Hs)) (λ inner. not (is_listed_under area inner)) s.listed
      (λ inner. ap not (gives_it (is_removal_held inner.spot)))

  shown_still : still_shown h Hs s.items ≡ filter (λ i. not (is_listed_under area i.inner)) s.items
  shown_still = filter_by (λ i. not (gives_up (is_removal_held i.inner.spot) h Hs)) (λ i. not (is_listed_under area i.inner)) s.items (λ i. ap not (gives_it (is_removal_held i.inner.spot)))

  known_still : still_known h Hs s.areas ≡ filter (λ a. not (is_in a.area area)) s.areas
  known_still = filter_by (λ a. not (gives_up (is_gate_exclusive a.area) h Hs)) (λ a. not (is_in a.area area)) s.areas
      (λ a. ap not (gives_it (is_gate_exclusive a.area) ∙ and_true (is_in a.area area)))

  pub exclusion_given : seen_replied (with_gate s h area (Some Exclusive)) (Close h) Done ≡ exclusive_given area s
  exclusion_given =
      ap (λ (t : Standing). Given t (gives_up (is_gate_shared Incoming) h Hs) (gives_up (is_gate_shared Embryo) h Hs)) given_standing
      ∙ ap (λ b. Given s.standing b (gives_up (is_gate_shared Embryo) h Hs)) (not_shared Incoming)
      ∙ ap (λ b. Given s.standing false b) (not_shared Embryo)
      ∙ ap (λ (l : List Inner). let r : Seen = record s { listed = l; items = still_shown h Hs s.items; areas = still_known h Hs s.areas } in r) listed_still
      ∙ ap (λ (l : List ShownItem). let r : Seen = record (exclusive_given area s) { items = l; areas = still_known h Hs s.areas } in r) shown_still
      ∙ ap (λ (l : List ShownArea). let r : Seen = record (exclusive_given area s) { areas = l } in r) known_still
