-- One call more, and what a process then knows.
use Rattle.std.proofs.Common.{◌≡◌, ℕ, Bool, true, false, not, ◌&&◌, ◌||◌, cond, Some, None, List, [], ◌∷◌, ◌++◌, map, filter, refl, sym, ap, subst, ◌∙◌}
use Rattle.std.specs.List.{list_any}
use Rattle.dir_model.specs.declared.area.Area.TheVariants.{Embryo}
use Rattle.dir_model.specs.declared.intent.Intent.{Intent}
use Rattle.dir_model.specs.declared.opening.Holding.{Holding}
use Rattle.dir_model.specs.declared.opening.Target.TheVariants.{Gate}
use Rattle.dir_model.specs.declared.spot.Spot.{Spot}
use Rattle.dir_model.specs.declared.spot.Handle.{Handle}
use Rattle.dir_model.specs.declared.spot.Mode.{Mode}
use Rattle.dir_model.specs.declared.spot.Mode.TheVariants.{Shared, Exclusive}
use Rattle.dir_model.specs.declared.request.Request.{Request}
use Rattle.dir_model.specs.declared.request.Request.TheVariants.{Begin, MakeFolder, MoveFolder, Open, OpenArea, TryLock, Close, Finish}
use Rattle.dir_model.specs.declared.request.Reply.{Reply}
use Rattle.dir_model.specs.declared.request.Reply.TheVariants.{Done, Opened}
use Rattle.dir_model.specs.Areas.{is_stage}
use Rattle.dir_model.specs.Locks.{target_of}
use Rattle.dir_model.specs.Local.{Local, nothing_local, is_handle_of as is_number_of, held_in as locked_in, local_replied}
use Rattle.dir_model.specs.Calls.{is_begin, is_kill}
use Rattle.dir_model.proofs.Lists.{any_of_map}
use Rattle.dir_rules.specs.declared.standing.Held.{Held}
use Rattle.dir_rules.specs.declared.standing.Standing.{Standing}
use Rattle.dir_rules.specs.declared.seen.Seen.{Seen}
use Rattle.dir_rules.specs.Standing.{shares_area, holds_claim, is_own_in_prepared, is_handle_held, held_with_mode, uncover, uncovered_by_close, find_held, standing_replied}
use Rattle.dir_rules.specs.Conforms.{nothing_seen, seen_replied, IsTied}
use Rattle.dir_rules.proofs.Tied.{tied_call}
use Rattle.dir_rules.proofs.Unborn.{tied_begun}
use Rattle.dir_rules.proofs.Standings.{looked_holdings}
use Rattle.dir_trait.specs.DirCalls.{DirAt, DirCall}
use Rattle.dir_trait.specs.Knowledge.{holding_of_held, SameHandles, Knows}

any_same : {X : Type 0} (t q : X → Bool) → ((x : X) → t x ≡ q x) → (xs : List X) → list_any t xs ≡ list_any q xs
any_same t q same [] = refl
any_same t q same (x ∷ xs) = ap (λ b. b || list_any t xs) (same x) ∙ ap (λ b. q x || b) (any_same t q same xs)

any_of_filter : {X : Type 0} (t q : X → Bool) (xs : List X) → list_any t (filter q xs) ≡ list_any (λ x. q x && t x) xs
any_of_filter t q [] = refl
any_of_filter t q (x ∷ xs) = by (q x) (any_of_filter t q xs)
  where
    by : (b : Bool) → list_any t (filter q xs) ≡ list_any (λ y. q y && t y) xs → list_any t (cond b (x ∷ filter q xs) (filter q xs)) ≡ ((b && t x) || list_any (λ y. q y && t y) xs)
    by true rest = ap (λ b. t x || b) rest
    by false rest = rest

any_of_push : {X : Type 0} (t : X → Bool) (xs : List X) (y : X) → (t y || list_any t xs) ≡ list_any t (xs ++ y ∷ [])
any_of_push t [] y = refl
any_of_push t (x ∷ xs) y = turn (t y) (t x) (list_any t xs) ∙ ap (λ b. t x || b) (any_of_push t xs y)
  where
    turn : (a b c : Bool) → (a || (b || c)) ≡ (b || (a || c))
    turn true true c = refl
    turn true false c = refl
    turn false b c = refl

lock_same : (handle : Handle) (mode : Mode) (h : Held) → holding_of_held (held_with_mode handle mode h) ≡ locked_in handle mode (holding_of_held h)
lock_same handle mode h = by (is_handle_held handle h)
  where
    by : (b : Bool) → holding_of_held (cond b (record h { lock = Some mode }) h) ≡ cond b (record (holding_of_held h) { lock = Some mode }) (holding_of_held h)
    by true = refl
    by false = refl

module _ (held : List Held) (holdings : List Holding) (same : SameHandles held holdings) where
  same_locked : (handle : Handle) (mode : Mode) → SameHandles (map (held_with_mode handle mode) held) (map (locked_in handle mode) holdings)
  same_locked handle mode test =
      any_of_map (held_with_mode handle mode) (λ h. test (holding_of_held h)) held
      ∙ any_same (λ h. test (holding_of_held (held_with_mode handle mode h))) (λ h. test (locked_in handle mode (holding_of_held h))) (λ h. ap test (lock_same handle mode h)) held
      ∙ same (λ x. test (locked_in handle mode x))
      ∙ sym (any_of_map (locked_in handle mode) test holdings)

  same_moved : (from : Spot) → SameHandles (map (uncover from) held) holdings
  same_moved from test = any_of_map (uncover from) (λ h. test (holding_of_held h)) held ∙ same test

  same_closed : (handle : Handle) → SameHandles (map (uncovered_by_close handle held) (filter (λ h. not (is_handle_held handle h)) held)) (filter (λ h. not (is_number_of handle h)) holdings)
  same_closed handle test =
      any_of_map (uncovered_by_close handle held) (λ h. test (holding_of_held h)) (filter (λ h. not (is_handle_held handle h)) held)
      ∙ any_of_filter (λ h. test (holding_of_held h)) (λ h. not (is_handle_held handle h)) held
      ∙ same (λ x. not (is_number_of handle x) && test x)
      ∙ sym (any_of_filter test (λ h. not (is_number_of handle h)) holdings)

  same_opened : (h : Held) → SameHandles (h ∷ held) (holdings ++ holding_of_held h ∷ [])
  same_opened h test = ap (λ b. test (holding_of_held h) || b) (same test) ∙ any_of_push test holdings (holding_of_held h)

-- what is open is told alike
same_replied : (s : Standing) (m : Local) (request : Request) (reply : Reply) → SameHandles s.holdings m.holdings → SameHandles (standing_replied s request reply).holdings (local_replied m request reply).holdings
same_replied s m (MakeFolder spot) Done same = by (is_stage spot.area)
  where
    made : Standing
    made = record s { made = true; embryo_under_lock = shares_area Embryo s }

    by : (b : Bool) → SameHandles (cond b made s).holdings m.holdings
    by true = same
    by false = same
same_replied s m (MoveFolder from to) Done same = same_moved s.holdings m.holdings same from
same_replied s m (TryLock handle Shared) Done same = subst (λ (l : List Held). SameHandles l (map (locked_in handle Shared) m.holdings)) (sym (looked_holdings (find_held handle s) (record s { holdings = map (held_with_mode handle Shared) s.holdings }))) (same_locked s.holdings m.holdings same handle Shared)
same_replied s m (TryLock handle Exclusive) Done same = same_locked s.holdings m.holdings same handle Exclusive
same_replied s m (Close handle) Done same = same_closed s.holdings m.holdings same handle
same_replied s m Finish Done same = λ test. refl
same_replied s m request Done same = same
same_replied s m (Open spot which) (Opened handle) same = same_opened s.holdings m.holdings same (record { handle = handle; target = target_of spot which; lock = None; covered = is_own_in_prepared spot which && holds_claim spot.name s })
same_replied s m (OpenArea area) (Opened handle) same = same_opened s.holdings m.holdings same (record { handle = handle; target = Gate area; lock = None; covered = false })
same_replied s m request (Opened handle) same = same
same_replied s m request reply same = same

-- what a process knows by one call more
pub knows_call : {observed : Bool} {old new : DirAt} {s : Seen} {request : Request} {reply : Reply} → observed ≡ true → Knows old s → is_begin request ≡ false → is_kill request ≡ false → DirCall observed old request reply new → Knows new (seen_replied s request reply)
knows_call {observed} {old} {new} {s} {request} {reply} t k b alive c = record {
  tied = subst (λ (me : ℕ). IsTied me new.trace (seen_replied s request reply)) (sym c.same) (tied_call k.tied b alive refl (c.step t));
  handles = subst (λ (m : Local). SameHandles (standing_replied s.standing request reply).holdings m.holdings) (sym c.local) (same_replied s.standing old.local request reply k.handles);
}

-- a process that begins knows that alone
pub knows_begun : {observed : Bool} {old new : DirAt} {intent : Intent} → observed ≡ true → old.local ≡ nothing_local → DirCall observed old (Begin intent) Done new → Knows new (seen_replied nothing_seen (Begin intent) Done)
knows_begun {observed} {old} {new} {intent} t fresh c = record {
  tied = subst (λ (me : ℕ). IsTied me new.trace (seen_replied nothing_seen (Begin intent) Done)) (sym c.same) (tied_begun (c.step t));
  handles = subst (λ (m : Local). SameHandles [] m.holdings) (sym (c.local ∙ ap (λ (m : Local). local_replied m (Begin intent) Done) fresh)) (λ test. refl);
}
