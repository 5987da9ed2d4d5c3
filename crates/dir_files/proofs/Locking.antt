-- What the calls that take the lock of an area leave open, and what a process then knows.
use Rattle.std.proofs.Common.{◌≡◌, ℕ, Bool, true, false, cond, Some, None, List, [], ◌∷◌, ◌++◌, refl, sym, ap, subst, ◌∙◌}
use Rattle.dir_model.specs.declared.area.Area.{Area}
use Rattle.dir_model.specs.declared.opening.Holding.{Holding}
use Rattle.dir_model.specs.declared.opening.Target.TheVariants.{Gate}
use Rattle.dir_model.specs.declared.spot.Handle.{Handle}
use Rattle.dir_model.specs.declared.spot.Mode.{Mode}
use Rattle.dir_model.specs.declared.spot.Mode.TheVariants.{Shared, Exclusive}
use Rattle.dir_model.specs.declared.request.DirError.{DirError}
use Rattle.dir_model.specs.declared.request.DirError.TheVariants.{Locked}
use Rattle.dir_model.specs.declared.request.Request.TheVariants.{OpenArea, TryLock, Close}
use Rattle.dir_model.specs.declared.request.Reply.TheVariants.{Done, Opened, Refused}
use Rattle.dir_model.specs.Calls.{AtOwnStep, CallStep, Extends}
use Rattle.dir_model.specs.Local.{Local, is_handle_of, held_in, with_handle, with_lock, without, is_open_among, IsActive, IsOpen, IsUnopened}
use Rattle.dir_model.specs.State.{DirState}
use Rattle.dir_model.proofs.Lists.{same_self, map_push, any_last}
use Rattle.dir_model.proofs.Chains.{nothing_yet, and_call}
use Rattle.dir_model.proofs.Holdings.{closed_after_lock, none_locked}
use Rattle.dir_model.proofs.Moments.{at_after, at_before}
use Rattle.dir_rules.specs.declared.seen.Seen.{Seen}
use Rattle.dir_rules.specs.Conforms.{IsTied}
use Rattle.dir_rules.specs.Standing.{is_known}
use Rattle.dir_trait.specs.DirCalls.{DirAt, DirCall, HeldBetween}
use Rattle.dir_trait.specs.Knowledge.{Knows}
use Rattle.dir_trait.proofs.Knowing.{knows_call}
use Rattle.dir_files.specs.AreaLocks.{is_same_mode, and_area_lock, with_gate, is_free_of, MayLock, IsBusy, IsBusyElsewhere, IsFreeElsewhere}
use Rattle.dir_files.proofs.Gates.{lock_seen, refusal_seen, open_given}
use Rattle.dir_files.proofs.Opposed.{busy_step, elsewhere_step, free_step}

pub mode_self : (mode : Mode) → is_same_mode mode mode ≡ true
mode_self Shared = refl
mode_self Exclusive = refl

-- what is open

pub locked_by : {a b : Local} (m : Local) (h : Handle) (area : Area) (mode : Mode) → IsUnopened m h → a ≡ with_handle m h (Gate area) →
    b ≡ with_lock a h mode → b ≡ and_area_lock m h area mode
locked_by {a} {b} m h area mode unopened open_is lock_is =
    let fresh : Holding = record { handle = h; target = Gate area; lock = None } in
    lock_is ∙ (ap (λ (x : Local). with_lock x h mode) open_is
    ∙ ap (λ (hs : List Holding). let r : Local = record m { holdings = hs } in r)
    (map_push (held_in h mode) m.holdings fresh ∙ (ap (λ (hs : List Holding). hs ++ held_in h mode fresh ∷ [])
    (none_locked h mode m.holdings unopened) ∙ ap (λ b. m.holdings ++ cond b (record fresh { lock = Some mode }) fresh ∷ []) (same_self h.number))))

-- what a caller needs to give it back
pub locked_open : {b : Local} (m : Local) (h : Handle) (area : Area) (mode : Mode) → b ≡ and_area_lock m h area mode → IsOpen b h
locked_open {b} m h area mode is = ap (λ (x : Local). is_open_among h x.holdings) is
    ∙ any_last (is_handle_of h) m.holdings (record { handle = h; target = Gate area; lock = Some mode }) (same_self h.number)

pub locked_active : {b : Local} (m : Local) (h : Handle) (area : Area) (mode : Mode) → IsActive m → b ≡ and_area_lock m h area mode → IsActive b
locked_active {b} m h area mode active is = subst IsActive (sym is) (record { begun = active.begun; unfinished = active.unfinished })

-- and once it is given back
pub unlocked_same : {b c : Local} (m : Local) (h : Handle) (area : Area) (mode : Mode) → IsUnopened m h → b ≡ and_area_lock m h area mode →
    c ≡ without b h → c ≡ m
unlocked_same {b} {c} m h area mode unopened lock_is close_is =
    close_is ∙ (ap (λ (x : Local). without x h) (lock_is ∙ sym (locked_by m h area mode unopened refl refl))
    ∙ closed_after_lock m h (Gate area) unopened mode)

-- what is known

pub number_is_new : {d : DirAt} {s : Seen} (h : Handle) → Knows d s → IsUnopened d.local h → is_known h s.standing ≡ false
number_is_new h k unopened = k.handles (is_handle_of h) ∙ unopened

pub knows_lock : {observed : Bool} {old mid new : DirAt} {area : Area} {mode : Mode} {h : Handle} → observed ≡ true → IsUnopened old.local h →
    DirCall observed old (OpenArea area) (Opened h) mid → DirCall observed mid (TryLock h mode) Done new → (s : Seen) → Knows old s →
    MayLock s area mode → Knows new (with_gate s h area (Some mode))
knows_lock {observed} {old} {mid} {new} {area} {mode} {h} t unopened x y s k may =
    subst (λ (z : Seen). Knows new z) (lock_seen s h area (number_is_new h k unopened) mode may) (knows_call t (knows_call t k refl refl x) refl refl y)

pub knows_refusal : {observed : Bool} {old mid late new : DirAt} {area : Area} {mode : Mode} {h : Handle} {error : DirError} → observed ≡ true →
    IsUnopened old.local h → DirCall observed old (OpenArea area) (Opened h) mid →
    DirCall observed mid (TryLock h mode) (Refused error 0) late → DirCall observed late (Close h) Done new → (s : Seen) → Knows old s → MayLock s area mode → Knows new s
knows_refusal {observed} {old} {mid} {late} {new} {area} {mode} {h} {error} t unopened x y z s k may =
    let fresh = number_is_new h k unopened in
    let asked = subst (λ (w : Seen). Knows late w) (refusal_seen s h area fresh mode error may) (knows_call t (knows_call t k refl refl x) refl refl y) in
    subst (λ (w : Seen). Knows new w) (open_given s h area fresh) (knows_call t asked refl refl z)

pub knows_unopened : {observed : Bool} {old new : DirAt} {area : Area} {error : DirError} → observed ≡ true →
    DirCall observed old (OpenArea area) (Refused error 0) new → (s : Seen) → Knows old s → Knows new s
knows_unopened t x s k = knows_call t k refl refl x

-- who holds it

module _ {observed : Bool} {old mid late new : DirAt} {area : Area} {mode : Mode} {h : Handle} {error : DirError} (t : observed ≡ true)
    (locked : error ≡ Locked) (x : DirCall observed old (OpenArea area) (Opened h) mid)
    (y : DirCall observed mid (TryLock h mode) (Refused error 0) late) (z : DirCall observed late (Close h) Done new) where
  asks : CallStep old.process mid.trace (TryLock h mode) (Refused Locked 0) late.trace
  asks = subst (λ (p : ℕ). CallStep p mid.trace (TryLock h mode) (Refused Locked 0) late.trace) x.same
      (subst (λ (e : DirError). CallStep mid.process mid.trace (TryLock h mode) (Refused e 0) late.trace) locked (y.step t))

  opens : Extends (λ r. true) old.process old.trace mid.trace
  opens = and_call nothing_yet refl refl (x.step t)

  closes : Extends (λ r. true) late.process late.trace new.trace
  closes = and_call nothing_yet refl refl (z.step t)

  within : (P : DirState → Type 0) → AtOwnStep old.process mid.trace late.trace P → HeldBetween old new P
  within P at = at_before {asks = λ r. true} (at_after {asks = λ r. true} opens refl at) (y.same ∙ x.same) closes

  pub finds_busy : HeldBetween old new (IsBusy area mode)
  finds_busy = within (IsBusy area mode) (busy_step old.process old.trace mid.trace late.trace h area mode (x.step t) asks)

  pub finds_busy_elsewhere : (s : Seen) → Knows old s → is_free_of area s ≡ true → HeldBetween old new (IsBusyElsewhere old.process area mode)
  finds_busy_elsewhere s k free =
      within (IsBusyElsewhere old.process area mode)
      (elsewhere_step old.process old.trace mid.trace late.trace h area mode (x.step t) asks s
      (subst (λ (p : ℕ). IsTied p mid.trace (with_gate s h area None)) x.same (knows_call t k refl refl x).tied) free)

-- and where it is had, nobody else does
pub finds_free : {observed : Bool} {old mid new : DirAt} {area : Area} {mode : Mode} {h : Handle} → observed ≡ true → DirCall observed old (OpenArea area) (Opened h) mid →
    DirCall observed mid (TryLock h mode) Done new → HeldBetween old new (IsFreeElsewhere old.process area mode)
finds_free {observed} {old} {mid} {new} {area} {mode} {h} t x y =
    let asks = subst (λ (p : ℕ). CallStep p mid.trace (TryLock h mode) Done new.trace) x.same (y.step t) in
    at_after {asks = λ r. true} (and_call nothing_yet refl refl (x.step t)) refl (free_step old.process old.trace mid.trace new.trace h area mode (x.step t) asks)
