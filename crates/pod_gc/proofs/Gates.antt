-- The pass over embryo, under that area's lock.
use Rattle.std.proofs.Common.{◌≡◌, ◌≤◌, inl, inr, ℕ, Bool, true, false, Some, None, List, [], ◌∷◌, ◌++◌, refl, ap, subst, ◌∙◌, arith}
use Rattle.plain_laws.proofs.Lists.{none_of_filter}
use Rattle.dir_model.specs.declared.area.Area.{Area}
use Rattle.dir_model.specs.declared.area.Area.TheVariants.{Embryo}
use Rattle.dir_model.specs.declared.event.Event.{Event}
use Rattle.dir_model.specs.declared.spot.Handle.{Handle}
use Rattle.dir_model.specs.declared.spot.Mode.TheVariants.{Exclusive}
use Rattle.dir_model.specs.Calls.{Extends}
use Rattle.dir_model.specs.Causes.{Rose}
use Rattle.dir_model.specs.Local.{IsUnopened, without}
use Rattle.dir_model.proofs.Chains.{and_more, extends_wider}
use Rattle.dir_rules.specs.declared.standing.Held.{Held}
use Rattle.dir_rules.specs.declared.seen.Seen.{Seen}
use Rattle.dir_rules.specs.Standing.{is_known}
use Rattle.dir_trait.specs.DirCalls.{DirAt, ExtendsBy, HeldBetween}
use Rattle.dir_trait.specs.Knowledge.{Knows}
use Rattle.dir_trait.proofs.Looking.{fresh_of}
use Rattle.dir_trait.specs.Effects.{OnlyAsks, Given}
use Rattle.dir_files.specs.declared.lock_error.LockError.{LockError}
use Rattle.dir_files.specs.declared.lock_error.LockError.TheVariants as lock
use Rattle.dir_files.specs.AreaLocks.{is_taking_area, closes, and_area_lock, with_gate, exclusive_given, is_free_of, MayLock, IsBusy, IsBusyElsewhere, IsFreeElsewhere}
use Rattle.dir_files.proofs.Locking.{unlocked_same}
use Rattle.pod_locks.specs.Holding.{is_in_garbage, KeepsHoldings, KeepsReady}
use Rattle.pod_locks.proofs.Calls.{Follows}
use Rattle.pod_locks.proofs.Traces.{grown_by}
use Rattle.pod_gc.specs.declared.ages.Times.{Times}
use Rattle.pod_gc.specs.declared.line.Deed.TheVariants.{BusyGate}
use Rattle.pod_gc.specs.declared.line.GcLine.{GcLine}
use Rattle.pod_gc.specs.Requests.{sweeps}
use Rattle.pod_gc.specs.Causes.{lock_fault, GcCause}
use Rattle.pod_gc.specs.Sweeping.{MayPassPods, MaySweepAll}
use Rattle.pod_gc.specs.Told.{Knew, TellsShown, UnderGate, WasGated, PassedOverPods, AddsShown, AddsPassed}
use Rattle.pod_gc.proofs.Dealing.{gc_by}
use Rattle.pod_gc.proofs.Asking.{takes_sweep, closes_sweep}
use Rattle.pod_gc.proofs.Telling.{tells_as}

pub may_lock : {now expire : ℕ} {s : Seen} → MaySweepAll now expire s → MayLock s Embryo Exclusive
may_lock {now} {expire} {s} m = record { free = m.free; kind = gc_by expire s.standing.intent m.sweeps.sweeps }

pub passes_under : {now expire : ℕ} {s : Seen} (h : Handle) → MaySweepAll now expire s → MayPassPods Embryo now expire (with_gate s h Embryo (Some Exclusive))
passes_under h m = record {
  sweeps = record { may = record { began = m.sweeps.may.began; moment = m.sweeps.may.moment; apart = m.sweeps.may.apart; bare = m.sweeps.may.bare }; sweeps = m.sweeps.sweeps };
  gate = λ is. refl;
}

module _ (s z : Seen) (h : Handle) (k : KeepsHoldings (with_gate s h Embryo (Some Exclusive)) z) where
  abbrev Inner : Seen
  Inner = record z { standing = record z.standing { holdings = s.standing.holdings } }

  inside : z ≡ with_gate Inner h Embryo (Some Exclusive)
  inside = ap (λ (hs : List Held). let r : Seen = record z { standing = record z.standing { holdings = hs } } in r) k.holdings

  given_keeps : KeepsHoldings s (exclusive_given Embryo Inner)
  given_keeps = record { intent = k.intent; holdings = refl; kept = k.kept; bare = none_of_filter is_in_garbage _ z.items k.bare }

pub ready_under : {now expire : ℕ} {a b c d : DirAt} {h : Handle} → IsUnopened a.local h → ((s : Seen) → Knows a s → MayLock s Embryo Exclusive → Knows b (with_gate s h Embryo (Some Exclusive)))
    → Given (MayPassPods Embryo now expire) b (λ s. KeepsReady s c)
    → ((s : Seen) → is_known h s.standing ≡ false → Knows c (with_gate s h Embryo (Some Exclusive)) → Knows d (exclusive_given Embryo s)) → Given (MaySweepAll now expire) a (λ s. KeepsReady s d)
ready_under {now} {expire} {a} {b} {c} {d} {h} unopened taken pass given s k m =
    let x = pass (with_gate s h Embryo (Some Exclusive)) (taken s k (may_lock m)) (passes_under h m) in
    record {
      known = exclusive_given Embryo (Inner s x.known h x.keeps);
      keeps = given_keeps s x.known h x.keeps;
      knows = given (Inner s x.known h x.keeps) (fresh_of h k unopened) (subst (λ (y : Seen). Knows c y) (inside s x.known h x.keeps) x.knows);
    }

pub ready_same : {now expire : ℕ} {a b : DirAt} → ((s : Seen) → Knows a s → MayLock s Embryo Exclusive → Knows b s) → Given (MaySweepAll now expire) a (λ s. KeepsReady s b)
ready_same left s k m = record { known = s; keeps = record { intent = refl; holdings = refl; kept = refl; bare = m.sweeps.may.bare }; knows = left s k (may_lock m) }

pub follows_lock : {observed : Bool} {a b : DirAt} → b.process ≡ a.process → a.faults ≤ b.faults → (observed ≡ true → ExtendsBy (is_taking_area Embryo Exclusive) a b) → Follows observed a b
follows_lock same faults extends = record { same = same; faults = faults; grown = λ t. grown_by (extends t) }

pub worked_gate : {observed : Bool} {a b c d : DirAt} (now : ℕ) (h : Handle) → IsUnopened a.local h → b.process ≡ a.process → a.faults ≤ b.faults → b.local ≡ and_area_lock a.local h Embryo Exclusive → (observed ≡ true → ExtendsBy (is_taking_area Embryo Exclusive) a b) → OnlyAsks observed (sweeps now) b c
    → d.process ≡ c.process → d.faults ≡ c.faults → d.local ≡ without c.local h → (observed ≡ true → ExtendsBy (closes h) c d) → OnlyAsks observed (sweeps now) a d
worked_gate {observed} {a} {b} {c} {d} now h unopened ab af held ax w cd cf given cx = record {
  same = cd ∙ (w.same ∙ ab);
  faults = omega (arith, af, w.faults, cf);
  local = unlocked_same a.local h Embryo Exclusive unopened (w.local ∙ held) given;
  extends = λ t. and_more (and_more (extends_wider (takes_sweep now) (ax t)) ab (w.extends t)) (w.same ∙ ab) (extends_wider (closes_sweep now h) (cx t));
}

pub worked_locked : {observed : Bool} (now : ℕ) (a b : DirAt) → b.process ≡ a.process → a.faults ≤ b.faults → b.local ≡ a.local → (observed ≡ true → ExtendsBy (is_taking_area Embryo Exclusive) a b) → OnlyAsks observed (sweeps now) a b
worked_locked now a b same faults local extends = record { same = same; faults = faults; local = local; extends = λ t. extends_wider (takes_sweep now) (extends t) }

pub lock_cause : {observed : Bool} {a b : DirAt} (e : LockError) → (e ≡ lock.Busy → ⊥) → (e ≡ lock.DirFault → Rose a.faults b.faults) → GcCause observed (lock_fault e) a b
lock_cause lock.Busy other rose = absurd (other refl)
lock_cause lock.DirFault other rose = record { fault = λ is. rose refl; stray = λ is. cc }
lock_cause lock.NoMemory other rose = record { fault = λ is. cc; stray = λ is. cc }

-- its lines

shown_by : {CanA CanB : Type 0} {here : Area} {lines : List GcLine} {me other : ℕ} {old new : List Event} (times : Times) → (CanA → CanB) → other ≡ me → TellsShown CanB times here lines other old new → TellsShown CanA times here lines me old new
shown_by {CanA} {CanB} {here} {lines} {me} {other} {old} {new} times f same s =
    let x = subst (λ (p : ℕ). TellsShown CanB times here lines p old new) same s in
    record { names = x.names; listed = x.listed; only_lists = x.only_lists; ordered = x.ordered; shows = x.shows; tells = tells_as f refl times here x.names x.listed new lines x.tells }

under_by : {CanA CanB : Type 0} {lines : List GcLine} {me other : ℕ} {old new : List Event} (times : Times) → (CanA → CanB) → other ≡ me → UnderGate CanB times lines other old new → UnderGate CanA times lines me old new
under_by {CanA} {CanB} {lines} {me} {other} {old} {new} times f same u =
    let x = subst (λ (p : ℕ). UnderGate CanB times lines p old new) same u in
    record { gate = x.gate; locked = x.locked; done = x.done; takes_gate = x.takes_gate; free = x.free; tells = shown_by times f refl x.tells; gives_back = x.gives_back }

gated_by : {CanA CanB : Type 0} {lines : List GcLine} {me other : ℕ} {old new : List Event} → (CanA → CanB) → other ≡ me → WasGated CanB lines other old new → WasGated CanA lines me old new
gated_by {CanA} {CanB} {lines} {me} {other} {old} {new} f same w =
    let x = subst (λ (p : ℕ). WasGated CanB lines p old new) same w in
    record { busy = x.busy; another = λ can. x.another (f can); only = x.only; line_is = x.line_is }

pub passed_by : {CanA CanB : Type 0} {me other : ℕ} (times : Times) (here : Area) (lines : List GcLine) (old new : List Event) → (CanA → CanB) → other ≡ me → PassedOverPods CanB times here lines other old new → PassedOverPods CanA times here lines me old new
passed_by times Embryo lines old new f same (inl u) = inl (under_by times f same u)
passed_by times Embryo lines old new f same (inr w) = inr (gated_by f same w)
passed_by times _ lines old new f same x = shown_by times f same x

passed_plain : {CanA CanB : Type 0} {lines : List GcLine} {me : ℕ} {old new : List Event} (times : Times) (here : Area) → (here ≡ Embryo → ⊥) → (CanA → CanB) → TellsShown CanB times here lines me old new → PassedOverPods CanA times here lines me old new
passed_plain times Embryo not f x = absurd (not refl)
passed_plain times _ not f x = shown_by times f refl x

pub adds_plain : (a b : DirAt) (times : Times) (here : Area) (before after : List GcLine) → (here ≡ Embryo → ⊥) → AddsShown times here a b before after → AddsPassed times here a b before after
adds_plain a b times here before after not x =
    let f : Knew (MaySweepAll times.now times.expire) a → Knew (MayPassPods here times.now times.expire) a = λ can. (can.0, can.1, record { sweeps = can.2.sweeps; gate = λ is. absurd (not is) }) in
    (x.0, x.1, passed_plain times here not f x.2)

pub adds_gate : (a b c d : DirAt) (times : Times) (h : Handle) (before after : List GcLine) → b.process ≡ a.process → c.process ≡ b.process → ((s : Seen) → Knows a s → MayLock s Embryo Exclusive → Knows b (with_gate s h Embryo (Some Exclusive)))
    → ExtendsBy (is_taking_area Embryo Exclusive) a b → HeldBetween a b (IsFreeElsewhere a.process Embryo Exclusive) → AddsShown times Embryo b c before after → ExtendsBy (closes h) c d → AddsPassed times Embryo a d before after
adds_gate a b c d times h before after ab bc taken first free x last =
    let f : Knew (MaySweepAll times.now times.expire) a → Knew (MayPassPods Embryo times.now times.expire) b = λ can. (with_gate can.0 h Embryo (Some Exclusive), taken can.0 can.1 (may_lock can.2), passes_under h can.2) in (
      x.0,
      x.1,
      inl (record {
        gate = h;
        locked = b.trace;
        done = c.trace;
        takes_gate = first;
        free = free;
        tells = shown_by times f ab x.2;
        gives_back = subst (λ (p : ℕ). Extends (closes h) p c.trace d.trace) (bc ∙ ab) last;
      }),
    )

pub adds_gated : (times : Times) (a b : DirAt) (before after : List GcLine) → after ≡ before ++ record { place = Embryo; pod = None; deed = BusyGate } ∷ [] → HeldBetween a b (IsBusy Embryo Exclusive)
    → ((s : Seen) → Knows a s → is_free_of Embryo s ≡ true → HeldBetween a b (IsBusyElsewhere a.process Embryo Exclusive)) → ExtendsBy (is_taking_area Embryo Exclusive) a b → AddsPassed times Embryo a b before after
adds_gated times a b before after adds busy another only = (
  record { place = Embryo; pod = None; deed = BusyGate } ∷ [],
  adds,
  inr (record { busy = busy; another = λ can. another can.0 can.1 can.2.free; only = only; line_is = refl }),
)
