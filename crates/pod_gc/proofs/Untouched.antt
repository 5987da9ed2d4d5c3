-- A pod that is let be was looked at alone, of one that isn't there nothing was moved or removed, and of one that was moved nothing was removed.
use Rattle.std.proofs.Common.{◌≡◌, ◌||◌, ℕ, Bool, true, false, not, refl, Result, Ok, Err, IfOk, IfErr, List, sym, ap, subst, ◌∙◌}
use Rattle.plain_laws.proofs.Results.{err_all}
use Rattle.dir_model.specs.declared.area.Area.{Area}
use Rattle.dir_model.specs.declared.area.Area.TheVariants as area
use Rattle.dir_model.specs.declared.event.Event.{Event}
use Rattle.dir_model.specs.declared.pod.PodId.{PodId}
use Rattle.dir_model.specs.declared.spot.Which.{Which}
use Rattle.dir_model.specs.declared.spot.Which.TheVariants.{Own}
use Rattle.dir_model.specs.declared.request.Request.{Request}
use Rattle.dir_model.specs.declared.request.Request.TheVariants.{ListIn, Open, TryLock, Close}
use Rattle.dir_model.specs.declared.request.Reply.{Reply}
use Rattle.dir_model.specs.Calls.{Extends}
use Rattle.dir_model.proofs.Chains.{and_more, extends_wider}
use Rattle.dir_model.proofs.Lists.{or_last}
use Rattle.dir_trait.specs.DirCalls.{DirAt, ExtendsBy}
use Rattle.pod_locks.specs.declared.setback.Setback.{Setback}
use Rattle.pod_locks.specs.declared.setback.Setback.TheVariants as stop
use Rattle.pod_locks.specs.Requests.{looks_at, peeks_at}
use Rattle.pod_locks.specs.Taking.{takes_away, TookNothing}
use Rattle.pod_locks.proofs.Taking.{took_by, took_looks, took_more}
use Rattle.pod_gc.specs.RemovalRequests.{is_garbage_place, puts_aside}
use Rattle.pod_gc.specs.RemovalCauses.{BusyByLooks, MissedUntaken, BusyByPeeks}
use Rattle.pod_gc.proofs.CallKinds.{looks_aside}
use Rattle.pod_gc.specs.declared.line.Deed.{Deed}
use Rattle.pod_gc.specs.declared.line.Deed.TheVariants.{Moved, Busy, Left}
use Rattle.pod_gc.specs.Requests.{lists_marks, looks_over, puts_aside_only, may_be_busy}
use Rattle.pod_gc.specs.Causes.{deed_of}
use Rattle.pod_gc.specs.Deeds.{is_let_be, TouchesAsDeedSays, LetBe}

looks_also : (pod : PodId) (place : Area) (r : Request) → looks_at pod place r ≡ true → looks_over pod place r ≡ true
looks_also pod place r is = or_last (lists_marks pod place r) (looks_at pod place r) is

lists_also : (pod : PodId) (place : Area) (r : Request) → lists_marks pod place r ≡ true → looks_over pod place r ≡ true
lists_also pod place r is = ap (λ b. b || looks_at pod place r) is

lists_on : (pod : PodId) (place to : Area) (r : Request) → lists_marks pod place r ≡ true → puts_aside_only pod place to r ≡ true
lists_on pod place to r is = ap (λ b. b || puts_aside pod place to r) is

asides_on : (pod : PodId) (place to : Area) (r : Request) → puts_aside pod place to r ≡ true → puts_aside_only pod place to r ≡ true
asides_on pod place to r is = or_last (lists_marks pod place r) (puts_aside pod place to r) is

looks_on : (pod : PodId) (place to : Area) (r : Request) → looks_at pod place r ≡ true → puts_aside_only pod place to r ≡ true
looks_on pod place to r is = asides_on pod place to r (looks_aside pod place to r is)

pub moved_on : (pod : PodId) (place to : Area) {me : ℕ} {old new : List Event} → Extends (puts_aside pod place to) me old new → (other : Area) → Moved to ≡ Moved other → Extends (puts_aside_only pod place other) me old new
moved_on pod place to {me} {old} {new} x other is =
    let same : to ≡ other = cc in
    subst (λ (p : Area). Extends (puts_aside_only pod place p) me old new) same (extends_wider (asides_on pod place to) x)

pub let_moved : {pod : PodId} {place to : Area} {me : ℕ} {old new : List Event} → Extends (puts_aside pod place to) me old new → TouchesAsDeedSays pod place (Moved to) me old new
let_moved {pod} {place} {to} x = record { still = λ is. cc; left = λ is. cc; moved = λ other is. moved_on pod place to x other is; busy = λ which is. cc; own = λ which is. cc }

pub let_left : {pod : PodId} {place : Area} {me : ℕ} {old new : List Event} → TookNothing me old new → TouchesAsDeedSays pod place Left me old new
let_left took = record { still = λ is. cc; left = λ is. took; moved = λ to is. cc; busy = λ which is. cc; own = λ which is. cc }

-- listings of its marks take nothing away
lists_spare : (pod : PodId) (place : Area) (r : Request) (y : Reply) → lists_marks pod place r ≡ true → not (takes_away r y) ≡ true
lists_spare pod place (ListIn inner) y is = refl
lists_spare pod place r y is = cc

pub took_lists : {me : ℕ} {a b : List Event} (pod : PodId) (place : Area) → Extends (lists_marks pod place) me a b → TookNothing me a b
took_lists pod place e = took_by (lists_spare pod place) e

-- by looks, and no lock is named
pub let_looked : {pod : PodId} {place : Area} {deed : Deed} {me : ℕ} {old new : List Event} → Extends (looks_at pod place) me old new → ((which : Which) → deed ≡ Busy which → ⊥) → TouchesAsDeedSays pod place deed me old new
let_looked {pod} {place} looks calm = record { still = λ is. extends_wider (looks_also pod place) looks; left = λ is. took_looks pod place looks; moved = λ to is. extends_wider (looks_on pod place to) looks; busy = λ which is. absurd (calm which is); own = λ which is. absurd (calm which is) }

-- after its marks were listed
pub let_listed : {pod : PodId} {place : Area} {deed : Deed} {me other : ℕ} {a b c : List Event} → Extends (lists_marks pod place) me a b → other ≡ me → TouchesAsDeedSays pod place deed other b c → TouchesAsDeedSays pod place deed me a c
let_listed {pod} {place} lists same x = record {
  still = λ is. and_more (extends_wider (lists_also pod place) lists) same (x.still is);
  left = λ is. took_more (took_lists pod place lists) same (x.left is);
  moved = λ to is. and_more (extends_wider (lists_on pod place to) lists) same (x.moved to is);
  busy = x.busy;
  own = x.own;
}

-- no lock was asked for but shared
peeks_look : (pod : PodId) (place : Area) (r : Request) → peeks_at pod place r ≡ true → looks_at pod place r ≡ true
peeks_look pod place (Open spot which) is = is
peeks_look pod place (TryLock handle mode) is = refl
peeks_look pod place (Close handle) is = refl
peeks_look pod place _ is = cc

pub peeked_looks : {observed : Bool} {e : Setback} (pod : PodId) (place : Area) (old new : DirAt) → BusyByPeeks observed pod place e old new → BusyByLooks observed pod place e old new
peeked_looks pod place old new peeks which is t = extends_wider (peeks_look pod place) (peeks which is t)

-- after its lock was refused
pub let_refused : {observed : Bool} {pod : PodId} {place : Area} {deed : Deed} {which : Which} (a b c : DirAt) → observed ≡ true → BusyByLooks observed pod place (stop.Busy which) a b → b.process ≡ a.process → Extends (looks_at pod place) b.process b.trace c.trace
    → ((other : Which) → deed ≡ Busy other → ⊥) → LetBe observed pod place deed a c
let_refused {observed} {pod} {place} {deed} {which} a b c t looks same more calm u = let_looked (and_more (looks which refl t) same more) calm

pub garbage_busy : (a : Area) → is_garbage_place a ≡ true → may_be_busy a ≡ true
garbage_busy area.ExitedGarbage is = refl
garbage_busy area.Garbage is = refl
garbage_busy _ is = cc

-- in a garbage place it's the pod's own lock
abbrev pub BusyByOwn : Area → Setback → Type 0
BusyByOwn place e = (which : Which) → e ≡ stop.Busy which → is_garbage_place place ≡ true → which ≡ Own

pub owns_elsewhere : (place : Area) (r : Result (Unit {0}) Setback) → is_garbage_place place ≡ false → IfErr r (λ e. BusyByOwn place e)
owns_elsewhere place r elsewhere = err_all (λ e. BusyByOwn place e) r (λ e which is garbage. let clash : false ≡ true = sym elsewhere ∙ garbage in cc)

-- by a step that was done or set back
module _ (observed : Bool) (pod : PodId) (place : Area) (done : Deed) (old new : DirAt) (acts : is_let_be done ≡ false) (goes : done ≡ Left → ⊥) where
  never : {X : Type 0} → is_let_be done ≡ true → X
  never is = let clash : true ≡ false = sym is ∙ acts in cc

  pub step_let_be : (r : Result (Unit {0}) Setback) → IfErr r (λ e. BusyByLooks observed pod place e old new) → IfErr r (λ e. (which : Which) → e ≡ stop.Busy which → may_be_busy place ≡ true)
      → IfErr r (λ e. BusyByOwn place e) → IfErr r (λ e. MissedUntaken observed e old new) → IfOk r (λ d. (to : Area) → done ≡ Moved to → observed ≡ true → ExtendsBy (puts_aside_only pod place to) old new) → IfOk (deed_of r done) (λ deed. LetBe observed pod place deed old new)
  step_let_be (Ok d) looks places owns took moved = λ t. record { still = λ is. never is; left = λ is. absurd (goes is); moved = λ to is. moved to is t; busy = λ which is. never (ap is_let_be is); own = λ which is. never (ap is_let_be is) }
  step_let_be (Err stop.Missing) looks places owns took moved = λ t. let_left (took refl t)
  step_let_be (Err stop.NoManifest) looks places owns took moved = λ t. let_left (took refl t)
  step_let_be (Err (stop.Busy which)) looks places owns took moved = λ t. record { still = λ is. extends_wider (looks_also pod place) (looks which refl t); left = λ is. cc; moved = λ to is. cc; busy = λ w is. places which refl; own = λ w is garbage. let same : which ≡ w = cc in sym same ∙ owns which refl garbage }
  step_let_be (Err stop.DirFault) looks places owns took moved = tt
  step_let_be (Err stop.Stray) looks places owns took moved = tt
  step_let_be (Err stop.NoMemory) looks places owns took moved = tt
