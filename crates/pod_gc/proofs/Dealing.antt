-- Each pass deals with its pods by its own step.
use Rattle.std.proofs.Common.{◌≡◌, ◌||◌, ℕ, true, Result, Ok, Err, IfOk, List, ap, subst, Option, Some, None, ◌==◌, ◌&&◌, false}
use Rattle.dir_model.specs.declared.area.Area.{Area}
use Rattle.dir_model.specs.declared.area.Area.TheVariants as area
use Rattle.dir_model.specs.declared.event.Event.{Event}
use Rattle.dir_model.specs.declared.pod.PodId.{PodId}
use Rattle.dir_model.specs.declared.request.Request.{Request}
use Rattle.dir_model.proofs.Lists.{or_last, and_left}
use Rattle.dir_rules.specs.declared.seen.Seen.{Seen}
use Rattle.dir_rules.specs.Standing.{intends, is_gc}
use Rattle.dir_model.specs.declared.spot.Which.{Which}
use Rattle.dir_model.specs.declared.intent.Intent.{Intent}
use Rattle.pod_locks.specs.Requests.{moves_pod}
use Rattle.pod_gc.specs.RemovalRequests.{removes}
use Rattle.pod_gc.specs.RemovalCauses.{MarkedFirst}
use Rattle.pod_gc.specs.declared.ages.Times.{Times}
use Rattle.pod_gc.specs.declared.line.Deed.{Deed}
use Rattle.pod_gc.specs.declared.line.Deed.TheVariants.{Moved}
use Rattle.pod_gc.specs.Requests.{deals_with_pod, lists_marks}
use Rattle.pod_gc.specs.Deeds.{DeedCause, TouchesAsDeedSays, WaitedByAge, RestedByAge, Dealt, refused_lock, LeftToAnother}
use Rattle.pod_gc.specs.Sweeping.{MayPassPods, HoldsEmbryo}

pub embryo_deal : (pod : PodId) (now : ℕ) (place : Area) (r : Request) → moves_pod pod area.Embryo area.Garbage r ≡ true → deals_with_pod pod now place r ≡ true
embryo_deal pod now place r is = or_last (lists_marks pod place r) _ (ap (λ b. b || removes pod now r) is)

pub dealt_at : {me : ℕ} {old new : List Event} (times : Times) (pod : PodId) (here place : Area) → here ≡ place → (deed : Deed) → DeedCause pod here deed me old new → TouchesAsDeedSays pod here deed me old new → (here ≡ area.Prepared → WaitedByAge times pod deed me old new)
    → (here ≡ area.ExitedGarbage → RestedByAge times pod deed me old new) → (here ≡ area.Run → (to : Area) → deed ≡ Moved to → MarkedFirst pod times.now me old new) → Dealt times pod place deed me old new
dealt_at {me} {old} {new} times pod here place is deed cause let_be waited rested marked = subst (λ (a : Area). Dealt times pod a deed me old new) is (record { cause = cause; let_be = let_be; waited = waited; rested = rested; marked = marked })

-- for each of these
pub all_ok_at : {T E X : Type 0} (r : Result T E) (P : X → T → Type 0) → ((x : X) → IfOk r (P x)) → IfOk r (λ y. (x : X) → P x y)
all_ok_at (Ok y) P f = f
all_ok_at (Err e) P f = tt

pub gc_by : (expire : ℕ) (intent : Option Intent) → intends (λ i. is_gc i.kind && (i.expire == expire)) intent ≡ true → intends (λ i. is_gc i.kind) intent ≡ true
gc_by expire None is = cc
gc_by expire (Some i) is = and_left (is_gc i.kind) (i.expire == expire) is

pub may_embryo : {place : Area} {now expire : ℕ} {s : Seen} → place ≡ area.Embryo → MayPassPods place now expire s → HoldsEmbryo now s
may_embryo {place} {now} {expire} {s} is m = record { may = m.sweeps.may; sweeps = gc_by expire s.standing.intent m.sweeps.sweeps; gate = m.gate is }

-- of an embryo nothing is said of another
pub embryo_left : {pod : PodId} {deed : Deed} {me : ℕ} {old new : List Event} → ((which : Which) → refused_lock deed ≡ Some which → ⊥) → DeedCause pod area.Embryo deed me old new → LeftToAnother pod area.Embryo deed me old new
embryo_left calm cause = record { held = λ which is. absurd (calm which is); owner = λ conforming p is owned. let e : false ≡ true = (cause.kept p is).0 in cc }
