-- The calls of each step are among those of a removal.
use Rattle.std.proofs.Common.{◌≡◌, ◌≤◌, ◌||◌, ℕ, Bool, true, not, List, refl, ap, subst, ◌∙◌}
use Rattle.dir_model.specs.declared.area.Area.{Area}
use Rattle.dir_model.specs.declared.area.Area.TheVariants.{Prepare, Prepared, Run, ExitedGarbage, Garbage}
use Rattle.dir_model.specs.declared.event.Event.{Event}
use Rattle.dir_model.specs.declared.pod.PodId.{PodId}
use Rattle.dir_model.specs.declared.spot.Handle.{Handle}
use Rattle.dir_model.specs.declared.request.Reply.{Reply}
use Rattle.dir_model.specs.declared.request.Reply.TheVariants.{Done}
use Rattle.dir_model.specs.declared.request.Request.{Request}
use Rattle.dir_model.specs.declared.request.Request.TheVariants.{Open, TryLock, Close, MoveFolder, MakeFileIn}
use Rattle.dir_model.specs.Areas.{rank}
use Rattle.dir_model.specs.Calls.{Extends}
use Rattle.dir_model.specs.Local.{Local}
use Rattle.dir_model.specs.State.{spot_eq}
use Rattle.dir_model.proofs.Chains.{and_call, and_more, extends_wider}
use Rattle.dir_model.proofs.Lists.{and_left, or_last}
use Rattle.dir_trait.specs.DirCalls.{DirAt, DirCall, ExtendsBy}
use Rattle.dir_trait.specs.Effects.{OnlyAsks, LeavesOpen}
use Rattle.dir_model.specs.Spots.{pod_spot}
use Rattle.phase_read.proofs.Stages.{pod_spot_only}
use Rattle.pod_locks.specs.Requests.{looks_at, moves_pod}
use Rattle.pod_locks.specs.Taking.{takes_away, TookNothing}
use Rattle.pod_locks.proofs.Taking.{took_by}
use Rattle.pod_gc.specs.RemovalRequests.{may_lie_dead, marks_at, puts_aside, removes}
use Rattle.pod_gc.specs.Requests.{goes_to}
use Rattle.pod_gc.proofs.Dead.{at_dead}

pub looks_remove : (pod : PodId) (now : ℕ) (a : Area) → rank a ≤ 5 → (r : Request) → looks_at pod a r ≡ true → removes pod now r ≡ true
looks_remove pod now a stage (Open spot which) is = pod_spot_only pod (pod_spot pod a) spot stage refl is
looks_remove pod now a stage (TryLock handle mode) is = refl
looks_remove pod now a stage (Close handle) is = refl
looks_remove pod now a stage _ is = cc

first_remove : (pod : PodId) (now : ℕ) (r : Request) → moves_pod pod Prepare Garbage r ≡ true → removes pod now r ≡ true
first_remove pod now (MoveFolder from to) is = ap (λ b. b || (moves_pod pod Prepared Garbage (MoveFolder from to) || moves_pod pod Run ExitedGarbage (MoveFolder from to))) is
first_remove pod now _ is = cc

pub second_remove : (pod : PodId) (now : ℕ) (r : Request) → moves_pod pod Prepared Garbage r ≡ true → removes pod now r ≡ true
second_remove pod now (MoveFolder from to) is = or_last (moves_pod pod Prepare Garbage (MoveFolder from to)) _ (ap (λ b. b || moves_pod pod Run ExitedGarbage (MoveFolder from to)) is)
second_remove pod now _ is = cc

third_remove : (pod : PodId) (now : ℕ) (r : Request) → moves_pod pod Run ExitedGarbage r ≡ true → removes pod now r ≡ true
third_remove pod now (MoveFolder from to) is = or_last (moves_pod pod Prepare Garbage (MoveFolder from to)) _ (or_last (moves_pod pod Prepared Garbage (MoveFolder from to)) _ is)
third_remove pod now _ is = cc

pub dead_remove : (pod : PodId) (now : ℕ) (a : Area) → may_lie_dead a ≡ true → (r : Request) → moves_pod pod a (goes_to a) r ≡ true → removes pod now r ≡ true
dead_remove pod now = at_dead (λ a. (r : Request) → moves_pod pod a (goes_to a) r ≡ true → removes pod now r ≡ true) (first_remove pod now) (third_remove pod now)

pub marks_remove : (pod : PodId) (now : ℕ) (r : Request) → marks_at pod now r ≡ true → removes pod now r ≡ true
marks_remove pod now (MakeFileIn inner) is = is
marks_remove pod now _ is = cc

mark_spares : (pod : PodId) (now : ℕ) (r : Request) (y : Reply) → marks_at pod now r ≡ true → not (takes_away r y) ≡ true
mark_spares pod now (MakeFileIn inner) y is = refl
mark_spares pod now r y is = cc

pub took_marks : {me : ℕ} {a b : List Event} (pod : PodId) (now : ℕ) → Extends (marks_at pod now) me a b → TookNothing me a b
took_marks pod now e = took_by (mark_spares pod now) e

-- and among those that put a pod aside

pub looks_aside : (pod : PodId) (from to : Area) (r : Request) → looks_at pod from r ≡ true → puts_aside pod from to r ≡ true
looks_aside pod from to (Open spot which) is = is
looks_aside pod from to (TryLock handle mode) is = refl
looks_aside pod from to (Close handle) is = refl
looks_aside pod from to _ is = cc

pub moves_aside : (pod : PodId) (from to : Area) (r : Request) → moves_pod pod from to r ≡ true → puts_aside pod from to r ≡ true
moves_aside pod from to (MoveFolder here there) is = is
moves_aside pod from to _ is = cc

marks_aside : (pod : PodId) (now : ℕ) (to : Area) (r : Request) → marks_at pod now r ≡ true → puts_aside pod Run to r ≡ true
marks_aside pod now to (MakeFileIn inner) is = and_left (spot_eq (pod_spot pod Run) inner.spot) _ is
marks_aside pod now to _ is = cc

pub put_aside : {observed : Bool} {a b c : DirAt} (pod : PodId) (from to : Area) → OnlyAsks observed (looks_at pod from) a b → OnlyAsks observed (moves_pod pod from to) b c → observed ≡ true → ExtendsBy (puts_aside pod from to) a c
put_aside pod from to looked moved t = and_more (extends_wider (looks_aside pod from to) (looked.extends t)) looked.same (extends_wider (moves_aside pod from to) (moved.extends t))

put_marked : {observed : Bool} {a b c d : DirAt} (pod : PodId) (now : ℕ) (to : Area) → OnlyAsks observed (looks_at pod Run) a b → OnlyAsks observed (marks_at pod now) b c → OnlyAsks observed (moves_pod pod Run to) c d → observed ≡ true → ExtendsBy (puts_aside pod Run to) a d
put_marked pod now to looked marked moved t =
    and_more (extends_wider (looks_aside pod Run to) (looked.extends t)) looked.same
    (and_more (extends_wider (marks_aside pod now to) (marked.extends t)) marked.same (extends_wider (moves_aside pod Run to) (moved.extends t)))

-- a dead pod, which was marked in run alone
pub put_dead : {observed : Bool} {a b c d : DirAt} (pod : PodId) (now : ℕ) (place : Area) → may_lie_dead place ≡ true → ((place ≡ Run → ⊥) → c ≡ b) → OnlyAsks observed (looks_at pod place) a b → OnlyAsks observed (marks_at pod now) b c
    → OnlyAsks observed (moves_pod pod place (goes_to place)) c d → observed ≡ true → ExtendsBy (puts_aside pod place (goes_to place)) a d
put_dead {observed} {a} {b} {c} {d} pod now Prepare dead still looked marked moved = put_aside pod Prepare Garbage looked (subst (λ (x : DirAt). OnlyAsks observed (moves_pod pod Prepare Garbage) x d) (still (λ is. cc)) moved)
put_dead pod now Run dead still looked marked moved = put_marked pod now ExitedGarbage looked marked moved
put_dead pod now _ dead still looked marked moved = cc

-- under a lock that was taken before and given up after
pub put_locked : {observed : Bool} {l : Local} {a b c d : DirAt} {h : Handle} (pod : PodId) (from to : Area) → LeavesOpen observed (looks_at pod from) l a b → c.process ≡ b.process → DirCall observed c (Close h) Done d → observed ≡ true → ExtendsBy (puts_aside pod from to) b c
    → ExtendsBy (puts_aside pod from to) a d
put_locked pod from to took same z t x = and_call (and_more (extends_wider (looks_aside pod from to) (took.extends t)) took.same x) (same ∙ took.same) refl (z.step t)
