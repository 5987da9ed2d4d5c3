-- Where nobody else steps, a pod without its manifest had none before.
use Rattle.std.proofs.Common.{ℕ, List, subst}
use Rattle.dir_model.specs.declared.event.Event.{Event}
use Rattle.dir_model.specs.declared.pod.PodId.{PodId}
use Rattle.dir_model.specs.Calls.{Extends, AtOwnStep}
use Rattle.dir_model.specs.Quiet.{Quiet}
use Rattle.dir_model.specs.Trace.{state_after}
use Rattle.lifecycle.specs.Executions.{IsConforming}
use Rattle.lifecycle.proofs.Draws.{conforming_left}
use Rattle.pod_locks.specs.ClaimCauses.{IsPreparedWithoutManifest}
use Rattle.pod_gc.specs.RemovalRequests.{removes}
use Rattle.commands.specs.Opening.{OnceFound}
use Rattle.commands.specs.Rm.{HadNoManifest}
use Rattle.commands.proofs.OwnSteps.{in_process, back_at, at_process}
use Rattle.commands.proofs.LateTurns.{removes_late, in_garbage}
use Rattle.commands.proofs.Lacking.{Aside, Lacks, lacks_back}

pub removes_aside : (pod : PodId) (now : ℕ) → Aside (removes pod now)
removes_aside pod now = record { late = removes_late pod now; files = λ inner is. in_garbage pod now inner.spot is; dirs = λ inner is. in_garbage pod now inner.spot is }

pub rm_lacked_before : (pod : PodId) (now : ℕ) {me : ℕ} {old new : List Event} → Extends (in_process (removes pod now)) me old new → Quiet me old new → OnceFound (HadNoManifest pod) me old new → IsConforming new → IsPreparedWithoutManifest pod (state_after old)
rm_lacked_before pod now {me} {old} {new} ext quiet m conforming =
    let at = m.so (conforming_left m.ended m.finishes.more (subst IsConforming m.finishes.grown conforming)) in
    let k = at.holds.folder in
    let there : AtOwnStep me m.begun m.ended (Lacks (removes pod now) (removes_aside pod now) pod k me) =
    record { before = at.before; step = at.step; later = at.later; rest = at.rest; begins = at.begins; ends = at.ends; own = at.own; holds = (at.holds.there, at.holds.without) } in
    let x = back_at (Lacks (removes pod now) (removes_aside pod now) pod k me) (in_process (removes pod now)) me (λ s request reply h x. lacks_back (removes pod now) (removes_aside pod now) pod k me s request reply h x) (at_process m.begins m.finishes there) ext quiet in
    record { folder = k; there = x.0; without = x.1 }
