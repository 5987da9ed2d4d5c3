use Rattle.std.proofs.Common.{◌≡◌, refl, sym, ap, subst, arith}
use Rattle.dir_model.specs.Local.{Local, IsUnopened}
use Rattle.pod_locks.specs.declared.owned.Owned.{Owned}
use Rattle.pod_locks.specs.Running.{IsOwned}
use Rattle.pod_locks.specs.declared.claim_error.ClaimError.{ClaimError}
use Rattle.pod_locks.specs.declared.claim_error.ClaimError.TheVariants.{Stray}
use Rattle.pod_locks.specs.ClaimHolding.{MayClaim}
use Rattle.pod_locks.specs.Work.{TookBoth, WhereObservedKnew}
use Rattle.pod_locks.specs.ClaimCauses.{ClaimCause}
use Rattle.pod_locks.specs.Claims.{HasPod, ClaimRefusedByAnother}
use Rattle.pod_locks.proofs.Parts.{went_as, went_wider}
use Rattle.pod_locks.proofs.Outcomes.{took_part, last_cause, last_still, left_twice, held_twice, another_twice, another_once, runs_it, went_twice, owned_twice, only_failures}
use Rattle.pod_locks.specs.Elsewhere.{MetOwner}
use Rattle.pod_locks.proofs.Times.{both_had}
use Rattle.pod_locks.proofs.Traces.{grown_by, grown_none}
use Rattle.pod_locks.proofs.Elsewhere.{met_once, met_twice}
use Rattle.pod_locks.proofs.ClaimLawful.{never_stray}
use Rattle.phase_read.proofs.Often.{reads_more, reads_within}
use Rattle.pod_locks.proofs.claiming.claim.Goals as goal

-- the first attempt

pub returns-in-Ok-clause-owned : goal.returns-in-Ok-clause-owned
returns-in-Ok-clause-owned g c =
    subst (λ (o : Owned). IsOwned c.args.pod (g.D.Dir.shown c.args.dir.now).local o) (sym c.owned.ensures) (record { is = refl; area = refl; unopened = c.in-Ok.ensures.unopened })

pub returns-in-Ok-clause-went : goal.returns-in-Ok-clause-went
returns-in-Ok-clause-went g c =
    let m = (g.D.Dir.shown c.args.dir.now).local in
    went_as (owned_twice c.args.pod m m c.in-Ok.own c.owned.result.own refl (ap (λ (o : Owned). o.own) c.owned.ensures)) (went_wider (omega arith) c.in-Ok.ensures.went)

pub returns-in-Ok-clause-moved : goal.returns-in-Ok-clause-moved
returns-in-Ok-clause-moved g c t =
    let D = g.D.Dir in
    let a = D.shown c.args.dir.now in
    let b = D.shown c.attempt.new.dir in
    subst (λ (o : Owned). TookBoth c.args.pod o.own a.process a.trace b.trace) (sym c.owned.ensures) (c.in-Ok.ensures.order t)

pub returns-in-Ok-clause-runs : goal.returns-in-Ok-clause-runs
returns-in-Ok-clause-runs g c = runs_it (g.D.Dir.shown c.args.dir.now) (g.D.Dir.shown c.attempt.new.dir) c.in-Ok.ensures.held

pub returns-in-Ok-clause-held : goal.returns-in-Ok-clause-held
returns-in-Ok-clause-held g c =
    let D = g.D.Dir in
    let a = D.shown c.args.dir.now in
    let b = D.shown c.attempt.new.dir in
    subst (λ (o : Owned). WhereObservedKnew D.observed MayClaim a (λ s. HasPod c.args.pod o.own s b)) (sym c.owned.ensures) c.in-Ok.ensures.held

pub returns-in-Err-Refused-clause-went : goal.returns-in-Err-Refused-clause-went
returns-in-Err-Refused-clause-went g c = let e = rw c.in-Err-Refused.field-0-is at c.in-Err-Refused.ensures in went_wider (omega arith) e.went

pub returns-in-Err-Refused-clause-cause : goal.returns-in-Err-Refused-clause-cause
returns-in-Err-Refused-clause-cause g c = let e = rw c.in-Err-Refused.field-0-is at c.in-Err-Refused.ensures in e.set_back.cause c.in-Err-Refused.error refl

pub returns-in-Err-Refused-clause-by_other_process : goal.returns-in-Err-Refused-clause-by_other_process
returns-in-Err-Refused-clause-by_other_process g c =
    let e = rw c.in-Err-Refused.field-0-is at c.in-Err-Refused.ensures in
    another_once c.in-Err-Refused.error (g.D.Dir.shown c.args.dir.now) (g.D.Dir.shown c.attempt.new.dir) e.by_other_process

pub returns-in-Err-Refused-clause-complete : goal.returns-in-Err-Refused-clause-complete
returns-in-Err-Refused-clause-complete g c t s may k conforming free =
    only_failures c.in-Err-Refused.error t (returns-in-Err-Refused-clause-cause g c) (returns-in-Err-Refused-clause-by_other_process g c t s may k) conforming free

-- the second

pub returns-in-Ok-attempt-clause-owned : goal.returns-in-Ok-attempt-clause-owned
returns-in-Ok-attempt-clause-owned g c =
    let e = rw c.in-Err-Missing.field-0-is at c.in-Err-Missing.ensures in
    subst (λ (o : Owned). IsOwned c.args.pod (g.D.Dir.shown c.args.dir.now).local o) (sym c.owned-in-Ok-attempt.ensures)
    (record { is = refl; area = refl; unopened = subst (λ (m : Local). IsUnopened m c.in-Ok-attempt.own) e.went.local_is c.in-Ok-attempt.ensures.unopened })

pub returns-in-Ok-attempt-clause-went : goal.returns-in-Ok-attempt-clause-went
returns-in-Ok-attempt-clause-went g c =
    let e = rw c.in-Err-Missing.field-0-is at c.in-Err-Missing.ensures in
    went_as (owned_twice c.args.pod (g.D.Dir.shown c.args.dir.now).local (g.D.Dir.shown c.attempt.new.dir).local c.in-Ok-attempt.own c.owned-in-Ok-attempt.result.own e.went.local_is (ap (λ (o : Owned). o.own) c.owned-in-Ok-attempt.ensures))
    (went_twice e.went c.in-Ok-attempt.ensures.went)

pub returns-in-Ok-attempt-clause-moved : goal.returns-in-Ok-attempt-clause-moved
returns-in-Ok-attempt-clause-moved g c t =
    let D = g.D.Dir in
    let a = D.shown c.args.dir.now in
    let d = D.shown c.attempt-in-Err-Missing.new.dir in
    let e = rw c.in-Err-Missing.field-0-is at c.in-Err-Missing.ensures in
    subst (λ (o : Owned). TookBoth c.args.pod o.own a.process a.trace d.trace) (sym c.owned-in-Ok-attempt.ensures) (took_part e.went d t (c.in-Ok-attempt.ensures.order t))

pub returns-in-Ok-attempt-clause-held : goal.returns-in-Ok-attempt-clause-held
returns-in-Ok-attempt-clause-held g c =
    let D = g.D.Dir in
    let a = D.shown c.args.dir.now in
    let d = D.shown c.attempt-in-Err-Missing.new.dir in
    let e = rw c.in-Err-Missing.field-0-is at c.in-Err-Missing.ensures in
    subst (λ (o : Owned). WhereObservedKnew D.observed MayClaim a (λ s. HasPod c.args.pod o.own s d)) (sym c.owned-in-Ok-attempt.ensures) (held_twice e.went e.left d c.in-Ok-attempt.own c.in-Ok-attempt.ensures.held)

pub returns-in-Ok-attempt-clause-runs : goal.returns-in-Ok-attempt-clause-runs
returns-in-Ok-attempt-clause-runs g c =
    let D = g.D.Dir in
    let a = D.shown c.args.dir.now in
    let d = D.shown c.attempt-in-Err-Missing.new.dir in
    let e = rw c.in-Err-Missing.field-0-is at c.in-Err-Missing.ensures in
    runs_it a d (held_twice e.went e.left d c.in-Ok-attempt.own c.in-Ok-attempt.ensures.held)

pub returns-in-Err-clause-went : goal.returns-in-Err-clause-went
returns-in-Err-clause-went g c =
    let e = rw c.in-Err-Missing.field-0-is at c.in-Err-Missing.ensures in
    went_as e.went.local_is (went_twice e.went c.in-Err.ensures.went)

pub returns-in-Err-clause-cause : goal.returns-in-Err-clause-cause
returns-in-Err-clause-cause g c =
    let D = g.D.Dir in
    let e = rw c.in-Err-Missing.field-0-is at c.in-Err-Missing.ensures in
    subst (λ (x : ClaimError). ClaimCause D.observed c.args.pod x (D.shown c.args.dir.now) (D.shown c.attempt-in-Err-Missing.new.dir)) (sym c.last_refusal.ensures)
    (last_cause e.went c.in-Err.stop e.set_back c.in-Err.ensures.set_back)

pub returns-in-Err-clause-by_other_process : goal.returns-in-Err-clause-by_other_process
returns-in-Err-clause-by_other_process g c =
    let D = g.D.Dir in
    let a = D.shown c.args.dir.now in
    let d = D.shown c.attempt-in-Err-Missing.new.dir in
    let e = rw c.in-Err-Missing.field-0-is at c.in-Err-Missing.ensures in
    subst (λ (x : ClaimError). WhereObservedKnew D.observed MayClaim a (λ s. ClaimRefusedByAnother c.args.pod x a d)) (sym c.last_refusal.ensures) (another_twice e.went e.left d c.in-Err.stop c.in-Err.ensures.by_other_process)

pub returns-in-Err-clause-moves_nothing : goal.returns-in-Err-clause-moves_nothing
returns-in-Err-clause-moves_nothing g c =
    let e = rw c.in-Err-Missing.field-0-is at c.in-Err-Missing.ensures in
    last_still e.went (g.D.Dir.shown c.attempt-in-Err-Missing.new.dir) e.set_back c.in-Err.ensures.set_back

pub returns-in-Err-clause-left : goal.returns-in-Err-clause-left
returns-in-Err-clause-left g c =
    let e = rw c.in-Err-Missing.field-0-is at c.in-Err-Missing.ensures in
    left_twice e.went e.left (g.D.Dir.shown c.attempt-in-Err-Missing.new.dir) c.in-Err.ensures.left

pub returns-in-Err-clause-complete : goal.returns-in-Err-clause-complete
returns-in-Err-clause-complete g c t s may k conforming free =
    only_failures c.last_refusal.result t (returns-in-Err-clause-cause g c) (returns-in-Err-clause-by_other_process g c t s may k) conforming free

-- the pod was another process's

pub returns-in-Err-Refused-clause-owned_elsewhere : goal.returns-in-Err-Refused-clause-owned_elsewhere
returns-in-Err-Refused-clause-owned_elsewhere g c =
    let e = rw c.in-Err-Refused.field-0-is at c.in-Err-Refused.ensures in
    met_once c.args.pod (g.D.Dir.shown c.args.dir.now) (g.D.Dir.shown c.attempt.new.dir) c.in-Err-Refused.error e.owned_elsewhere

pub returns-in-Err-clause-owned_elsewhere : goal.returns-in-Err-clause-owned_elsewhere
returns-in-Err-clause-owned_elsewhere g c =
    let D = g.D.Dir in
    let a = D.shown c.args.dir.now in
    let d = D.shown c.attempt-in-Err-Missing.new.dir in
    let e = rw c.in-Err-Missing.field-0-is at c.in-Err-Missing.ensures in
    subst (λ (x : ClaimError). WhereObservedKnew D.observed MayClaim a (λ s. MetOwner c.args.pod x a d)) (sym c.last_refusal.ensures) (met_twice e.went e.left d c.in-Err.stop c.in-Err.ensures.owned_elsewhere)

pub returns-in-Ok-clause-reads : goal.returns-in-Ok-clause-reads
returns-in-Ok-clause-reads g c = reads_within 2 (omega arith) c.attempt.ensures.reads

pub returns-in-Err-Refused-clause-reads : goal.returns-in-Err-Refused-clause-reads
returns-in-Err-Refused-clause-reads g c = reads_within 2 (omega arith) c.attempt.ensures.reads

pub returns-in-Ok-attempt-clause-reads : goal.returns-in-Ok-attempt-clause-reads
returns-in-Ok-attempt-clause-reads g c = reads_more 2 (omega arith) c.attempt.ensures.reads c.attempt.ensures.went.same c.attempt-in-Err-Missing.ensures.reads

pub returns-in-Err-clause-reads : goal.returns-in-Err-clause-reads
returns-in-Err-clause-reads g c = reads_more 2 (omega arith) c.attempt.ensures.reads c.attempt.ensures.went.same c.attempt-in-Err-Missing.ensures.reads

pub returns-in-Ok-attempt-clause-alone : goal.returns-in-Ok-attempt-clause-alone
returns-in-Ok-attempt-clause-alone g c t =
    let e = rw c.in-Err-Missing.field-0-is at c.in-Err-Missing.ensures in
    both_had (grown_by (e.went.extends t)) e.went.same grown_none (c.in-Ok-attempt.ensures.alone t)

-- no stray answer comes where every process keeps the rules

pub returns-in-Err-Refused-clause-lawful : goal.returns-in-Err-Refused-clause-lawful
returns-in-Err-Refused-clause-lawful g c is t conforming =
    let same : c.in-Err-Refused.error ≡ Stray = cc in
    never_stray (returns-in-Err-Refused-clause-cause g c) same t conforming

pub returns-in-Err-clause-lawful : goal.returns-in-Err-clause-lawful
returns-in-Err-clause-lawful g c is t conforming =
    let same : c.last_refusal.result ≡ Stray = cc in
    never_stray (returns-in-Err-clause-cause g c) same t conforming
