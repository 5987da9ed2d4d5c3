use Rattle.std.proofs.Common.{◌≡◌, Err, sym, ap, subst, ◌∙◌, true, false, refl}
use Rattle.dir_model.specs.declared.spot.Spot.{Spot}
use Rattle.dir_model.specs.State.{stands}
use Rattle.dir_trait.specs.DirCalls.{HeldBetween}
use Rattle.pod_locks.specs.declared.claim_setback.Setback.TheVariants as setback
use Rattle.pod_locks.specs.declared.claim_error.ClaimError.{ClaimError}
use Rattle.pod_locks.specs.ClaimCauses.{ClaimStopsAlone}
use Rattle.pod_locks.proofs.Reading.{went_looked, looks_there, alone_there, alone_missing, alone_failed}
use Rattle.phase_read.proofs.Often.{reads_area}
use Rattle.dir_model.specs.declared.area.Area.TheVariants.{Prepared}
use Rattle.dir_model.specs.Pods.{pod_text}
use Rattle.dir_model.specs.Replies.{is_look_at}
use Rattle.dir_model.specs.State.{spot_eq}
use Rattle.dir_trait.specs.DirCalls.{ExtendsBy}
use Rattle.pod_locks.proofs.locks.without_claim.Goals as goal

pub returns-in-Ok-true-clause-went : goal.returns-in-Ok-true-clause-went
returns-in-Ok-true-clause-went g c = let l = c.look.ensures in went_looked l.counted l.same l.faults l.local (looks_there c.args.pod (g.D.Dir.shown c.args.dir.now) (g.D.Dir.shown c.look.new.dir) c.of_pod.ensures l.extends)

pub returns-in-Ok-false-clause-went : goal.returns-in-Ok-false-clause-went
returns-in-Ok-false-clause-went g c = let l = c.look.ensures in went_looked l.counted l.same l.faults l.local (looks_there c.args.pod (g.D.Dir.shown c.args.dir.now) (g.D.Dir.shown c.look.new.dir) c.of_pod.ensures l.extends)

pub returns-in-Err-clause-went : goal.returns-in-Err-clause-went
returns-in-Err-clause-went g c = let l = c.look.ensures in went_looked l.counted l.same l.faults l.local (looks_there c.args.pod (g.D.Dir.shown c.args.dir.now) (g.D.Dir.shown c.look.new.dir) c.of_pod.ensures l.extends)

pub returns-in-Ok-true-clause-stopped : goal.returns-in-Ok-true-clause-stopped
returns-in-Ok-true-clause-stopped g c =
    let D = g.D.Dir in
    let e = rw c.in-Ok-true.field-0-test at c.in-Ok-true.ensures in
    alone_there (looks_there c.args.pod (g.D.Dir.shown c.args.dir.now) (g.D.Dir.shown c.look.new.dir) c.of_pod.ensures c.look.ensures.extends)
    (λ t. subst (λ (spot : Spot). HeldBetween (D.shown c.args.dir.now) (D.shown c.look.new.dir) (λ s. stands s.namespace spot ≡ true)) c.of_pod.ensures (e.there t))

pub returns-in-Ok-false-clause-stopped : goal.returns-in-Ok-false-clause-stopped
returns-in-Ok-false-clause-stopped g c =
    let D = g.D.Dir in
    let e = rw c.in-Ok-false.field-0-test at c.in-Ok-false.ensures in
    alone_missing (looks_there c.args.pod (g.D.Dir.shown c.args.dir.now) (g.D.Dir.shown c.look.new.dir) c.of_pod.ensures c.look.ensures.extends)
    (λ t. subst (λ (spot : Spot). HeldBetween (D.shown c.args.dir.now) (D.shown c.look.new.dir) (λ s. stands s.namespace spot ≡ false)) c.of_pod.ensures (e.there t))

pub returns-in-Err-clause-stopped : goal.returns-in-Err-clause-stopped
returns-in-Err-clause-stopped g c =
    let D = g.D.Dir in
    subst (λ (x : ClaimError). ClaimStopsAlone D.observed c.args.pod (setback.Refused x) (D.shown c.args.dir.now) (D.shown c.look.new.dir)) (sym c.look_refusal.ensures)
    (alone_failed (looks_there c.args.pod (g.D.Dir.shown c.args.dir.now) (g.D.Dir.shown c.look.new.dir) c.of_pod.ensures c.look.ensures.extends) c.in-Err.error (λ is. c.look.ensures.cause (c.in-Err.is ∙ ap Err is)))

pub returns-in-Ok-true-clause-reads : goal.returns-in-Ok-true-clause-reads
returns-in-Ok-true-clause-reads g c = record { reads = λ t. reads_area c.args.pod Prepared (pod_text c.args.pod.bytes) refl (λ is. cc) (subst (λ (s : Spot). ExtendsBy (is_look_at (spot_eq s)) (g.D.Dir.shown c.args.dir.now) (g.D.Dir.shown c.look.new.dir)) c.of_pod.ensures (c.look.ensures.extends t)) }

pub returns-in-Ok-false-clause-reads : goal.returns-in-Ok-false-clause-reads
returns-in-Ok-false-clause-reads g c = record { reads = λ t. reads_area c.args.pod Prepared (pod_text c.args.pod.bytes) refl (λ is. cc) (subst (λ (s : Spot). ExtendsBy (is_look_at (spot_eq s)) (g.D.Dir.shown c.args.dir.now) (g.D.Dir.shown c.look.new.dir)) c.of_pod.ensures (c.look.ensures.extends t)) }

pub returns-in-Err-clause-reads : goal.returns-in-Err-clause-reads
returns-in-Err-clause-reads g c = record { reads = λ t. reads_area c.args.pod Prepared (pod_text c.args.pod.bytes) refl (λ is. cc) (subst (λ (s : Spot). ExtendsBy (is_look_at (spot_eq s)) (g.D.Dir.shown c.args.dir.now) (g.D.Dir.shown c.look.new.dir)) c.of_pod.ensures (c.look.ensures.extends t)) }
