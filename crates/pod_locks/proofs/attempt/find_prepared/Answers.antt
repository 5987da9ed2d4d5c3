use Rattle.std.proofs.Common.{Err, sym, ap, subst, ◌∙◌}
use Rattle.pod_locks.specs.declared.claim_error.ClaimError.{ClaimError}
use Rattle.pod_locks.specs.ClaimCauses.{ClaimCause}
use Rattle.pod_locks.proofs.Reading.{went_looked, found_prepared, cause_wrong, cause_gone, cause_failed, look_calm}
use Rattle.pod_locks.proofs.Traces.{still_looks}
use Rattle.pod_locks.proofs.Elsewhere.{met_by_reading, look_isnt_wrong}
use Rattle.pod_locks.proofs.attempt.find_prepared.Goals as goal

pub returns-in-Ok-Gone-clause-went : goal.returns-in-Ok-Gone-clause-went
returns-in-Ok-Gone-clause-went g c = let r = c.read_phase.ensures in went_looked r.counted r.same r.faults r.local r.extends

pub returns-in-Ok-Gone-clause-moves_nothing : goal.returns-in-Ok-Gone-clause-moves_nothing
returns-in-Ok-Gone-clause-moves_nothing g c t = still_looks (c.read_phase.ensures.extends t)

pub returns-in-Err-clause-went : goal.returns-in-Err-clause-went
returns-in-Err-clause-went g c = let r = c.read_phase.ensures in went_looked r.counted r.same r.faults r.local r.extends

pub returns-in-Err-clause-moves_nothing : goal.returns-in-Err-clause-moves_nothing
returns-in-Err-clause-moves_nothing g c t = still_looks (c.read_phase.ensures.extends t)

pub returns-then-is_prepared-clause-went : goal.returns-then-is_prepared-clause-went
returns-then-is_prepared-clause-went g c = let r = c.read_phase.ensures in went_looked r.counted r.same r.faults r.local r.extends

pub returns-then-is_prepared-clause-moves_nothing : goal.returns-then-is_prepared-clause-moves_nothing
returns-then-is_prepared-clause-moves_nothing g c t = still_looks (c.read_phase.ensures.extends t)

pub returns-else-is_prepared-clause-went : goal.returns-else-is_prepared-clause-went
returns-else-is_prepared-clause-went g c = let r = c.read_phase.ensures in went_looked r.counted r.same r.faults r.local r.extends

pub returns-else-is_prepared-clause-moves_nothing : goal.returns-else-is_prepared-clause-moves_nothing
returns-else-is_prepared-clause-moves_nothing g c t = still_looks (c.read_phase.ensures.extends t)

pub returns-then-is_prepared-clause-found : goal.returns-then-is_prepared-clause-found
returns-then-is_prepared-clause-found g c t =
    let e = rw c.in-Ok-At.field-0-is at c.in-Ok-At.ensures in
    found_prepared c.args.pod c.in-Ok-At.phase c.in-Ok-At.field-0-1 (sym c.is_prepared.ensures ∙ c.if-is_prepared.true) (e.read t)

pub returns-else-is_prepared-clause-cause : goal.returns-else-is_prepared-clause-cause
returns-else-is_prepared-clause-cause g c =
    let e = rw c.in-Ok-At.field-0-is at c.in-Ok-At.ensures in
    cause_wrong c.args.pod c.in-Ok-At.phase c.in-Ok-At.field-0-1 (sym c.is_prepared.ensures ∙ c.if-is_prepared.false) (λ t. e.exact t)

pub returns-in-Ok-Gone-clause-cause : goal.returns-in-Ok-Gone-clause-cause
returns-in-Ok-Gone-clause-cause g c =
    let e = rw c.in-Ok-Gone.field-0-is at c.in-Ok-Gone.ensures in
    cause_gone c.args.pod (λ t. e.exact t)

pub returns-in-Err-clause-cause : goal.returns-in-Err-clause-cause
returns-in-Err-clause-cause g c =
    let D = g.D.Dir in
    subst (λ (x : ClaimError). ClaimCause D.observed c.args.pod x (D.shown c.args.dir.now) (D.shown c.read_phase.new.dir)) (sym c.look_refusal.ensures)
    (cause_failed c.args.pod c.in-Err.error (λ is. c.read_phase.ensures.cause (c.in-Err.is ∙ ap Err is)))

pub returns-in-Err-clause-never_busy : goal.returns-in-Err-clause-never_busy
returns-in-Err-clause-never_busy g c which is = look_calm c.args.pod c.in-Err.error which (sym c.look_refusal.ensures ∙ is)

pub returns-else-is_prepared-clause-owned_elsewhere : goal.returns-else-is_prepared-clause-owned_elsewhere
returns-else-is_prepared-clause-owned_elsewhere g c =
    let e = rw c.in-Ok-At.field-0-is at c.in-Ok-At.ensures in
    met_by_reading c.args.pod (g.D.Dir.shown c.args.dir.now) (g.D.Dir.shown c.read_phase.new.dir) c.in-Ok-At.phase c.in-Ok-At.field-0-1 (λ t. c.read_phase.ensures.extends t) (λ t. e.exact t)

pub returns-in-Ok-Gone-clause-owned_elsewhere : goal.returns-in-Ok-Gone-clause-owned_elsewhere
returns-in-Ok-Gone-clause-owned_elsewhere g c t s may knows conforming q is owned = cc

pub returns-in-Err-clause-owned_elsewhere : goal.returns-in-Err-clause-owned_elsewhere
returns-in-Err-clause-owned_elsewhere g c t s may knows conforming q is owned = absurd (look_isnt_wrong c.in-Err.error q (sym c.look_refusal.ensures ∙ is))
