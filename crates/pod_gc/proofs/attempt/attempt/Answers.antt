use Rattle.std.proofs.Common.{◌≡◌, true, Err, Result, IfOk, IfErr, sym, ap, subst, ◌∙◌, arith}
use Rattle.folder_building.proofs.Working.{worked_more}
use Rattle.pod_locks.specs.declared.setback.Setback.{Setback}
use Rattle.pod_locks.proofs.Calls.{follows_work}
use Rattle.pod_gc.specs.declared.attempt.Round.{Round}
use Rattle.pod_gc.specs.declared.remove_error.RemoveError.{RemoveError}
use Rattle.pod_gc.specs.RemovalSetbacks.{remove_error_of}
use Rattle.pod_gc.specs.RemovalHolding.{MayRemovePod}
use Rattle.pod_gc.specs.Removals.{WentRound, RoundCause, RemovalRefusedByAnother}
use Rattle.pod_gc.proofs.Rounds.{worked_read, went_round, round_cause, round_another, cause_wrong, cause_failed, look_alone, wrong_elsewhere, ready_looks, ready_more}
use Rattle.pod_gc.specs.Found.{RoundWent, RoundRefused}
use Rattle.pod_gc.proofs.Finding.{round_went, round_refused, look_unrefused}
use Rattle.phase_read.proofs.Often.{reads_more}
use Rattle.folder_removal.specs.Removal.{KeepsFolders}
use Rattle.pod_gc.proofs.Unread.{kept_read, kept_round}
use Rattle.pod_gc.specs.Removals.{RoundByApp}
use Rattle.pod_gc.proofs.RemovalLawful.{round_by_app, look_by_app}
use Rattle.pod_gc.proofs.attempt.attempt.Goals as goal
use Rattle.dir_trait.specs.Effects.{Given}

pub returns-then-is_removable-clause-worked : goal.returns-then-is_removable-clause-worked
returns-then-is_removable-clause-worked g c =
    let r = c.read_phase.ensures in
    worked_more (worked_read c.args.pod c.args.now (g.D.Dir.shown c.args.dir.now) (g.D.Dir.shown c.read_phase.new.dir) r.same r.faults r.local r.extends) c.remove_found.ensures.worked

pub returns-then-is_removable-clause-went : goal.returns-then-is_removable-clause-went
returns-then-is_removable-clause-went g c =
    let D = g.D.Dir in
    let r = c.read_phase.ensures in
    let e = rw c.in-Ok-At.field-0-is at c.in-Ok-At.ensures in
    let old = D.shown c.args.dir.now in
    let mid = D.shown c.read_phase.new.dir in
    let new = D.shown c.remove_found.new.dir in
    subst (λ (x : Result Round RemoveError). IfOk x (λ y. D.observed ≡ true → WentRound c.args.pod y old new)) (sym c.round_of.ensures)
    (went_round c.args.pod c.in-Ok-At.phase c.in-Ok-At.field-0-1 old mid new (follows_work (worked_read c.args.pod c.args.now old mid r.same r.faults r.local r.extends)) (sym c.is_removable.ensures ∙ c.if-is_removable.true) (λ t. e.read t)
    c.remove_found.result c.remove_found.ensures.removed c.remove_found.ensures.stopped c.remove_found.ensures.missed)

pub returns-then-is_removable-clause-cause : goal.returns-then-is_removable-clause-cause
returns-then-is_removable-clause-cause g c =
    let D = g.D.Dir in
    let r = c.read_phase.ensures in
    let e = rw c.in-Ok-At.field-0-is at c.in-Ok-At.ensures in
    let old = D.shown c.args.dir.now in
    let mid = D.shown c.read_phase.new.dir in
    let new = D.shown c.remove_found.new.dir in
    subst (λ (x : Result Round RemoveError). IfErr x (λ y. RoundCause D.observed c.args.pod y old new)) (sym c.round_of.ensures)
    (round_cause c.args.pod c.in-Ok-At.phase c.in-Ok-At.field-0-1 old mid new (follows_work (worked_read c.args.pod c.args.now old mid r.same r.faults r.local r.extends)) (sym c.is_removable.ensures ∙ c.if-is_removable.true) (λ t. e.read t)
    c.remove_found.result c.remove_found.ensures.stopped)

pub returns-then-is_removable-clause-by_other_process : goal.returns-then-is_removable-clause-by_other_process
returns-then-is_removable-clause-by_other_process g c =
    let D = g.D.Dir in
    let r = c.read_phase.ensures in
    let e = rw c.in-Ok-At.field-0-is at c.in-Ok-At.ensures in
    let old = D.shown c.args.dir.now in
    let mid = D.shown c.read_phase.new.dir in
    let new = D.shown c.remove_found.new.dir in
    subst (λ (x : Result Round RemoveError). IfErr x (λ y. D.observed ≡ true → Given (MayRemovePod c.args.pod c.args.now) old (λ s. RemovalRefusedByAnother c.args.pod y old new))) (sym c.round_of.ensures)
    (round_another c.args.pod c.in-Ok-At.phase c.in-Ok-At.field-0-1 old mid new (follows_work (worked_read c.args.pod c.args.now old mid r.same r.faults r.local r.extends)) (sym c.is_removable.ensures ∙ c.if-is_removable.true) (λ t. e.read t)
    c.args.now r.known c.remove_found.result c.remove_found.ensures.by_other_process)

pub returns-then-is_removable-clause-ready : goal.returns-then-is_removable-clause-ready
returns-then-is_removable-clause-ready g c t = ready_more (ready_looks c.args.pod (c.read_phase.ensures.known t)) (c.remove_found.ensures.ready t)

pub returns-else-is_removable-clause-worked : goal.returns-else-is_removable-clause-worked
returns-else-is_removable-clause-worked g c = let r = c.read_phase.ensures in worked_read c.args.pod c.args.now (g.D.Dir.shown c.args.dir.now) (g.D.Dir.shown c.read_phase.new.dir) r.same r.faults r.local r.extends

pub returns-else-is_removable-clause-cause : goal.returns-else-is_removable-clause-cause
returns-else-is_removable-clause-cause g c =
    let e = rw c.in-Ok-At.field-0-is at c.in-Ok-At.ensures in
    cause_wrong c.args.pod c.in-Ok-At.phase c.in-Ok-At.field-0-1 (sym c.is_removable.ensures ∙ c.if-is_removable.false) (λ t. e.exact t)

pub returns-else-is_removable-clause-by_other_process : goal.returns-else-is_removable-clause-by_other_process
returns-else-is_removable-clause-by_other_process g c =
    let D = g.D.Dir in
    let e = rw c.in-Ok-At.field-0-is at c.in-Ok-At.ensures in
    wrong_elsewhere c.args.pod c.args.now (D.shown c.args.dir.now) (D.shown c.read_phase.new.dir) c.in-Ok-At.phase c.in-Ok-At.field-0-1 (λ t. c.read_phase.ensures.extends t) (λ t. e.exact t)

pub returns-else-is_removable-clause-ready : goal.returns-else-is_removable-clause-ready
returns-else-is_removable-clause-ready g c t = ready_looks c.args.pod (c.read_phase.ensures.known t)

pub returns-in-Ok-Gone-clause-worked : goal.returns-in-Ok-Gone-clause-worked
returns-in-Ok-Gone-clause-worked g c = let r = c.read_phase.ensures in worked_read c.args.pod c.args.now (g.D.Dir.shown c.args.dir.now) (g.D.Dir.shown c.read_phase.new.dir) r.same r.faults r.local r.extends

pub returns-in-Ok-Gone-clause-went : goal.returns-in-Ok-Gone-clause-went
returns-in-Ok-Gone-clause-went g c t =
    let e = rw c.in-Ok-Gone.field-0-is at c.in-Ok-Gone.ensures in
    record { read = e.read t; only = c.read_phase.ensures.extends t; nowhere = λ conforming. e.exact t conforming }

pub returns-in-Ok-Gone-clause-ready : goal.returns-in-Ok-Gone-clause-ready
returns-in-Ok-Gone-clause-ready g c t = ready_looks c.args.pod (c.read_phase.ensures.known t)

pub returns-in-Err-clause-worked : goal.returns-in-Err-clause-worked
returns-in-Err-clause-worked g c = let r = c.read_phase.ensures in worked_read c.args.pod c.args.now (g.D.Dir.shown c.args.dir.now) (g.D.Dir.shown c.read_phase.new.dir) r.same r.faults r.local r.extends

pub returns-in-Err-clause-cause : goal.returns-in-Err-clause-cause
returns-in-Err-clause-cause g c =
    let D = g.D.Dir in
    subst (λ (x : RemoveError). RoundCause D.observed c.args.pod x (D.shown c.args.dir.now) (D.shown c.read_phase.new.dir)) (sym (c.refusal.ensures ∙ ap (λ (x : Setback). remove_error_of c.args.pod x) c.look_setback.ensures))
    (cause_failed c.args.pod c.in-Err.error (λ is. c.read_phase.ensures.cause (c.in-Err.is ∙ ap Err is)))

pub returns-in-Err-clause-by_other_process : goal.returns-in-Err-clause-by_other_process
returns-in-Err-clause-by_other_process g c t s k m =
    let D = g.D.Dir in
    let old = D.shown c.args.dir.now in
    let new = D.shown c.read_phase.new.dir in
    subst (λ (e : RemoveError). RemovalRefusedByAnother c.args.pod e old new) (sym (c.refusal.ensures ∙ ap (λ (x : Setback). remove_error_of c.args.pod x) c.look_setback.ensures)) (look_alone c.args.pod c.in-Err.error old new)

pub returns-in-Err-clause-ready : goal.returns-in-Err-clause-ready
returns-in-Err-clause-ready g c t = ready_looks c.args.pod (c.read_phase.ensures.known t)

pub returns-then-is_removable-clause-round : goal.returns-then-is_removable-clause-round
returns-then-is_removable-clause-round g c =
    let D = g.D.Dir in
    let r = c.read_phase.ensures in
    let e = rw c.in-Ok-At.field-0-is at c.in-Ok-At.ensures in
    let old = D.shown c.args.dir.now in
    let mid = D.shown c.read_phase.new.dir in
    let new = D.shown c.remove_found.new.dir in
    subst (λ (x : Result Round RemoveError). IfOk x (λ y. D.observed ≡ true → RoundWent c.args.pod y old new)) (sym c.round_of.ensures)
    (round_went c.args.pod c.in-Ok-At.phase c.in-Ok-At.field-0-1 old mid new r.same (sym c.is_removable.ensures ∙ c.if-is_removable.true) (λ t. e.read t) (λ t. r.extends t) c.remove_found.result c.remove_found.ensures.taken c.remove_found.ensures.missed)

pub returns-then-is_removable-clause-refused : goal.returns-then-is_removable-clause-refused
returns-then-is_removable-clause-refused g c =
    let D = g.D.Dir in
    let r = c.read_phase.ensures in
    let e = rw c.in-Ok-At.field-0-is at c.in-Ok-At.ensures in
    let old = D.shown c.args.dir.now in
    let mid = D.shown c.read_phase.new.dir in
    let new = D.shown c.remove_found.new.dir in
    subst (λ (x : Result Round RemoveError). IfErr x (λ y. D.observed ≡ true → Given (MayRemovePod c.args.pod c.args.now) old (λ s. RoundRefused c.args.pod y old new))) (sym c.round_of.ensures)
    (round_refused c.args.pod c.in-Ok-At.phase c.in-Ok-At.field-0-1 old mid new r.same (sym c.is_removable.ensures ∙ c.if-is_removable.true) (λ t. e.read t) (λ t. r.extends t) c.args.now r.known c.remove_found.result c.remove_found.ensures.refused)

pub returns-else-is_removable-clause-refused : goal.returns-else-is_removable-clause-refused
returns-else-is_removable-clause-refused g c t s k m which is = cc

pub returns-in-Err-clause-refused : goal.returns-in-Err-clause-refused
returns-in-Err-clause-refused g c t s k m =
    let D = g.D.Dir in
    let old = D.shown c.args.dir.now in
    let new = D.shown c.read_phase.new.dir in
    subst (λ (e : RemoveError). RoundRefused c.args.pod e old new) (sym (c.refusal.ensures ∙ ap (λ (x : Setback). remove_error_of c.args.pod x) c.look_setback.ensures)) (look_unrefused c.args.pod c.in-Err.error old new)

pub returns-then-is_removable-clause-reads : goal.returns-then-is_removable-clause-reads
returns-then-is_removable-clause-reads g c = reads_more 1 (omega arith) c.read_phase.ensures.reads c.read_phase.ensures.same c.remove_found.ensures.reads

pub returns-then-is_removable-clause-kept : goal.returns-then-is_removable-clause-kept
returns-then-is_removable-clause-kept g c =
    let D = g.D.Dir in
    let old = D.shown c.args.dir.now in
    let mid = D.shown c.read_phase.new.dir in
    let new = D.shown c.remove_found.new.dir in
    subst (λ (x : Result Round RemoveError). IfErr x (λ y. D.observed ≡ true → KeepsFolders old new)) (sym c.round_of.ensures)
    (kept_round c.args.pod old mid new (λ t. c.read_phase.ensures.extends t) c.read_phase.ensures.same c.remove_found.result c.remove_found.ensures.kept)

pub returns-else-is_removable-clause-kept : goal.returns-else-is_removable-clause-kept
returns-else-is_removable-clause-kept g c t =
    kept_read c.args.pod (c.read_phase.ensures.extends t)

pub returns-in-Err-clause-kept : goal.returns-in-Err-clause-kept
returns-in-Err-clause-kept g c t =
    kept_read c.args.pod (c.read_phase.ensures.extends t)

pub returns-then-is_removable-clause-lawful : goal.returns-then-is_removable-clause-lawful
returns-then-is_removable-clause-lawful g c =
    let D = g.D.Dir in
    let r = c.read_phase.ensures in
    let old = D.shown c.args.dir.now in
    let mid = D.shown c.read_phase.new.dir in
    let new = D.shown c.remove_found.new.dir in
    subst (λ (x : Result Round RemoveError). IfErr x (λ y. RoundByApp D.observed c.args.pod c.args.now y old new)) (sym c.round_of.ensures)
    (round_by_app old mid new c.args.pod c.args.now (follows_work (worked_read c.args.pod c.args.now old mid r.same r.faults r.local r.extends)) r.known c.remove_found.result c.remove_found.ensures.lawful)

pub returns-else-is_removable-clause-lawful : goal.returns-else-is_removable-clause-lawful
returns-else-is_removable-clause-lawful g c is = cc

pub returns-in-Err-clause-lawful : goal.returns-in-Err-clause-lawful
returns-in-Err-clause-lawful g c =
    let D = g.D.Dir in
    subst (λ (x : RemoveError). RoundByApp D.observed c.args.pod c.args.now x (D.shown c.args.dir.now) (D.shown c.read_phase.new.dir)) (sym (c.refusal.ensures ∙ ap (λ (x : Setback). remove_error_of c.args.pod x) c.look_setback.ensures))
    (look_by_app (D.shown c.args.dir.now) (D.shown c.read_phase.new.dir) c.args.pod c.args.now c.in-Err.error)
