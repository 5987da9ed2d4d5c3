use Rattle.std.proofs.Common.{[], append-nil, ◌+◌, ◌≡◌, rules, false, true, ℕ, sym, subst, ◌∙◌, arith}
use Rattle.plain_laws.proofs.Results.{if_err, err_same}
use Rattle.dir_model.specs.Local.{Local, IsActive, has_own_open}
use Rattle.dir_model.specs.Pods.{pod_text}
use Rattle.folder_building.proofs.Working.{worked_none, worked_more}
use Rattle.pod_locks.proofs.Calls.{follows_work}
use Rattle.pod_locks.proofs.Traces.{grown_none}
use Rattle.pod_gc.specs.declared.attempt.Round.{Round}
use Rattle.pod_gc.specs.declared.attempt.Round.TheVariants as round
use Rattle.pod_gc.specs.RemovalHolding.{MayRemovePod}
use Rattle.pod_gc.specs.Removals.{MissedTimes, WentRound, RoundCause, LaterCause, RemovalRefusedByAnother}
use Rattle.pod_gc.proofs.Rounds.{missed_next, ended_at, cause_later, cause_last, refused_later, ready_here, ready_more}
use Rattle.phase_read.proofs.Often.{reads_more, reads_within}
use Rattle.pod_gc.proofs.Unread.{unread_here}
use Rattle.folder_removal.specs.Removal.{KeepsFolders}
use Rattle.folder_removal.proofs.Keeping.{kept_more}
use Rattle.pod_gc.proofs.Unread.{kept_missed}
use Rattle.pod_gc.specs.Found.{RoundWent}
use Rattle.pod_gc.specs.Removals.{RoundByApp, LaterByApp}
use Rattle.pod_gc.proofs.RemovalLawful.{later_by_app, missed_by_app}
use Rattle.pod_gc.proofs.removal.remove_later.Goals as goal
use Rattle.dir_trait.specs.Effects.{Given}

pub rounds-init : goal.rounds-init
rounds-init g c = record { worked = worked_none; missed = λ t. grown_none; reads = unread_here c.args.pod (g.D.Dir.shown c.args.dir.now); kept = λ t. record { more = []; grown = sym (append-nil (g.D.Dir.shown c.args.dir.now).trace); kept = tt }; ready = λ t. ready_here }

pub attempt-requires-clause-active : goal.attempt-requires-clause-active
attempt-requires-clause-active g c = subst IsActive (sym c.rounds.invariant.worked.local) c.requires.active

pub attempt-requires-clause-alone : goal.attempt-requires-clause-alone
attempt-requires-clause-alone g c = subst (λ (m : Local). has_own_open m (pod_text c.args.pod.bytes) ≡ false) (sym c.rounds.invariant.worked.local) c.requires.alone

pub returns-in_err-attempt-clause-worked : goal.returns-in_err-attempt-clause-worked
returns-in_err-attempt-clause-worked g c = worked_more c.rounds.invariant.worked c.attempt.ensures.worked

pub returns-in_err-attempt-clause-cause : goal.returns-in_err-attempt-clause-cause
returns-in_err-attempt-clause-cause g c =
    let D = g.D.Dir in
    let old = D.shown c.args.dir.now in
    let mid = D.shown c.rounds.dir in
    let new = D.shown c.attempt.new.dir in
    err_same (λ e. LaterCause D.observed c.args.pod e old new) c.attempt.result c.from_residual.result
    (λ e h. search (rules, h, c.from_residual.ensures, c.in_err-attempt.is))
    (if_err (λ e. RoundCause D.observed c.args.pod e mid new) (λ e. LaterCause D.observed c.args.pod e old new) c.attempt.result (λ e x. cause_later (follows_work c.rounds.invariant.worked) x) c.attempt.ensures.cause)

pub returns-in_err-attempt-clause-by_other_process : goal.returns-in_err-attempt-clause-by_other_process
returns-in_err-attempt-clause-by_other_process g c =
    let D = g.D.Dir in
    let old = D.shown c.args.dir.now in
    let mid = D.shown c.rounds.dir in
    let new = D.shown c.attempt.new.dir in
    err_same (λ e. D.observed ≡ true → Given (MayRemovePod c.args.pod c.args.now) old (λ s. RemovalRefusedByAnother c.args.pod e old new)) c.attempt.result c.from_residual.result
    (λ e h. search (rules, h, c.from_residual.ensures, c.in_err-attempt.is))
    (if_err (λ e. D.observed ≡ true → Given (MayRemovePod c.args.pod c.args.now) mid (λ s. RemovalRefusedByAnother c.args.pod e mid new)) (λ e. D.observed ≡ true → Given (MayRemovePod c.args.pod c.args.now) old (λ s. RemovalRefusedByAnother c.args.pod e old new)) c.attempt.result
    (λ e busy t. refused_later e new t (follows_work c.rounds.invariant.worked) (c.rounds.invariant.ready t) (busy t)) c.attempt.ensures.by_other_process)

pub returns-in_err-attempt-clause-ready : goal.returns-in_err-attempt-clause-ready
returns-in_err-attempt-clause-ready g c t = ready_more (c.rounds.invariant.ready t) (c.attempt.ensures.ready t)

pub returns-in-Gone-clause-worked : goal.returns-in-Gone-clause-worked
returns-in-Gone-clause-worked g c = worked_more c.rounds.invariant.worked c.attempt.ensures.worked

pub returns-in-Gone-clause-removed : goal.returns-in-Gone-clause-removed
returns-in-Gone-clause-removed g c t =
    ended_at c.args.pod (g.D.Dir.shown c.attempt.new.dir) c.in_ok-attempt.field-0 t (follows_work c.rounds.invariant.worked)
    (λ m. let e : round.Gone ≡ round.Missed = sym c.in-Gone.is ∙ m in cc) (c.in_ok-attempt.ensures.went t)

pub returns-in-Gone-clause-ready : goal.returns-in-Gone-clause-ready
returns-in-Gone-clause-ready g c t = ready_more (c.rounds.invariant.ready t) (c.attempt.ensures.ready t)

pub returns-in-Removed-clause-worked : goal.returns-in-Removed-clause-worked
returns-in-Removed-clause-worked g c = worked_more c.rounds.invariant.worked c.attempt.ensures.worked

pub returns-in-Removed-clause-removed : goal.returns-in-Removed-clause-removed
returns-in-Removed-clause-removed g c t =
    ended_at c.args.pod (g.D.Dir.shown c.attempt.new.dir) c.in_ok-attempt.field-0 t (follows_work c.rounds.invariant.worked)
    (λ m. let e : round.Removed ≡ round.Missed = sym c.in-Removed.is ∙ m in cc) (c.in_ok-attempt.ensures.went t)

pub returns-in-Removed-clause-ready : goal.returns-in-Removed-clause-ready
returns-in-Removed-clause-ready g c t = ready_more (c.rounds.invariant.ready t) (c.attempt.ensures.ready t)

pub rounds-preserved : goal.rounds-preserved
rounds-preserved g c =
    let D = g.D.Dir in
    let old = D.shown c.args.dir.now in
    let mid = D.shown c.rounds.dir in
    let new = D.shown c.attempt.new.dir in
    let so_far = c.rounds.invariant in
    record {
      worked = worked_more so_far.worked c.attempt.ensures.worked;
      missed = λ t. missed_next c.args.pod old.trace mid.trace new.trace c.rounds._round (so_far.missed t) so_far.worked.same
          (subst (λ (x : Round). WentRound c.args.pod x mid new) c.in-Missed.is (c.in_ok-attempt.ensures.went t));
      reads = reads_more (c.rounds._round + 1) (omega arith) so_far.reads so_far.worked.same c.attempt.ensures.reads;
      kept = λ t. kept_more (so_far.kept t) so_far.worked.same (kept_missed c.args.pod (subst (λ (x : Round). RoundWent c.args.pod x mid new) c.in-Missed.is (c.in_ok-attempt.ensures.round t)));
      ready = λ t. ready_more (so_far.ready t) (c.attempt.ensures.ready t);
    }

pub returns-clause-worked : goal.returns-clause-worked
returns-clause-worked g c = c.rounds.invariant.worked

pub returns-clause-cause : goal.returns-clause-cause
returns-clause-cause g c =
    let D = g.D.Dir in
    let old = D.shown c.args.dir.now in
    let new = D.shown c.rounds.dir in
    let five : c.rounds._round ≡ 5 = omega (arith, c.rounds-test.false, c.rounds.auto._round-end) in
    cause_last (λ t. subst (λ (n : ℕ). MissedTimes n c.args.pod old.process old.trace new.trace) five (c.rounds.invariant.missed t))

pub returns-clause-ready : goal.returns-clause-ready
returns-clause-ready g c t = c.rounds.invariant.ready t

pub returns-in_err-attempt-clause-reads : goal.returns-in_err-attempt-clause-reads
returns-in_err-attempt-clause-reads g c = reads_more 5 (omega (arith, c.rounds-test.true)) c.rounds.invariant.reads c.rounds.invariant.worked.same c.attempt.ensures.reads

pub returns-in-Gone-clause-reads : goal.returns-in-Gone-clause-reads
returns-in-Gone-clause-reads g c = reads_more 5 (omega (arith, c.rounds-test.true)) c.rounds.invariant.reads c.rounds.invariant.worked.same c.attempt.ensures.reads

pub returns-in-Removed-clause-reads : goal.returns-in-Removed-clause-reads
returns-in-Removed-clause-reads g c = reads_more 5 (omega (arith, c.rounds-test.true)) c.rounds.invariant.reads c.rounds.invariant.worked.same c.attempt.ensures.reads

pub returns-clause-reads : goal.returns-clause-reads
returns-clause-reads g c = reads_within 5 (omega (arith, c.rounds.auto._round-end)) c.rounds.invariant.reads

pub returns-in_err-attempt-clause-kept : goal.returns-in_err-attempt-clause-kept
returns-in_err-attempt-clause-kept g c =
    let D = g.D.Dir in
    err_same (λ e. D.observed ≡ true → KeepsFolders (D.shown c.args.dir.now) (D.shown c.attempt.new.dir)) c.attempt.result c.from_residual.result (λ e h. search (rules, h, c.from_residual.ensures, c.in_err-attempt.is))
    (if_err (λ e. D.observed ≡ true → KeepsFolders (D.shown c.rounds.dir) (D.shown c.attempt.new.dir)) (λ e. D.observed ≡ true → KeepsFolders (D.shown c.args.dir.now) (D.shown c.attempt.new.dir)) c.attempt.result
    (λ e kept t. kept_more (c.rounds.invariant.kept t) c.rounds.invariant.worked.same (kept t)) c.attempt.ensures.kept)

pub returns-clause-kept : goal.returns-clause-kept
returns-clause-kept g c t =
    c.rounds.invariant.kept t

pub returns-in_err-attempt-clause-lawful : goal.returns-in_err-attempt-clause-lawful
returns-in_err-attempt-clause-lawful g c =
    let D = g.D.Dir in
    let old = D.shown c.args.dir.now in
    let mid = D.shown c.rounds.dir in
    let new = D.shown c.attempt.new.dir in
    err_same (λ e. LaterByApp D.observed c.args.pod c.args.now e old new) c.attempt.result c.from_residual.result (λ e h. search (rules, h, c.from_residual.ensures, c.in_err-attempt.is))
    (if_err (λ e. RoundByApp D.observed c.args.pod c.args.now e mid new) (λ e. LaterByApp D.observed c.args.pod c.args.now e old new) c.attempt.result
    (λ e x. later_by_app old mid new (follows_work c.rounds.invariant.worked) c.rounds.invariant.ready x) c.attempt.ensures.lawful)

pub returns-clause-lawful : goal.returns-clause-lawful
returns-clause-lawful g c =
    let D = g.D.Dir in
    let old = D.shown c.args.dir.now in
    let new = D.shown c.rounds.dir in
    let five : c.rounds._round ≡ 5 = omega (arith, c.rounds-test.false, c.rounds.auto._round-end) in
    missed_by_app old new (λ t. subst (λ (n : ℕ). MissedTimes n c.args.pod old.process old.trace new.trace) five (c.rounds.invariant.missed t))
