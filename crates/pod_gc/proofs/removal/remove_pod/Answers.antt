use Rattle.std.proofs.Common.{◌≡◌, rules, true, subst, arith}
use Rattle.plain_laws.proofs.Results.{if_ok, if_err, err_same, err_all, ok_all}
use Rattle.folder_building.proofs.Working.{worked_more}
use Rattle.pod_locks.proofs.Calls.{follows_work}
use Rattle.pod_gc.specs.declared.attempt.Round.{Round}
use Rattle.pod_gc.specs.RemovalHolding.{MayRemovePod}
use Rattle.pod_gc.specs.Removals.{RoundCause, LaterCause, PodRemovalCause, WentRound, RemovedLater, RemovedBetween, RemovalRefusedByAnother}
use Rattle.pod_gc.proofs.Rounds.{cause_first, cause_then, removed_then, refused_later, ready_more}
use Rattle.pod_gc.proofs.Hindrances.{never_gone, refused_so}
use Rattle.pod_gc.specs.Found.{RoundWent, RoundRefused, RemovedFirst, RefusedFirst}
use Rattle.pod_gc.proofs.Finding.{removed_later, removed_once, refused_then, refused_once}
use Rattle.phase_read.proofs.Often.{reads_more, reads_within}
use Rattle.folder_removal.specs.Removal.{KeepsFolders}
use Rattle.folder_removal.proofs.Keeping.{kept_more}
use Rattle.pod_gc.proofs.Unread.{kept_read, kept_missed}
use Rattle.pod_gc.specs.Removals.{RoundByApp}
use Rattle.pod_gc.proofs.RemovalLawful.{removed_by_app, removed_later_by_app}
use Rattle.pod_gc.proofs.removal.remove_pod.Goals as goal
use Rattle.dir_trait.specs.Effects.{Given}

pub returns-in_err-attempt-clause-cause : goal.returns-in_err-attempt-clause-cause
returns-in_err-attempt-clause-cause g c =
    let D = g.D.Dir in
    let old = D.shown c.args.dir.now in
    let new = D.shown c.attempt.new.dir in
    err_same (λ e. PodRemovalCause D.observed c.args.pod e old new) c.attempt.result c.from_residual.result
    (λ e h. search (rules, h, c.from_residual.ensures, c.in_err-attempt.is))
    (if_err (λ e. RoundCause D.observed c.args.pod e old new) (λ e. PodRemovalCause D.observed c.args.pod e old new) c.attempt.result (λ e x. cause_first x) c.attempt.ensures.cause)

pub returns-in_err-attempt-clause-by_other_process : goal.returns-in_err-attempt-clause-by_other_process
returns-in_err-attempt-clause-by_other_process g c =
    let D = g.D.Dir in
    let old = D.shown c.args.dir.now in
    let new = D.shown c.attempt.new.dir in
    err_same (λ e. D.observed ≡ true → Given (MayRemovePod c.args.pod c.args.now) old (λ s. RemovalRefusedByAnother c.args.pod e old new)) c.attempt.result c.from_residual.result
    (λ e h. search (rules, h, c.from_residual.ensures, c.in_err-attempt.is)) c.attempt.ensures.by_other_process

pub returns-in-Missed-clause-worked : goal.returns-in-Missed-clause-worked
returns-in-Missed-clause-worked g c = worked_more c.attempt.ensures.worked c.remove_later.ensures.worked

pub returns-in-Missed-clause-cause : goal.returns-in-Missed-clause-cause
returns-in-Missed-clause-cause g c =
    let D = g.D.Dir in
    let old = D.shown c.args.dir.now in
    let mid = D.shown c.attempt.new.dir in
    let new = D.shown c.remove_later.new.dir in
    if_err (λ e. LaterCause D.observed c.args.pod e mid new) (λ e. PodRemovalCause D.observed c.args.pod e old new) c.remove_later.result
    (λ e x. cause_then (follows_work c.attempt.ensures.worked) (λ t. subst (λ (y : Round). WentRound c.args.pod y old mid) c.in-Missed.is (c.in_ok-attempt.ensures.went t)) x) c.remove_later.ensures.cause

pub returns-in-Missed-clause-removed : goal.returns-in-Missed-clause-removed
returns-in-Missed-clause-removed g c =
    let D = g.D.Dir in
    let old = D.shown c.args.dir.now in
    let mid = D.shown c.attempt.new.dir in
    let new = D.shown c.remove_later.new.dir in
    if_ok (λ done. D.observed ≡ true → RemovedLater c.args.pod mid new) (λ done. D.observed ≡ true → RemovedBetween c.args.pod old new) c.remove_later.result
    (λ done x t. removed_then (follows_work c.attempt.ensures.worked) (λ u. subst (λ (y : Round). WentRound c.args.pod y old mid) c.in-Missed.is (c.in_ok-attempt.ensures.went u)) new t (x t)) c.remove_later.ensures.removed

pub returns-in-Missed-clause-by_other_process : goal.returns-in-Missed-clause-by_other_process
returns-in-Missed-clause-by_other_process g c =
    let D = g.D.Dir in
    let old = D.shown c.args.dir.now in
    let mid = D.shown c.attempt.new.dir in
    let new = D.shown c.remove_later.new.dir in
    if_err (λ e. D.observed ≡ true → Given (MayRemovePod c.args.pod c.args.now) mid (λ s. RemovalRefusedByAnother c.args.pod e mid new)) (λ e. D.observed ≡ true → Given (MayRemovePod c.args.pod c.args.now) old (λ s. RemovalRefusedByAnother c.args.pod e old new)) c.remove_later.result
    (λ e busy t. refused_later e new t (follows_work c.attempt.ensures.worked) (c.attempt.ensures.ready t) (busy t)) c.remove_later.ensures.by_other_process

pub returns-in-Missed-clause-ready : goal.returns-in-Missed-clause-ready
returns-in-Missed-clause-ready g c t = ready_more (c.attempt.ensures.ready t) (c.remove_later.ensures.ready t)

pub returns-in_err-attempt-clause-complete : goal.returns-in_err-attempt-clause-complete
returns-in_err-attempt-clause-complete g c =
    let D = g.D.Dir in
    refused_so D.observed c.args.pod c.args.now (D.shown c.args.dir.now) (D.shown c.attempt.new.dir) c.from_residual.result (returns-in_err-attempt-clause-cause g c) (returns-in_err-attempt-clause-by_other_process g c)

pub returns-in-Gone-clause-complete : goal.returns-in-Gone-clause-complete
returns-in-Gone-clause-complete g c t s k m conforming free =
    let D = g.D.Dir in
    let old = D.shown c.args.dir.now in
    let new = D.shown c.attempt.new.dir in
    let none = subst (λ (y : Round). WentRound c.args.pod y old new) c.in-Gone.is (c.in_ok-attempt.ensures.went t) in
    absurd (never_gone c.args.pod old.process old.trace new.trace free (none.nowhere conforming))

pub returns-in-Missed-clause-complete : goal.returns-in-Missed-clause-complete
returns-in-Missed-clause-complete g c =
    let D = g.D.Dir in
    refused_so D.observed c.args.pod c.args.now (D.shown c.args.dir.now) (D.shown c.remove_later.new.dir) c.remove_later.result (returns-in-Missed-clause-cause g c) (returns-in-Missed-clause-by_other_process g c)

pub returns-in_err-attempt-clause-refused : goal.returns-in_err-attempt-clause-refused
returns-in_err-attempt-clause-refused g c =
    let D = g.D.Dir in
    let old = D.shown c.args.dir.now in
    let new = D.shown c.attempt.new.dir in
    err_same (λ e. D.observed ≡ true → Given (MayRemovePod c.args.pod c.args.now) old (λ s. RefusedFirst c.args.pod e old new)) c.attempt.result c.from_residual.result
    (λ e h. search (rules, h, c.from_residual.ensures, c.in_err-attempt.is))
    (if_err (λ e. D.observed ≡ true → Given (MayRemovePod c.args.pod c.args.now) old (λ s. RoundRefused c.args.pod e old new)) (λ e. D.observed ≡ true → Given (MayRemovePod c.args.pod c.args.now) old (λ s. RefusedFirst c.args.pod e old new)) c.attempt.result
    (λ e busy t s k m. refused_once old new e (busy t s k m)) c.attempt.ensures.refused)

pub returns-in-Gone-clause-refused : goal.returns-in-Gone-clause-refused
returns-in-Gone-clause-refused g c t s k m which is = cc

pub returns-in-Removed-clause-first : goal.returns-in-Removed-clause-first
returns-in-Removed-clause-first g c t =
    let D = g.D.Dir in
    let old = D.shown c.args.dir.now in
    let new = D.shown c.attempt.new.dir in
    removed_once old new (subst (λ (y : Round). RoundWent c.args.pod y old new) c.in-Removed.is (c.in_ok-attempt.ensures.round t))

pub returns-in-Missed-clause-first : goal.returns-in-Missed-clause-first
returns-in-Missed-clause-first g c =
    let D = g.D.Dir in
    let old = D.shown c.args.dir.now in
    let mid = D.shown c.attempt.new.dir in
    let new = D.shown c.remove_later.new.dir in
    ok_all (λ done. D.observed ≡ true → RemovedFirst c.args.pod old new) c.remove_later.result
    (λ done t. removed_later old mid new ((follows_work c.remove_later.ensures.worked).grown t) (subst (λ (y : Round). RoundWent c.args.pod y old mid) c.in-Missed.is (c.in_ok-attempt.ensures.round t)))

pub returns-in-Missed-clause-refused : goal.returns-in-Missed-clause-refused
returns-in-Missed-clause-refused g c =
    let D = g.D.Dir in
    let old = D.shown c.args.dir.now in
    let mid = D.shown c.attempt.new.dir in
    let new = D.shown c.remove_later.new.dir in
    err_all (λ e. D.observed ≡ true → Given (MayRemovePod c.args.pod c.args.now) old (λ s. RefusedFirst c.args.pod e old new)) c.remove_later.result
    (λ e t s k m. refused_then old mid new ((follows_work c.remove_later.ensures.worked).grown t) (subst (λ (y : Round). RoundWent c.args.pod y old mid) c.in-Missed.is (c.in_ok-attempt.ensures.round t)) e)

pub returns-in_err-attempt-clause-reads : goal.returns-in_err-attempt-clause-reads
returns-in_err-attempt-clause-reads g c = reads_within 6 (omega arith) c.attempt.ensures.reads

pub returns-in-Gone-clause-reads : goal.returns-in-Gone-clause-reads
returns-in-Gone-clause-reads g c = reads_within 6 (omega arith) c.attempt.ensures.reads

pub returns-in-Removed-clause-reads : goal.returns-in-Removed-clause-reads
returns-in-Removed-clause-reads g c = reads_within 6 (omega arith) c.attempt.ensures.reads

pub returns-in-Missed-clause-reads : goal.returns-in-Missed-clause-reads
returns-in-Missed-clause-reads g c = reads_more 6 (omega arith) c.attempt.ensures.reads c.attempt.ensures.worked.same c.remove_later.ensures.reads

pub returns-in_err-attempt-clause-kept : goal.returns-in_err-attempt-clause-kept
returns-in_err-attempt-clause-kept g c =
    let D = g.D.Dir in
    err_same (λ e. D.observed ≡ true → KeepsFolders (D.shown c.args.dir.now) (D.shown c.attempt.new.dir)) c.attempt.result c.from_residual.result (λ e h. search (rules, h, c.from_residual.ensures, c.in_err-attempt.is)) c.attempt.ensures.kept

pub returns-in-Gone-clause-kept : goal.returns-in-Gone-clause-kept
returns-in-Gone-clause-kept g c t =
    let D = g.D.Dir in
    let old = D.shown c.args.dir.now in
    let new = D.shown c.attempt.new.dir in
    kept_read c.args.pod (subst (λ (y : Round). WentRound c.args.pod y old new) c.in-Gone.is (c.in_ok-attempt.ensures.went t)).only

pub returns-in-Missed-clause-kept : goal.returns-in-Missed-clause-kept
returns-in-Missed-clause-kept g c =
    let D = g.D.Dir in
    let old = D.shown c.args.dir.now in
    let mid = D.shown c.attempt.new.dir in
    if_err (λ e. D.observed ≡ true → KeepsFolders (D.shown c.attempt.new.dir) (D.shown c.remove_later.new.dir)) (λ e. D.observed ≡ true → KeepsFolders (D.shown c.args.dir.now) (D.shown c.remove_later.new.dir)) c.remove_later.result
    (λ e kept t. kept_more (kept_missed c.args.pod (subst (λ (y : Round). RoundWent c.args.pod y old mid) c.in-Missed.is (c.in_ok-attempt.ensures.round t))) c.attempt.ensures.worked.same (kept t)) c.remove_later.ensures.kept

pub returns-in_err-attempt-clause-lawful : goal.returns-in_err-attempt-clause-lawful
returns-in_err-attempt-clause-lawful g c =
    let D = g.D.Dir in
    removed_by_app (D.shown c.args.dir.now) (D.shown c.attempt.new.dir) c.from_residual.result
    (err_same (λ e. RoundByApp D.observed c.args.pod c.args.now e (D.shown c.args.dir.now) (D.shown c.attempt.new.dir)) c.attempt.result c.from_residual.result
    (λ e h. search (rules, h, c.from_residual.ensures, c.in_err-attempt.is)) c.attempt.ensures.lawful)

pub returns-in-Missed-clause-lawful : goal.returns-in-Missed-clause-lawful
returns-in-Missed-clause-lawful g c =
    let D = g.D.Dir in
    let old = D.shown c.args.dir.now in
    let mid = D.shown c.attempt.new.dir in
    removed_later_by_app old mid (D.shown c.remove_later.new.dir) (follows_work c.attempt.ensures.worked) c.attempt.ensures.ready (λ t. subst (λ (y : Round). WentRound c.args.pod y old mid) c.in-Missed.is (c.in_ok-attempt.ensures.went t)) c.remove_later.result c.remove_later.ensures.lawful
