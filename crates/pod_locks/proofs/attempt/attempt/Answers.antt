use Rattle.std.proofs.Common.{◌≡◌, true, arith, ap, subst}
use Rattle.plain_laws.proofs.Results.{if_ok, if_err}
use Rattle.dir_model.specs.declared.spot.Handle.{Handle}
use Rattle.dir_model.specs.declared.spot.Which.TheVariants.{Own}
use Rattle.dir_model.specs.Local.{Local, IsUnopened}
use Rattle.dir_trait.specs.Knowledge.{Knows, LookedInto}
use Rattle.pod_locks.specs.declared.claim_setback.Setback.{Setback}
use Rattle.pod_locks.specs.ClaimHolding.{MayClaim, and_locked, with_pod}
use Rattle.pod_locks.specs.Work.{WhereObservedKnew, TookBoth}
use Rattle.pod_locks.specs.ClaimCauses.{ClaimWasStopped, IsNotInPrepared, SetBack, BusyInTurn, HadBothAlone}
use Rattle.pod_locks.proofs.Times.{both_had}
use Rattle.pod_locks.proofs.Traces.{grown_by, grown_none}
use Rattle.pod_locks.specs.Claims.{HasPod}
use Rattle.pod_locks.proofs.Parts.{went_as, went_wider, went_more}
use Rattle.pod_locks.proofs.Reading.{set_back_after, took_after, another_after, held_after, left_after, refused_first}
use Rattle.pod_locks.specs.Elsewhere.{MetOwnerThen}
use Rattle.pod_locks.proofs.Elsewhere.{met_never, met_first}
use Rattle.phase_read.proofs.Often.{reads_more}
use Rattle.pod_locks.proofs.attempt.attempt.Goals as goal

pub returns-in-Ok-clause-went : goal.returns-in-Ok-clause-went
returns-in-Ok-clause-went g c =
    went_as (ap (λ (m : Local). and_locked m c.args.pod Own c.take_and_run.result) c.find_prepared.ensures.went.local_is)
    (went_more c.find_prepared.ensures.went c.take_and_run.ensures.went)

pub returns-in-Ok-clause-unopened : goal.returns-in-Ok-clause-unopened
returns-in-Ok-clause-unopened g c =
    let D = g.D.Dir in
    if_ok (λ (own : Handle). IsUnopened (D.shown c.find_prepared.new.dir).local own) (λ (own : Handle). IsUnopened (D.shown c.args.dir.now).local own) c.take_and_run.result
    (λ own f. subst (λ (m : Local). IsUnopened m own) c.find_prepared.ensures.went.local_is f) c.take_and_run.ensures.unopened

pub returns-in-Ok-clause-order : goal.returns-in-Ok-clause-order
returns-in-Ok-clause-order g c =
    let D = g.D.Dir in
    let a = D.shown c.args.dir.now in
    let b = D.shown c.find_prepared.new.dir in
    let d = D.shown c.take_and_run.new.dir in
    if_ok (λ (own : Handle). D.observed ≡ true → TookBoth c.args.pod own b.process b.trace d.trace) (λ (own : Handle). D.observed ≡ true → TookBoth c.args.pod own a.process a.trace d.trace) c.take_and_run.result
    (λ own f t. took_after c.find_prepared.ensures.went c.find_prepared.ensures.moves_nothing c.in-Ok.ensures.found d t (f t)) c.take_and_run.ensures.order

pub returns-in-Ok-clause-set_back : goal.returns-in-Ok-clause-set_back
returns-in-Ok-clause-set_back g c =
    let D = g.D.Dir in
    let a = D.shown c.args.dir.now in
    let b = D.shown c.find_prepared.new.dir in
    let d = D.shown c.take_and_run.new.dir in
    if_err (λ (e : Setback). ClaimWasStopped D.observed c.args.pod (IsNotInPrepared c.args.pod) e b d) (λ (e : Setback). SetBack D.observed c.args.pod e a d) c.take_and_run.result
    (λ e f. set_back_after c.find_prepared.ensures.went c.find_prepared.ensures.moves_nothing c.in-Ok.ensures.found e f) c.take_and_run.ensures.stopped

pub returns-in-Ok-clause-by_other_process : goal.returns-in-Ok-clause-by_other_process
returns-in-Ok-clause-by_other_process g c =
    let D = g.D.Dir in
    let a = D.shown c.args.dir.now in
    let b = D.shown c.find_prepared.new.dir in
    let d = D.shown c.take_and_run.new.dir in
    if_err (λ (e : Setback). WhereObservedKnew D.observed MayClaim b (λ s. BusyInTurn c.args.pod e b d)) (λ (e : Setback). WhereObservedKnew D.observed MayClaim a (λ s. BusyInTurn c.args.pod e a d)) c.take_and_run.result
    (λ e f. another_after c.find_prepared.ensures.went c.find_prepared.ensures.moves_nothing c.in-Ok.ensures.found c.find_prepared.ensures.known d e f) c.take_and_run.ensures.by_other_process

pub returns-in-Ok-clause-held : goal.returns-in-Ok-clause-held
returns-in-Ok-clause-held g c =
    let D = g.D.Dir in
    let a = D.shown c.args.dir.now in
    let b = D.shown c.find_prepared.new.dir in
    let d = D.shown c.take_and_run.new.dir in
    if_ok (λ (own : Handle). WhereObservedKnew D.observed MayClaim b (λ s. Knows d (with_pod c.args.pod own s))) (λ (own : Handle). WhereObservedKnew D.observed MayClaim a (λ s. HasPod c.args.pod own s d)) c.take_and_run.result
    (λ own f. held_after c.find_prepared.ensures.went c.find_prepared.ensures.moves_nothing c.in-Ok.ensures.found c.find_prepared.ensures.known d own f) c.take_and_run.ensures.held

pub returns-in-Ok-clause-left : goal.returns-in-Ok-clause-left
returns-in-Ok-clause-left g c =
    let D = g.D.Dir in
    let a = D.shown c.args.dir.now in
    let b = D.shown c.find_prepared.new.dir in
    let d = D.shown c.take_and_run.new.dir in
    if_err (λ (e : Setback). WhereObservedKnew D.observed MayClaim b (λ s. LookedInto s d)) (λ (e : Setback). WhereObservedKnew D.observed MayClaim a (λ s. LookedInto s d)) c.take_and_run.result
    (λ e f. left_after c.find_prepared.ensures.went c.find_prepared.ensures.moves_nothing c.in-Ok.ensures.found c.find_prepared.ensures.known d f) c.take_and_run.ensures.left

pub returns-in-Err-clause-went : goal.returns-in-Err-clause-went
returns-in-Err-clause-went g c = went_wider (omega arith) c.find_prepared.ensures.went

pub returns-in-Err-clause-set_back : goal.returns-in-Err-clause-set_back
returns-in-Err-clause-set_back g c = refused_first c.find_prepared.ensures.moves_nothing c.in-Err.ensures.cause

pub returns-in-Err-clause-by_other_process : goal.returns-in-Err-clause-by_other_process
returns-in-Err-clause-by_other_process g c t s may k which is = absurd (c.in-Err.ensures.never_busy which cc)

pub returns-in-Err-clause-left : goal.returns-in-Err-clause-left
returns-in-Err-clause-left g c t s may k = c.find_prepared.ensures.known t s k

pub returns-in-Ok-clause-owned_elsewhere : goal.returns-in-Ok-clause-owned_elsewhere
returns-in-Ok-clause-owned_elsewhere g c =
    let D = g.D.Dir in
    let a = D.shown c.args.dir.now in
    let b = D.shown c.find_prepared.new.dir in
    let d = D.shown c.take_and_run.new.dir in
    if_err (λ (e : Setback). ClaimWasStopped D.observed c.args.pod (IsNotInPrepared c.args.pod) e b d) (λ (e : Setback). WhereObservedKnew D.observed MayClaim a (λ s. MetOwnerThen c.args.pod e a d)) c.take_and_run.result
    (λ e f. met_never a e f) c.take_and_run.ensures.stopped

pub returns-in-Err-clause-owned_elsewhere : goal.returns-in-Err-clause-owned_elsewhere
returns-in-Err-clause-owned_elsewhere g c = met_first c.args.pod (g.D.Dir.shown c.args.dir.now) (g.D.Dir.shown c.find_prepared.new.dir) c.in-Err.error c.in-Err.ensures.owned_elsewhere

pub returns-in-Ok-clause-reads : goal.returns-in-Ok-clause-reads
returns-in-Ok-clause-reads g c = reads_more 1 (omega arith) c.find_prepared.ensures.reads c.find_prepared.ensures.went.same c.take_and_run.ensures.reads

pub returns-in-Ok-clause-alone : goal.returns-in-Ok-clause-alone
returns-in-Ok-clause-alone g c =
    let D = g.D.Dir in
    let a = D.shown c.args.dir.now in
    let b = D.shown c.find_prepared.new.dir in
    let d = D.shown c.take_and_run.new.dir in
    if_ok (λ (own : Handle). D.observed ≡ true → HadBothAlone c.args.pod b.process b.trace d.trace) (λ (own : Handle). D.observed ≡ true → HadBothAlone c.args.pod a.process a.trace d.trace) c.take_and_run.result
    (λ own f t. both_had (grown_by (c.find_prepared.ensures.went.extends t)) c.find_prepared.ensures.went.same grown_none (f t)) c.take_and_run.ensures.alone
