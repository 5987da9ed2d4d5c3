use Rattle.std.proofs.Common.{◌≡◌, true, inl, inr, Err, sym, ap, subst, ◌∙◌}
use Rattle.dir_model.specs.declared.spot.Mode.TheVariants.{Exclusive}
use Rattle.dir_model.specs.declared.request.Request.TheVariants.{Open}
use Rattle.dir_model.specs.declared.spot.Spot.{Spot}
use Rattle.dir_model.specs.Local.{Local, IsUnlocked}
use Rattle.dir_model.specs.Replies.{may_refuse}
use Rattle.dir_model.specs.Locks.{target_of}
use Rattle.dir_model.proofs.Holdings.{unlocked_new}
use Rattle.dir_trait.proofs.Calls.{with_spot}
use Rattle.pod_locks.specs.declared.setback.Setback.{Setback}
use Rattle.pod_locks.specs.Causes.{StepWasStopped, CannotOpenAt}
use Rattle.pod_locks.proofs.Calls.{went_taken, went_tried, went_unopened, lock_stops, open_stops, stops_part, follows_call}
use Rattle.pod_locks.proofs.Knowing.{free_taken, busy_take, lock_named, never_busy, knows_taken, knows_untaken, knows_unlocked}
use Rattle.pod_locks.proofs.Lawful.{lock_never, open_never}
use Rattle.pod_locks.proofs.steps.take.Goals as goal

pub try_lock-requires-clause-unlocked : goal.try_lock-requires-clause-unlocked
try_lock-requires-clause-unlocked g c =
    subst (λ (m : Local). IsUnlocked m c.in-Ok.handle) (sym c.in-Ok.ensures.called.local)
    (unlocked_new (g.D.Dir.shown c.args.dir.now).local c.in-Ok.handle (target_of c.of_pod.result c.args.which) c.in-Ok.ensures.unopened)

pub returns-in-Ok-try_lock-clause-went : goal.returns-in-Ok-try_lock-clause-went
returns-in-Ok-try_lock-clause-went g c = went_taken c.args.pod c.args.area c.args.which c.in-Ok.ensures.unopened (with_spot (λ s. Open s c.args.which) c.of_pod.ensures c.in-Ok.ensures.called) c.in-Ok-try_lock.ensures.called

pub returns-in-Ok-try_lock-clause-held : goal.returns-in-Ok-try_lock-clause-held
returns-in-Ok-try_lock-clause-held g c = knows_taken c.args.pod c.args.area c.args.which c.in-Ok.ensures.unopened (with_spot (λ s. Open s c.args.which) c.of_pod.ensures c.in-Ok.ensures.called) c.in-Ok-try_lock.ensures.called

pub returns-in-Err-try_lock-clause-went : goal.returns-in-Err-try_lock-clause-went
returns-in-Err-try_lock-clause-went g c =
    went_tried c.args.pod c.args.area c.args.which Exclusive (Err c.in-Err-try_lock.error) c.in-Ok.ensures.unopened (with_spot (λ s. Open s c.args.which) c.of_pod.ensures c.in-Ok.ensures.called) c.in-Err-try_lock.ensures.called c.close.ensures.called

pub returns-in-Err-try_lock-clause-stopped : goal.returns-in-Err-try_lock-clause-stopped
returns-in-Err-try_lock-clause-stopped g c =
    let D = g.D.Dir in
    let asks = c.in-Err-try_lock.ensures in
    subst (λ (x : Setback). StepWasStopped D.observed c.args.pod (CannotOpenAt c.args.pod c.args.area c.args.which) x (D.shown c.args.dir.now) (D.shown c.close.new.self)) (sym c.lock_setback.ensures)
    (stops_part (follows_call c.in-Ok.ensures.called) (follows_call c.close.ensures.called)
    (lock_stops c.args.which c.in-Ok.handle Exclusive c.in-Err-try_lock.error asks.refusals (λ is. asks.cause (ap Err is))))

pub returns-in-Err-try_lock-clause-left : goal.returns-in-Err-try_lock-clause-left
returns-in-Err-try_lock-clause-left g c =
    knows_untaken c.args.pod c.args.area c.args.which c.in-Ok.ensures.unopened (with_spot (λ s. Open s c.args.which) c.of_pod.ensures c.in-Ok.ensures.called) c.in-Err-try_lock.error c.in-Err-try_lock.ensures.called c.close.ensures.called

pub returns-in-Err-clause-went : goal.returns-in-Err-clause-went
returns-in-Err-clause-went g c = went_unopened c.args.pod c.args.area c.args.which c.in-Err.error (with_spot (λ s. Open s c.args.which) c.of_pod.ensures c.in-Err.ensures.called)

pub returns-in-Err-clause-stopped : goal.returns-in-Err-clause-stopped
returns-in-Err-clause-stopped g c =
    let D = g.D.Dir in
    subst (λ (x : Setback). StepWasStopped D.observed c.args.pod (CannotOpenAt c.args.pod c.args.area c.args.which) x (D.shown c.args.dir.now) (D.shown c.«open».new.self)) (sym c.set_back.ensures)
    (open_stops c.args.pod c.args.area c.args.which c.in-Err.error c.in-Err.ensures.refusals (λ is. c.in-Err.ensures.cause (ap Err is)) (with_spot (λ s. Open s c.args.which) c.of_pod.ensures c.in-Err.ensures.called))

pub returns-in-Err-clause-left : goal.returns-in-Err-clause-left
returns-in-Err-clause-left g c = knows_unlocked c.args.pod c.args.area c.args.which c.in-Err.error (with_spot (λ s. Open s c.args.which) c.of_pod.ensures c.in-Err.ensures.called)

pub returns-in-Err-try_lock-clause-by_other_process : goal.returns-in-Err-try_lock-clause-by_other_process
returns-in-Err-try_lock-clause-by_other_process g c t s k may which is =
    busy_take c.args.pod c.args.area c.in-Ok.ensures.unopened c.args.which c.in-Err-try_lock.error (with_spot (λ s. Open s c.args.which) c.of_pod.ensures c.in-Ok.ensures.called) c.in-Err-try_lock.ensures.called c.close.ensures.called t s k may which (sym c.lock_setback.ensures ∙ is)

pub returns-in-Err-clause-by_other_process : goal.returns-in-Err-clause-by_other_process
returns-in-Err-clause-by_other_process g c t s k may which is = absurd (never_busy c.in-Err.error which (sym c.set_back.ensures ∙ is))

pub returns-in-Err-try_lock-clause-named : goal.returns-in-Err-try_lock-clause-named
returns-in-Err-try_lock-clause-named g c other is = lock_named c.args.which c.in-Err-try_lock.error other (sym c.lock_setback.ensures ∙ is)

pub returns-in-Err-clause-named : goal.returns-in-Err-clause-named
returns-in-Err-clause-named g c other is = absurd (never_busy c.in-Err.error other (sym c.set_back.ensures ∙ is))

pub returns-in-Ok-try_lock-clause-free : goal.returns-in-Ok-try_lock-clause-free
returns-in-Ok-try_lock-clause-free g c = free_taken c.args.pod c.args.area c.args.which Exclusive (with_spot (λ s. Open s c.args.which) c.of_pod.ensures c.in-Ok.ensures.called) c.in-Ok-try_lock.ensures.called

pub returns-in-Err-try_lock-clause-never : goal.returns-in-Err-try_lock-clause-never
returns-in-Err-try_lock-clause-never g c is = lock_never c.args.which c.in-Ok.handle Exclusive c.in-Err-try_lock.error c.in-Err-try_lock.ensures.refusals (sym c.lock_setback.ensures ∙ is)

pub returns-in-Err-clause-never : goal.returns-in-Err-clause-never
returns-in-Err-clause-never g c is = open_never c.of_pod.result c.args.which c.in-Err.error c.in-Err.ensures.refusals (sym c.set_back.ensures ∙ is)

pub returns-in-Ok-try_lock-clause-calls : goal.returns-in-Ok-try_lock-clause-calls
returns-in-Ok-try_lock-clause-calls g c = record {
  between = g.D.Dir.shown c.«open».new.self;
  unopened = c.in-Ok.ensures.unopened;
  opened = with_spot (λ s. Open s c.args.which) c.of_pod.ensures c.in-Ok.ensures.called;
  locked = c.in-Ok-try_lock.ensures.called;
}

pub returns-in-Err-try_lock-clause-calls : goal.returns-in-Err-try_lock-clause-calls
returns-in-Err-try_lock-clause-calls g c = inr (record {
  handle = c.in-Ok.handle;
  between = g.D.Dir.shown c.«open».new.self;
  late = g.D.Dir.shown c.try_lock.new.self;
  error = c.in-Err-try_lock.error;
  unopened = c.in-Ok.ensures.unopened;
  may = c.in-Err-try_lock.ensures.refusals;
  cause = λ is. c.in-Err-try_lock.ensures.cause (ap Err is);
  opened = with_spot (λ s. Open s c.args.which) c.of_pod.ensures c.in-Ok.ensures.called;
  locked = c.in-Err-try_lock.ensures.called;
  closed = c.close.ensures.called;
  stop_is = c.lock_setback.ensures;
})

pub returns-in-Err-clause-calls : goal.returns-in-Err-clause-calls
returns-in-Err-clause-calls g c = inl (record {
  error = c.in-Err.error;
  may = subst (λ (s : Spot). may_refuse (Open s c.args.which) c.in-Err.error ≡ true) c.of_pod.ensures c.in-Err.ensures.refusals;
  cause = λ is. c.in-Err.ensures.cause (ap Err is);
  opened = with_spot (λ s. Open s c.args.which) c.of_pod.ensures c.in-Err.ensures.called;
  stop_is = c.set_back.ensures;
})
