use Rattle.std.proofs.Common.{refl, sym, subst, ◌∙◌}
use Rattle.dir_model.specs.declared.opening.Target.TheVariants.{Gate}
use Rattle.dir_model.specs.Areas.{rank}
use Rattle.dir_model.specs.Local.{Local, IsUnlocked}
use Rattle.dir_model.proofs.Lists.{same_self}
use Rattle.dir_model.proofs.Chains.{nothing_yet, and_call}
use Rattle.dir_model.proofs.Holdings.{tried_by, unlocked_new}
use Rattle.dir_files.proofs.Locking.{mode_self, locked_by, knows_lock, knows_refusal, knows_unopened, finds_busy, finds_busy_elsewhere, finds_free}
use Rattle.dir_files.proofs.lock.lock_area.Goals as goal

pub try_lock-requires-clause-unlocked : goal.try_lock-requires-clause-unlocked
try_lock-requires-clause-unlocked g c =
    let before = (g.D.Dir.shown c.args.dir.now).local in
    let unlocked = unlocked_new before c.in-Ok.handle (Gate c.args.area) c.in-Ok.ensures.unopened in
    subst (λ (m : Local). IsUnlocked m c.in-Ok.handle) (sym c.in-Ok.ensures.called.local) unlocked

pub returns-in-Ok-try_lock-clause-held : goal.returns-in-Ok-try_lock-clause-held
returns-in-Ok-try_lock-clause-held g c =
    let before = (g.D.Dir.shown c.args.dir.now).local in
    let opened = c.in-Ok.ensures in
    locked_by before c.in-Ok.handle c.args.area c.args.mode opened.unopened opened.called.local c.in-Ok-try_lock.ensures.called.local

pub returns-in-Ok-try_lock-clause-extends : goal.returns-in-Ok-try_lock-clause-extends
returns-in-Ok-try_lock-clause-extends g c t =
    let opens = c.open_area.ensures.called in
    let asks = c.try_lock.ensures.called in
    and_call (and_call nothing_yet refl (same_self (rank c.args.area)) (opens.step t)) opens.same (mode_self c.args.mode) (asks.step t)

pub returns-in-Ok-try_lock-clause-free : goal.returns-in-Ok-try_lock-clause-free
returns-in-Ok-try_lock-clause-free g c t = finds_free {area = c.args.area} {mode = c.args.mode} t c.in-Ok.ensures.called c.in-Ok-try_lock.ensures.called

pub returns-in-Ok-try_lock-clause-taken : goal.returns-in-Ok-try_lock-clause-taken
returns-in-Ok-try_lock-clause-taken g c t =
    let opened = c.in-Ok.ensures in
    knows_lock {area = c.args.area} {mode = c.args.mode} t opened.unopened opened.called c.in-Ok-try_lock.ensures.called

pub returns-in-Err-try_lock-clause-refused : goal.returns-in-Err-try_lock-clause-refused
returns-in-Err-try_lock-clause-refused g c =
    let opened = c.in-Ok.ensures in
    let asks = c.try_lock.ensures.called in
    let closes = c.close.ensures.called in
    tried_by c.in-Ok.handle (Gate c.args.area) c.args.mode c.try_lock.result opened.unopened opened.called.local asks.local closes.local

pub returns-in-Err-try_lock-clause-extends : goal.returns-in-Err-try_lock-clause-extends
returns-in-Err-try_lock-clause-extends g c t =
    let opens = c.open_area.ensures.called in
    let asks = c.try_lock.ensures.called in
    let had = and_call (and_call nothing_yet refl (same_self (rank c.args.area)) (opens.step t)) opens.same (mode_self c.args.mode) (asks.step t) in
    and_call had (asks.same ∙ opens.same) refl (c.close.ensures.called.step t)

pub returns-in-Err-try_lock-clause-busy : goal.returns-in-Err-try_lock-clause-busy
returns-in-Err-try_lock-clause-busy g c is t =
    let locked = c.lock_error.ensures.busy cc in
    let asks = c.in-Err-try_lock.ensures.called in
    finds_busy {area = c.args.area} {mode = c.args.mode} t locked c.in-Ok.ensures.called asks c.close.ensures.called

pub returns-in-Err-try_lock-clause-by_other_process : goal.returns-in-Err-try_lock-clause-by_other_process
returns-in-Err-try_lock-clause-by_other_process g c is t =
    let locked = c.lock_error.ensures.busy cc in
    let asks = c.in-Err-try_lock.ensures.called in
    finds_busy_elsewhere {area = c.args.area} {mode = c.args.mode} t locked c.in-Ok.ensures.called asks c.close.ensures.called

pub returns-in-Err-try_lock-clause-left : goal.returns-in-Err-try_lock-clause-left
returns-in-Err-try_lock-clause-left g c t =
    let opened = c.in-Ok.ensures in
    let asks = c.in-Err-try_lock.ensures.called in
    knows_refusal {area = c.args.area} {mode = c.args.mode} t opened.unopened opened.called asks c.close.ensures.called

pub returns-in-Err-clause-extends : goal.returns-in-Err-clause-extends
returns-in-Err-clause-extends g c t = and_call nothing_yet refl (same_self (rank c.args.area)) (c.open_area.ensures.called.step t)

pub returns-in-Err-clause-left : goal.returns-in-Err-clause-left
returns-in-Err-clause-left g c t s k may = knows_unopened {area = c.args.area} t c.in-Err.ensures.called s k
