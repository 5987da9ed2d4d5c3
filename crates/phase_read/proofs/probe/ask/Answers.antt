use Rattle.std.proofs.Common.{◌≡◌, refl, sym, ap, subst, ◌∙◌}
use Rattle.dir_model.specs.Replies.{is_look_at, done_reply}
use Rattle.dir_model.specs.State.{spot_eq}
use Rattle.dir_model.specs.declared.opening.Target.TheVariants.{Own}
use Rattle.dir_model.specs.declared.request.DirError.{DirError}
use Rattle.dir_model.specs.declared.request.DirError.TheVariants.{Locked}
use Rattle.dir_model.specs.declared.spot.Mode.TheVariants.{Shared}
use Rattle.dir_model.specs.declared.request.Request.TheVariants.{TryLock}
use Rattle.dir_model.specs.declared.request.Reply.{Reply}
use Rattle.dir_model.specs.declared.request.Reply.TheVariants.{Refused}
use Rattle.dir_model.specs.Calls.{CallStep}
use Rattle.dir_model.specs.Local.{Local, IsUnlocked}
use Rattle.dir_model.proofs.Chains.{nothing_yet, and_call}
use Rattle.dir_model.proofs.Moments.{at_before, found, missed, told_before}
use Rattle.dir_model.proofs.LockTold.{told_free, told_held}
use Rattle.dir_model.proofs.Holdings.{tried_by, unlocked_new}
use Rattle.dir_model.proofs.Spots.{spot_self}
use Rattle.dir_trait.proofs.Looking.{ask_looks, missed_looks}
use Rattle.phase_read.proofs.probe.ask.Goals as goal

pub returns-in-Ok-answer-clause-extends : goal.returns-in-Ok-answer-clause-extends
returns-in-Ok-answer-clause-extends g c t = and_call (and_call (and_call nothing_yet refl (spot_self c.args.spot) (c.open.ensures.called.step t)) c.open.ensures.called.same refl (c.try_lock-answer.ensures.called.step t)) (c.try_lock-answer.ensures.called.same ∙ c.open.ensures.called.same) refl (c.close.ensures.called.step t)

pub returns-in-Ok-answer-clause-local : goal.returns-in-Ok-answer-clause-local
returns-in-Ok-answer-clause-local g c = tried_by c.in-Ok.handle (Own c.args.spot) Shared c.try_lock-answer.result c.in-Ok.ensures.unopened c.in-Ok.ensures.called.local c.try_lock-answer.ensures.called.local c.close.ensures.called.local

pub returns-in-Err-Locked-clause-extends : goal.returns-in-Err-Locked-clause-extends
returns-in-Err-Locked-clause-extends g c t = and_call (and_call (and_call nothing_yet refl (spot_self c.args.spot) (c.open.ensures.called.step t)) c.open.ensures.called.same refl (c.try_lock-answer.ensures.called.step t)) (c.try_lock-answer.ensures.called.same ∙ c.open.ensures.called.same) refl (c.close.ensures.called.step t)

pub returns-in-Err-Locked-clause-local : goal.returns-in-Err-Locked-clause-local
returns-in-Err-Locked-clause-local g c = tried_by c.in-Ok.handle (Own c.args.spot) Shared c.try_lock-answer.result c.in-Ok.ensures.unopened c.in-Ok.ensures.called.local c.try_lock-answer.ensures.called.local c.close.ensures.called.local

pub returns-in-Err-answer-clause-extends : goal.returns-in-Err-answer-clause-extends
returns-in-Err-answer-clause-extends g c t = and_call (and_call (and_call nothing_yet refl (spot_self c.args.spot) (c.open.ensures.called.step t)) c.open.ensures.called.same refl (c.try_lock-answer.ensures.called.step t)) (c.try_lock-answer.ensures.called.same ∙ c.open.ensures.called.same) refl (c.close.ensures.called.step t)

pub returns-in-Err-answer-clause-local : goal.returns-in-Err-answer-clause-local
returns-in-Err-answer-clause-local g c = tried_by c.in-Ok.handle (Own c.args.spot) Shared c.try_lock-answer.result c.in-Ok.ensures.unopened c.in-Ok.ensures.called.local c.try_lock-answer.ensures.called.local c.close.ensures.called.local

pub returns-in-Ok-answer-clause-there : goal.returns-in-Ok-answer-clause-there
returns-in-Ok-answer-clause-there g c t = at_before {asks = is_look_at (spot_eq c.args.spot)} (found _ _ _ _ _ _ (c.in-Ok.ensures.called.step t)) c.open.ensures.called.same (and_call (and_call nothing_yet refl refl (c.try_lock-answer.ensures.called.step t)) c.try_lock-answer.ensures.called.same refl (c.close.ensures.called.step t))

pub returns-in-Err-Locked-clause-there : goal.returns-in-Err-Locked-clause-there
returns-in-Err-Locked-clause-there g c t = at_before {asks = is_look_at (spot_eq c.args.spot)} (found _ _ _ _ _ _ (c.in-Ok.ensures.called.step t)) c.open.ensures.called.same (and_call (and_call nothing_yet refl refl (c.try_lock-answer.ensures.called.step t)) c.try_lock-answer.ensures.called.same refl (c.close.ensures.called.step t))

pub returns-in-Err-Missing-clause-extends : goal.returns-in-Err-Missing-clause-extends
returns-in-Err-Missing-clause-extends g c t = and_call nothing_yet refl (spot_self c.args.spot) (c.open.ensures.called.step t)

pub returns-in-Err-clause-extends : goal.returns-in-Err-clause-extends
returns-in-Err-clause-extends g c t = and_call nothing_yet refl (spot_self c.args.spot) (c.open.ensures.called.step t)

pub returns-in-Err-Missing-clause-there : goal.returns-in-Err-Missing-clause-there
returns-in-Err-Missing-clause-there g c t = let e = rw c.in-Err-Missing.field-0-is at c.in-Err-Missing.ensures in missed _ _ _ _ (e.called.step t)

pub returns-in-Ok-answer-clause-answer_holds : goal.returns-in-Ok-answer-clause-answer_holds
returns-in-Ok-answer-clause-answer_holds g c t =
    told_before {asks = is_look_at (spot_eq c.args.spot)} (told_free _ _ _ _ _ _ (c.in-Ok.ensures.called.step t) (rw c.open.ensures.called.same at (c.in-Ok-answer.ensures.called.step t))) (c.try_lock-answer.ensures.called.same ∙ c.open.ensures.called.same) (and_call nothing_yet refl refl (c.close.ensures.called.step t))

pub returns-in-Err-Locked-clause-answer_holds : goal.returns-in-Err-Locked-clause-answer_holds
returns-in-Err-Locked-clause-answer_holds g c t =
    let shown = g.D.Dir.shown in
    let f = rw c.in-Err-Locked.is at c.in-Err-Locked.field-0-is in
    let e : done_reply c.try_lock-answer.result ≡ Refused Locked 0 = ap done_reply c.in-Err-Locked.is ∙ ap (λ (d : DirError). Refused d 0) f in
    let s = subst (λ (r : Reply). CallStep (shown c.open.new.self).process (shown c.open.new.self).trace (TryLock c.in-Ok.handle Shared) r (shown c.try_lock-answer.new.self).trace) e (c.try_lock-answer.ensures.called.step t) in
    told_before {asks = is_look_at (spot_eq c.args.spot)} (told_held _ _ _ _ _ _ (c.in-Ok.ensures.called.step t) (rw c.open.ensures.called.same at s)) (c.try_lock-answer.ensures.called.same ∙ c.open.ensures.called.same) (and_call nothing_yet refl refl (c.close.ensures.called.step t))

pub try_lock-answer-requires-clause-unlocked : goal.try_lock-answer-requires-clause-unlocked
try_lock-answer-requires-clause-unlocked g c = subst (λ (m : Local). IsUnlocked m c.in-Ok.handle) (sym c.in-Ok.ensures.called.local) (unlocked_new (g.D.Dir.shown c.args.dir.now).local c.in-Ok.handle (Own c.args.spot) c.in-Ok.ensures.unopened)

pub returns-in-Ok-answer-clause-known : goal.returns-in-Ok-answer-clause-known
returns-in-Ok-answer-clause-known g c t = ask_looks {spot = c.args.spot} c.try_lock-answer.result t c.requires.area c.requires.alone c.in-Ok.ensures.unopened c.in-Ok.ensures.called c.try_lock-answer.ensures.called c.close.ensures.called

pub returns-in-Err-Locked-clause-known : goal.returns-in-Err-Locked-clause-known
returns-in-Err-Locked-clause-known g c t = ask_looks {spot = c.args.spot} c.try_lock-answer.result t c.requires.area c.requires.alone c.in-Ok.ensures.unopened c.in-Ok.ensures.called c.try_lock-answer.ensures.called c.close.ensures.called

pub returns-in-Err-answer-clause-known : goal.returns-in-Err-answer-clause-known
returns-in-Err-answer-clause-known g c t = ask_looks {spot = c.args.spot} c.try_lock-answer.result t c.requires.area c.requires.alone c.in-Ok.ensures.unopened c.in-Ok.ensures.called c.try_lock-answer.ensures.called c.close.ensures.called

pub returns-in-Err-Missing-clause-known : goal.returns-in-Err-Missing-clause-known
returns-in-Err-Missing-clause-known g c t = missed_looks {spot = c.args.spot} t c.in-Err-Missing.ensures.called

pub returns-in-Err-clause-known : goal.returns-in-Err-clause-known
returns-in-Err-clause-known g c t = missed_looks {spot = c.args.spot} t c.in-Err.ensures.called
