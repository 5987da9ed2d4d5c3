-- What no maker is answered.
use Rattle.std.proofs.Common.{◌≡◌, ℕ, Bool, true, false, ◌||◌, List, [], ◌∷◌, ◌++◌, refl}
use Rattle.std.proofs.lemmas.Bool.{or_left}
use Rattle.dir_model.specs.declared.event.Event.{Event}
use Rattle.dir_model.specs.declared.spot.Which.TheVariants as which
use Rattle.dir_model.specs.declared.request.DirError.TheVariants.{Missing, Exists, NotEmpty, Locked, Failed, NoMemory}
use Rattle.dir_model.specs.declared.request.Request.{Request}
use Rattle.dir_model.specs.declared.request.Request.TheVariants.{Begin, Kill, Open, TryLock}
use Rattle.dir_model.specs.declared.request.Reply.{Reply}
use Rattle.dir_model.specs.declared.request.Reply.TheVariants.{Refused}
use Rattle.dir_model.specs.Paths.{is_well_formed}
use Rattle.dir_model.specs.State.{empty_state}
use Rattle.dir_model.specs.Trace.{state_next, state_after}
use Rattle.dir_model.specs.Calls.{is_begin, is_kill, is_allowed, is_run_from}
use Rattle.dir_model.proofs.Allowed.{allowed_parts}
use Rattle.dir_model.proofs.Chains.{run_from-right}
use Rattle.dir_model.proofs.Lists.{and_left, or_last}
use Rattle.dir_rules.specs.LockRules.{may_lock_by}
use Rattle.dir_rules.specs.Standing.{find_held}
use Rattle.dir_rules.specs.Rules.{content_rules_allow}
use Rattle.dir_rules.specs.Anomalies.{folder_of, is_own_embryo, is_own_embryo_held, loses_embryo, meets_another, loses_own}
use Rattle.dir_rules.specs.Conforms.{seen_of}
use Rattle.lifecycle.specs.Executions.{IsConforming}
use Rattle.lifecycle.proofs.Handles.{is_due}
use Rattle.folder_contents.proofs.Along.{conforming_to}
use Rattle.impossible_replies.specs.Replies.{MakersReply, is_of_making}
use Rattle.impossible_replies.proofs.Alongside.{Steps, steps}
use Rattle.impossible_replies.proofs.Apps.{making_plain}
use Rattle.impossible_replies.proofs.Embryos.{opens_own, locks_own}
use Rattle.impossible_replies.proofs.Meetings.{no_meeting}
use Rattle.impossible_replies.proofs.Makers.{its_own}

-- a request of a run is well formed
pub formed : (h : List Event) (e : Event) → IsConforming (h ++ e ∷ []) → is_well_formed e.request ≡ true
formed h e c =
    let a = and_left (is_allowed (state_after h) e) (is_run_from (state_next (state_after h) e) []) (run_from-right empty_state h (e ∷ []) c.run) in
    and_left (is_well_formed e.request) (is_due (state_after h).namespace e.process e.request) (allowed_parts (state_after h) e a).0

pub embryo_kept : (h : List Event) (p : ℕ) (request : Request) (reply : Reply) → Steps h p request reply →
    loses_embryo (seen_of p h).standing request reply ≡ false
embryo_kept h p (TryLock handle mode) (Refused Locked left) x = by (is_own_embryo_held (seen_of p h).standing (find_held handle (seen_of p h).standing)) refl
  where
    by : (b : Bool) → is_own_embryo_held (seen_of p h).standing (find_held handle (seen_of p h).standing) ≡ b → b ≡ false
    by false e = refl
    by true e = absurd (locks_own h p x.conforming x.living handle mode left e
        (and_left (may_lock_by (seen_of p h).standing (find_held handle (seen_of p h).standing) mode) (content_rules_allow (seen_of p h) (TryLock handle mode)) x.may) x.is)
embryo_kept h p (Open spot which.Own) (Refused Missing left) x = by (is_own_embryo (seen_of p h).standing spot) refl
  where
    by : (b : Bool) → is_own_embryo (seen_of p h).standing spot ≡ b → b ≡ false
    by false e = refl
    by true e = absurd (opens_own h p x.conforming x.living spot left e x.is)
embryo_kept h p (TryLock handle mode) (Refused Missing left) x = refl
embryo_kept h p (TryLock handle mode) (Refused Exists left) x = refl
embryo_kept h p (TryLock handle mode) (Refused NotEmpty left) x = refl
embryo_kept h p (TryLock handle mode) (Refused Failed left) x = refl
embryo_kept h p (TryLock handle mode) (Refused NoMemory left) x = refl
embryo_kept h p (TryLock handle mode) reply x = refl
embryo_kept h p (Open spot which.Own) (Refused Exists left) x = refl
embryo_kept h p (Open spot which.Own) (Refused NotEmpty left) x = refl
embryo_kept h p (Open spot which.Own) (Refused Locked left) x = refl
embryo_kept h p (Open spot which.Own) (Refused Failed left) x = refl
embryo_kept h p (Open spot which.Own) (Refused NoMemory left) x = refl
embryo_kept h p (Open spot which.Own) reply x = refl
embryo_kept h p (Open spot which.Claim) reply x = refl
embryo_kept h p request reply x = refl

-- a begin and a kill are never answered so
idle_embryo : (h : List Event) (p : ℕ) (request : Request) (reply : Reply) → (is_begin request || is_kill request) ≡ true → loses_embryo (seen_of p h).standing request reply ≡ false
idle_embryo h p (Begin intent) reply idle = refl
idle_embryo h p Kill reply idle = refl
idle_embryo h p request reply idle = cc

idle_meeting : (request : Request) (reply : Reply) → (is_begin request || is_kill request) ≡ true → meets_another request reply ≡ false
idle_meeting (Begin intent) reply idle = refl
idle_meeting Kill reply idle = refl
idle_meeting request reply idle = cc

idle_own : (h : List Event) (p : ℕ) (request : Request) (reply : Reply) → (is_begin request || is_kill request) ≡ true → is_of_making (seen_of p h) (folder_of request) ≡ true →
    loses_own (seen_of p h) request reply ≡ false
idle_own h p (Begin intent) reply idle its = cc
idle_own h p Kill reply idle its = cc
idle_own h p request reply idle its = cc

-- so each other step is one of a process that lives
pub each_step : (h : List Event) (e : Event) → IsConforming (h ++ e ∷ []) → (P : Type 0) →
    ((is_begin e.request || is_kill e.request) ≡ true → P) → (Steps h e.process e.request e.reply → P) → P
each_step h e c P idle step = by (is_begin e.request) (is_kill e.request) refl refl
  where
    by : (b k : Bool) → is_begin e.request ≡ b → is_kill e.request ≡ k → P
    by true k on alive = idle (or_left (is_begin e.request) (is_kill e.request) on)
    by false true on alive = idle (or_last (is_begin e.request) (is_kill e.request) alive)
    by false false on alive = step (steps h e c alive on)

pub embryo_stays : (h : List Event) (e : Event) → IsConforming (h ++ e ∷ []) → loses_embryo (seen_of e.process h).standing e.request e.reply ≡ false
embryo_stays h e c = each_step h e c (loses_embryo (seen_of e.process h).standing e.request e.reply ≡ false)
    (λ idle. idle_embryo h e.process e.request e.reply idle) (λ x. embryo_kept h e.process e.request e.reply x)

pub none_met : (h : List Event) (e : Event) → IsConforming (h ++ e ∷ []) → meets_another e.request e.reply ≡ false
none_met h e c = each_step h e c (meets_another e.request e.reply ≡ false)
    (λ idle. idle_meeting e.request e.reply idle) (λ x. no_meeting h x.conforming e.process e.request e.reply x.may x.is)

pub none_lost : (h : List Event) (e : Event) → IsConforming (h ++ e ∷ []) → is_of_making (seen_of e.process h) (folder_of e.request) ≡ true →
    loses_own (seen_of e.process h) e.request e.reply ≡ false
none_lost h e c its = each_step h e c (loses_own (seen_of e.process h) e.request e.reply ≡ false)
    (λ idle. idle_own h e.process e.request e.reply idle its)
    (λ x. its_own h e.process x.conforming x.living e.request e.reply its (making_plain h x.conforming (seen_of e.process h) e.request its) (formed h e c) x.may x.is)

pub makers_reply : (trace : List Event) → IsConforming trace → MakersReply trace
makers_reply trace conforming = record {
  embryo = λ before e later is alive. embryo_stays before e (conforming_to trace before e later conforming is);
  another = λ before e later is alive. none_met before e (conforming_to trace before e later conforming is);
  own = λ before e later is alive its. none_lost before e (conforming_to trace before e later conforming is) its;
}
