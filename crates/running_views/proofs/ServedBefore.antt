-- Where nobody else steps, connections that are served one after the other owe replies by the state before the first.
use Rattle.std.proofs.Common.{inl, inr, ℕ, true, Ok, Err, List, [], ◌∷◌, ◌++◌, refl, sym, subst, ◌∙◌, append-nil}
use Rattle.dir_model.specs.declared.event.Event.{Event}
use Rattle.dir_model.specs.Calls.{Extends}
use Rattle.dir_model.specs.Quiet.{Quiet, OwnsNothing}
use Rattle.dir_model.specs.Trace.{state_after}
use Rattle.dir_model.proofs.Chains.{and_more, extends_wider, nothing_yet}
use Rattle.dir_model.proofs.Quiet.{quiet_within}
use Rattle.dir_trait.specs.DirCalls.{DirAt}
use Rattle.lifecycle.specs.Executions.{IsConforming}
use Rattle.lifecycle.proofs.Draws.{conforming_left}
use Rattle.listener.specs.Connections.{Connection, ListenerAt}
use Rattle.pod_report.specs.Requests.{OnlyAsksFor}
use Rattle.pod_report.proofs.QuietSurvey.{is_calm, SameWorld, same_world}
use Rattle.metadata.specs.Looks.{looks_in_run}
use Rattle.metadata.specs.Service.{Served, Owes, ServesOne, ServesThese}
use Rattle.metadata.proofs.Calm.{looks_calm}
use Rattle.running_views.specs.Laws.{ReadsUndisturbed}
use Rattle.running_views.specs.Replies.{OwesIn, ServesOneIn, ServesIn}
use Rattle.running_views.proofs.Same.{same_told, serves_same}
use Rattle.running_views.proofs.RepliedBefore.{reply_before}

-- all that is asked for changes nothing
pub these_calm : (key : List ℕ) (results : List Served) (old new : ListenerAt) (from upto : DirAt) → ServesThese key results old new from upto → Extends is_calm from.process from.trace upto.trace
these_calm key [] old new from upto x = subst (λ (d : DirAt). Extends is_calm from.process from.trace d.trace) (sym x.1) nothing_yet
these_calm key (served ∷ more) old new from upto (mid, moment, one, rest) =
    and_more (extends_wider looks_calm (one.asks.extends refl)) one.asks.same (these_calm key more mid new moment upto rest)

-- a part of the time, and what is left of it
module _ {from moment upto : DirAt} (alone : ReadsUndisturbed from upto) (only : OnlyAsksFor true looks_in_run from moment) (rest : Extends is_calm moment.process moment.trace upto.trace) where
  abbrev me : ℕ
  me = from.process

  first : Extends is_calm me from.trace moment.trace
  first = extends_wider looks_calm (only.extends refl)

  last : Extends is_calm me moment.trace upto.trace
  last = subst (λ (p : ℕ). Extends is_calm p moment.trace upto.trace) only.same rest

  alone_first : ReadsUndisturbed from moment
  alone_first = record {
    quiet = quiet_within alone.quiet (nothing_yet {asks = is_calm}) last first.more first.grown;
    idle = alone.idle;
    conforms = conforming_left moment.trace last.more (subst IsConforming last.grown alone.conforms);
  }

  world : SameWorld me (state_after from.trace) (state_after moment.trace)
  world =
      subst (λ (h : List Event). SameWorld me (state_after from.trace) (state_after h)) (sym first.grown)
      (same_world first alone_first.quiet alone.idle first.more [] (first.grown ∙ sym (append-nil (from.trace ++ first.more))))

  alone_last : ReadsUndisturbed moment upto
  alone_last = record {
    quiet = subst (λ (p : ℕ). Quiet p moment.trace upto.trace) (sym only.same) (quiet_within alone.quiet first (nothing_yet {asks = is_calm}) last.more last.grown);
    idle = subst (λ (p : ℕ). OwnsNothing p (state_after moment.trace).namespace) (sym only.same) world.names.mine;
    conforms = alone.conforms;
  }

module _ {from moment : DirAt} (alone : ReadsUndisturbed from moment) (only : OnlyAsksFor true looks_in_run from moment) where
  owes_before : (key : List ℕ) (c : Connection) (served : Served) → Owes key c served from moment → OwesIn (state_after from.trace) key c served
  owes_before key c (Ok done) owes = reply_before only alone c.input key c.written owes
  owes_before key c (Err error) (inl none) = inl none
  owes_before key c (Err error) (inr (bytes, rest, reply, is)) = inr (bytes, rest, reply_before only alone c.input key bytes reply, is)

  one_before : (key : List ℕ) (served : Served) (old new : ListenerAt) → ServesOne key served old new from moment → ServesOneIn (state_after from.trace) key served old new
  one_before key served old new o = record {
    connection = o.connection;
    past = o.past;
    current = o.current;
    address = o.address;
    owes = owes_before key o.connection served o.owes;
    link_cause = o.link_cause;
    link_told = o.link_told;
  }

pub served_before : (key : List ℕ) (results : List Served) (old new : ListenerAt) (from upto : DirAt) → ReadsUndisturbed from upto → ServesThese key results old new from upto → ServesIn (state_after from.trace) key results old new
served_before key [] old new from upto alone x = x.0
served_before key (served ∷ more) old new from upto alone (mid, moment, one, rest) =
    let calm = these_calm key more mid new moment upto rest in
    let later = served_before key more mid new moment upto (alone_last alone one.asks calm) rest in
    (mid, one_before (alone_first alone one.asks calm) one.asks key served old mid one, serves_same (same_told (world alone one.asks calm)) key more mid new later)
