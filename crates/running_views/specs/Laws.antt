-- The laws of the metadata service where nobody else steps.
use Rattle.std.specs.Prelude.{◌≡◌, ℕ, true, List, length, Option}
use Rattle.dir_model.specs.declared.event.Event.{Event}
use Rattle.dir_model.specs.Quiet.{Quiet, OwnsNothing}
use Rattle.dir_model.specs.Trace.{state_after}
use Rattle.dir_trait.specs.DirCalls.{DirAt}
use Rattle.lifecycle.specs.Executions.{IsConforming}
use Rattle.listener.specs.Connections.{ListenerAt}
use Rattle.pod_report.specs.Requests.{OnlyAsksFor}
use Rattle.metadata_reply.specs.Views.{ViewData}
use Rattle.metadata.specs.Looks.{looks_in_run}
use Rattle.metadata.specs.PodViews.{FindsPodByToken}
use Rattle.metadata.specs.Serving.{IsReplyTo}
use Rattle.metadata.specs.Service.{Served, ServesThese}
use Rattle.running_views.specs.Views.{FindsIn, AreTokensOnce}
use Rattle.running_views.specs.Replies.{IsReplyIn, ServesIn}

-- between these two moments nobody else steps, the process holds no lock exclusively, and every process keeps the local rules
pub record ReadsUndisturbed (old new : DirAt) : Type 0 where
  pub quiet : Quiet old.process old.trace new.trace
  pub idle : OwnsNothing old.process (state_after old.trace).namespace
  pub conforms : IsConforming new.trace

-- what is found for a token of 16 bytes is what the state before has
abbrev pub FindsBefore : List Event → Type 0
FindsBefore trace =
    (token : List ℕ) (found : Option ViewData) (old new : DirAt) → new.trace ≡ trace → length token ≡ 16 →
    OnlyAsksFor true looks_in_run old new → ReadsUndisturbed old new → FindsPodByToken token found old new → FindsIn (state_after old.trace) token found

-- so each reply is one by the state before
abbrev pub RepliesBefore : List Event → Type 0
RepliesBefore trace =
    (input key bytes : List ℕ) (old new : DirAt) → new.trace ≡ trace → OnlyAsksFor true looks_in_run old new → ReadsUndisturbed old new →
    IsReplyTo input key bytes old new → IsReplyIn (state_after old.trace) input key bytes

-- and however many connections are served, each is by the state before the first
abbrev pub ServesBefore : List Event → Type 0
ServesBefore trace =
    (key : List ℕ) (results : List Served) (old new : ListenerAt) (from upto : DirAt) → upto.trace ≡ trace → ReadsUndisturbed from upto →
    ServesThese key results old new from upto → ServesIn (state_after from.trace) key results old new

-- where no token names two pods, an input has one reply
abbrev pub OneReply : List Event → Type 0
OneReply trace =
    (input key xs ys : List ℕ) → AreTokensOnce (state_after trace) → IsReplyIn (state_after trace) input key xs →
    IsReplyIn (state_after trace) input key ys → xs ≡ ys
