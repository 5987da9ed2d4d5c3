-- Where nobody else steps, a reply is one by the state before.
use Rattle.std.proofs.Common.{◌≡◌, ℕ, true, Option, Some, None, List, length, refl}
use Rattle.dir_model.specs.State.{DirState}
use Rattle.dir_model.specs.Trace.{state_after}
use Rattle.dir_trait.specs.DirCalls.{DirAt}
use Rattle.metadata_request.specs.declared.request.Request.{Request}
use Rattle.metadata_reply.specs.declared.reply.Reply.{Reply}
use Rattle.metadata_reply.specs.Views.{ViewData}
use Rattle.pod_report.specs.Requests.{OnlyAsksFor}
use Rattle.metadata.specs.Looks.{looks_in_run}
use Rattle.metadata.specs.Serving.{sought, IsPodFor, AnswersRequest, IsReplyTo}
use Rattle.running_views.specs.Laws.{ReadsUndisturbed}
use Rattle.running_views.specs.Replies.{IsPodIn, AnswersIn, IsReplyIn}
use Rattle.running_views.proofs.Limits.{sought_token}
use Rattle.running_views.proofs.FoundBefore.{found_before}

module _ {old new : DirAt} (only : OnlyAsksFor true looks_in_run old new) (alone : ReadsUndisturbed old new) where
  abbrev before : DirState
  before = state_after old.trace

  pod_before : (o : Option (List ℕ)) → ((token : List ℕ) → o ≡ Some token → length token ≡ 16) → (pod : Option ViewData) → IsPodFor o pod old new → IsPodIn before o pod
  pod_before None long pod is = is
  pod_before (Some token) long pod found = found_before only alone token pod (long token refl) found

  answers_before : (request : Option Request) (key : List ℕ) (reply : Reply) → AnswersRequest request key reply old new → AnswersIn before request key reply
  answers_before None key reply is = is
  answers_before (Some request) key reply r = record { pod = r.pod; found = pod_before (sought request) (sought_token request) r.pod r.found; is = r.is }

  pub reply_before : (input key bytes : List ℕ) → IsReplyTo input key bytes old new → IsReplyIn before input key bytes
  reply_before input key bytes r =
      record { request = r.request; read = r.read; reply = r.reply; answers = answers_before r.request key r.reply r.answers; bytes_are = r.bytes_are }
