-- One connection: what it owes, however its input is cut.
use Rattle.std.specs.Prelude.{◌≡◌, ◌⊎◌, ℕ, List, Option, Some, None, if◌then◌else◌}
use Rattle.dir_trait.specs.DirCalls.{DirAt}
use Rattle.listener.specs.Connections.{ListenerAt, WritesText, WritesPartToPeer}
use Rattle.metadata_request.specs.declared.request.Request.{Request}
use Rattle.metadata_request.specs.Inputs.{unread_of, HasRead}
use Rattle.metadata_request.specs.Requests.{IsRequestOf}
use Rattle.metadata_reply.specs.declared.reply.Reply.{Reply}
use Rattle.metadata_reply.specs.Answers.{answer_of, refused}
use Rattle.metadata_reply.specs.ReplyBytes.{reply_bytes}
use Rattle.metadata_reply.specs.Targets.{token_of}
use Rattle.metadata_reply.specs.Views.{ViewData}
use Rattle.metadata.specs.PodViews.{FindsPodByToken}

-- the token for which a pod is looked for: none where the request isn't one for App Container
abbrev pub sought : Request → Option (List ℕ)
sought request = if request.flavor then token_of request.target else None

-- the pod of that token
abbrev pub IsPodFor : Option (List ℕ) → Option ViewData → DirAt → DirAt → Type 0
IsPodFor None pod old new = pod ≡ None
IsPodFor (Some token) pod old new = FindsPodByToken token pod old new

-- the reply to a request that was read, for the pod of its token
pub record RepliesFor (request : Request) (key : List ℕ) (reply : Reply) (old new : DirAt) : Type 0 where
  pub pod : Option ViewData
  pub found : IsPodFor (sought request) pod old new
  pub is : reply ≡ answer_of request pod key

-- and to none
abbrev pub AnswersRequest : Option Request → List ℕ → Reply → DirAt → DirAt → Type 0
AnswersRequest None key reply old new = reply ≡ refused 400
AnswersRequest (Some request) key reply old new = RepliesFor request key reply old new

-- the bytes are those of the reply to the input: neither how it was cut nor another pod has a part in it
pub record IsReplyTo (input key bytes : List ℕ) (old new : DirAt) : Type 0 where
  pub request : Option Request
  pub read : IsRequestOf input request
  pub reply : Reply
  pub answers : AnswersRequest request key reply old new
  pub bytes_are : bytes ≡ reply_bytes reply

-- some of the input was read, and then the reply to the whole was written
pub record Serves (key : List ℕ) (old new : ListenerAt) (from upto : DirAt) : Type 0 where
  pub bytes : List ℕ
  pub reply : IsReplyTo (unread_of old.current) key bytes from upto
  pub taken : List ℕ
  pub between : ListenerAt
  pub read : HasRead old taken between
  pub written : WritesText between bytes new

-- or its beginning
pub record ServesPart (key : List ℕ) (old new : ListenerAt) (from upto : DirAt) : Type 0 where
  pub bytes : List ℕ
  pub reply : IsReplyTo (unread_of old.current) key bytes from upto
  pub taken : List ℕ
  pub between : ListenerAt
  pub read : HasRead old taken between
  pub written : WritesPartToPeer between bytes new

-- or nothing was
abbrev pub WritesNoReply : ListenerAt → ListenerAt → Type 0
WritesNoReply old new = (taken : List ℕ) × HasRead old taken new

abbrev pub ServesAtMost : List ℕ → ListenerAt → ListenerAt → DirAt → DirAt → Type 0
ServesAtMost key old new from upto = ServesPart key old new from upto ⊎ WritesNoReply old new
