-- What one state tells of replies, and of connections that are served one after the other.
use Rattle.std.specs.Prelude.{◌≡◌, ◌⊎◌, ℕ, List, [], ◌∷◌, ◌++◌, Option, Some, None, Ok, Err, IsErrOf}
use Rattle.dir_model.specs.Causes.{Rose}
use Rattle.dir_model.specs.State.{DirState}
use Rattle.listener.specs.Connections.{Connection, ListenerAt}
use Rattle.metadata_request.specs.declared.request.Request.{Request}
use Rattle.metadata_request.specs.Requests.{IsRequestOf}
use Rattle.metadata_reply.specs.declared.reply.Reply.{Reply}
use Rattle.metadata_reply.specs.Answers.{answer_of, refused}
use Rattle.metadata_reply.specs.ReplyBytes.{reply_bytes}
use Rattle.metadata_reply.specs.Views.{ViewData}
use Rattle.metadata.specs.declared.error.MetaError.TheVariants.{LinkFault}
use Rattle.metadata.specs.Serving.{sought}
use Rattle.metadata.specs.Service.{Served}
use Rattle.running_views.specs.Views.{FindsIn}

-- the pod of a token, and none where none is sought
abbrev pub IsPodIn : DirState → Option (List ℕ) → Option ViewData → Type 0
IsPodIn s None pod = pod ≡ None
IsPodIn s (Some token) pod = FindsIn s token pod

-- the reply to a request, for the pod that the state has for its token
pub record RepliesIn (s : DirState) (request : Request) (key : List ℕ) (reply : Reply) : Type 0 where
  pub pod : Option ViewData
  pub found : IsPodIn s (sought request) pod
  pub is : reply ≡ answer_of request pod key

-- and to none
abbrev pub AnswersIn : DirState → Option Request → List ℕ → Reply → Type 0
AnswersIn s None key reply = reply ≡ refused 400
AnswersIn s (Some request) key reply = RepliesIn s request key reply

-- the bytes are those of the reply to the input, by this state alone
pub record IsReplyIn (s : DirState) (input key bytes : List ℕ) : Type 0 where
  pub request : Option Request
  pub read : IsRequestOf input request
  pub reply : Reply
  pub answers : AnswersIn s request key reply
  pub bytes_are : bytes ≡ reply_bytes reply

-- what was written to a connection is that reply; where serving it failed, a beginning of it, or nothing
abbrev pub OwesIn : DirState → List ℕ → Connection → Served → Type 0
OwesIn s key c (Ok done) = IsReplyIn s c.input key c.written
OwesIn s key c (Err error) = (c.written ≡ []) ⊎ ((bytes : List ℕ) × (rest : List ℕ) × IsReplyIn s c.input key bytes × (bytes ≡ c.written ++ rest))

-- one connection was taken, served so by this state, and hung up; it failed by the listener only where the listener's count rose
pub record ServesOneIn (s : DirState) (key : List ℕ) (served : Served) (old new : ListenerAt) : Type 0 where
  pub connection : Connection
  pub past : new.past ≡ old.past ++ record { connection = connection; faults = new.faults } ∷ []
  pub current : new.current ≡ None
  pub address : new.address ≡ old.address
  pub owes : OwesIn s key connection served
  pub link_cause : IsErrOf served LinkFault → Rose old.faults new.faults
  pub link_told : (IsErrOf served LinkFault → ⊥) → new.faults ≡ old.faults

-- these were, one after the other, each by the same state
abbrev pub ServesIn : DirState → List ℕ → List Served → ListenerAt → ListenerAt → Type 0
ServesIn s key [] old new = new ≡ old
ServesIn s key (served ∷ more) old new = (mid : ListenerAt) × ServesOneIn s key served old mid × ServesIn s key more mid new
