-- Inputs that are exactly one request, and their beginnings.
use Rattle.std.specs.Prelude.{◌≡◌, ℕ, ◌<◌, List, ◌++◌, length, Option, Some, None, codes, if◌then◌else◌}
use Rattle.std.specs.Str.{bytes_eq}
use Rattle.httparse.specs.Grammar.{RequestHead}
use Rattle.metadata_request.specs.declared.request.Body.TheVariants.{Bad}
use Rattle.metadata_request.specs.declared.request.Request.{Request}
use Rattle.metadata_request.specs.Fields.{body_length}
use Rattle.metadata_request.specs.Heads.{BeginsWithHead, fields_of}
use Rattle.metadata_request.specs.Requests.{IsRequestOf}
use Rattle.metadata_reply.specs.declared.reply.Reply.{Reply}
use Rattle.metadata_reply.specs.Answers.{answer_of, refused}
use Rattle.metadata_reply.specs.Views.{ViewData}

-- how many bytes of body a head has: that of a POST as many as it states, if it states any number, and another none
abbrev pub stated_length : RequestHead → Option ℕ
stated_length h = if bytes_eq h.method (codes "POST") then body_length (fields_of h) else Some 0

-- the input is exactly a head within the limits and its body: nothing follows
pub record IsOneRequest (input : List ℕ) (h : RequestHead) (body : List ℕ) : Type 0 where
  pub begins : BeginsWithHead input h body
  pub stated : stated_length h ≡ Some (length body)

-- the whole is the front, and then at least a byte
pub record IsProperBeginning (front whole : List ℕ) : Type 0 where
  pub back : List ℕ
  pub some : 0 < length back
  pub is : whole ≡ front ++ back

-- the whole is exactly one request, this one, and of a proper beginning of it that is read
pub record IsCut (whole front : List ℕ) (h : RequestHead) (request : Request) (read : Option Request) : Type 0 where
  pub body : List ℕ
  pub one : IsOneRequest whole h body
  pub beginning : IsProperBeginning front whole
  pub asked : IsRequestOf whole (Some request)
  pub read_is : IsRequestOf front read

-- the same request with a bad body
abbrev pub with_bad_body : Request → Request
with_bad_body request = record request { body = Bad }

-- the reply where that pod, or none, is found for the target's token. To no request it is 400
abbrev pub reply_to : Option Request → Option ViewData → List ℕ → Reply
reply_to None pod key = refused 400
reply_to (Some request) pod key = answer_of request pod key
