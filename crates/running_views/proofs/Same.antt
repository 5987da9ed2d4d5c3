-- States with the same folders, owners and files tell the same of views and replies.
use Rattle.std.proofs.Common.{◌≡◌, inl, inr, ℕ, Option, Some, None, Ok, Err, List, [], ◌∷◌, sym, ◌∙◌}
use Rattle.hex.specs.Hex.{encode_lower}
use Rattle.dir_model.specs.declared.item.Inner.{Inner}
use Rattle.dir_model.specs.declared.pod.PodId.{PodId}
use Rattle.dir_model.specs.State.{DirState}
use Rattle.dir_files.specs.Reads.{file_at}
use Rattle.listener.specs.Connections.{Connection, ListenerAt}
use Rattle.phase_read.specs.Sequential.{sequential_read}
use Rattle.pod_files.specs.Places.{pod_file, pod_manifest_name, token_name}
use Rattle.pod_report.proofs.QuietLines.{same_file}
use Rattle.pod_report.proofs.QuietSurvey.{SameWorld}
use Rattle.pod_report.proofs.SameStatus.{same_read}
use Rattle.metadata_request.specs.declared.request.Request.{Request}
use Rattle.metadata_reply.specs.declared.reply.Reply.{Reply}
use Rattle.metadata_reply.specs.Views.{ViewData}
use Rattle.metadata.specs.PodViews.{app_names, image_path}
use Rattle.metadata.specs.Serving.{sought}
use Rattle.metadata.specs.Service.{Served}
use Rattle.running_views.specs.Views.{HaveImagesIn, IsViewIn, FindsIn}
use Rattle.running_views.specs.Replies.{IsPodIn, AnswersIn, IsReplyIn, OwesIn, ServesOneIn, ServesIn}

-- each file and each phase is the same
pub record TellsSame (s t : DirState) : Type 0 where
  pub files : (inner : Inner) → file_at t inner ≡ file_at s inner
  pub phases : (pod : PodId) → sequential_read t pod ≡ sequential_read s pod

pub same_told : {me : ℕ} {s t : DirState} → SameWorld me s t → TellsSame s t
same_told w = record { files = same_file w; phases = same_read w }

turned : {s t : DirState} → TellsSame s t → TellsSame t s
turned x = record { files = λ inner. sym (x.files inner); phases = λ pod. sym (x.phases pod) }

images_same : {s t : DirState} → TellsSame s t → (pod : PodId) (apps images : List (List ℕ)) → HaveImagesIn t pod apps images → HaveImagesIn s pod apps images
images_same x pod [] [] are = tt
images_same x pod [] (image ∷ images) are = absurd are
images_same x pod (app ∷ apps) [] are = absurd are
images_same x pod (app ∷ apps) (image ∷ images) are = ((sym (x.files (pod_file pod (image_path app))) ∙ are.0.0, are.0.1), images_same x pod apps images are.1)

view_same : {s t : DirState} → TellsSame s t → (pod : PodId) (digits : List ℕ) (v : ViewData) → IsViewIn t pod digits v → IsViewIn s pod digits v
view_same x pod digits v is = record {
  token = sym (x.files (pod_file pod token_name)) ∙ is.token;
  runs = sym (x.phases pod) ∙ is.runs;
  uuid = is.uuid;
  manifest = record { bytes = is.manifest.bytes; there = sym (x.files (pod_file pod pod_manifest_name)) ∙ is.manifest.there; is = is.manifest.is };
  images = images_same x pod (app_names v.manifest) v.images is.images;
}

pub finds_same : {s t : DirState} → TellsSame s t → (token : List ℕ) (found : Option ViewData) → FindsIn t token found → FindsIn s token found
finds_same x token None none = λ pod v named view. none pod v named (view_same (turned x) pod (encode_lower token) v view)
finds_same x token (Some v) found = (found.0, view_same x found.0 (encode_lower token) v found.1)

pod_same : {s t : DirState} → TellsSame s t → (o : Option (List ℕ)) (pod : Option ViewData) → IsPodIn t o pod → IsPodIn s o pod
pod_same x None pod is = is
pod_same x (Some token) pod found = finds_same x token pod found

answers_same : {s t : DirState} → TellsSame s t → (request : Option Request) (key : List ℕ) (reply : Reply) → AnswersIn t request key reply → AnswersIn s request key reply
answers_same x None key reply is = is
answers_same x (Some request) key reply r = record { pod = r.pod; found = pod_same x (sought request) r.pod r.found; is = r.is }

-- so is a reply
pub reply_same : {s t : DirState} → TellsSame s t → (input key bytes : List ℕ) → IsReplyIn t input key bytes → IsReplyIn s input key bytes
reply_same x input key bytes r = record { request = r.request; read = r.read; reply = r.reply; answers = answers_same x r.request key r.reply r.answers; bytes_are = r.bytes_are }

owes_same : {s t : DirState} → TellsSame s t → (key : List ℕ) (c : Connection) (served : Served) → OwesIn t key c served → OwesIn s key c served
owes_same x key c (Ok done) owes = reply_same x c.input key c.written owes
owes_same x key c (Err error) (inl none) = inl none
owes_same x key c (Err error) (inr (bytes, rest, reply, is)) = inr (bytes, rest, reply_same x c.input key bytes reply, is)

one_same : {s t : DirState} → TellsSame s t → (key : List ℕ) (served : Served) (old new : ListenerAt) → ServesOneIn t key served old new → ServesOneIn s key served old new
one_same x key served old new o = record {
  connection = o.connection;
  past = o.past;
  current = o.current;
  address = o.address;
  owes = owes_same x key o.connection served o.owes;
  link_cause = o.link_cause;
  link_told = o.link_told;
}

-- and what connections owe
pub serves_same : {s t : DirState} → TellsSame s t → (key : List ℕ) (results : List Served) (old new : ListenerAt) → ServesIn t key results old new → ServesIn s key results old new
serves_same x key [] old new is = is
serves_same x key (served ∷ more) old new o = (o.0, one_same x key served old o.0 o.1, serves_same x key more o.0 new o.2)
