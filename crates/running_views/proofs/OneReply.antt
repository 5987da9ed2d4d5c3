-- Where no token names two pods, an input has one reply.
use Rattle.std.proofs.Common.{◌≡◌, ℕ, Option, Some, None, List, [], ◌∷◌, length, refl, sym, ap, subst, ◌∙◌}
use Rattle.httparse.specs.Grammar.{RequestHead}
use Rattle.httparse.proofs.GrammarLemmas.{request_unique}
use Rattle.hex.specs.Hex.{encode_lower}
use Rattle.ac_types.specs.Outcomes.{reads}
use Rattle.manifests.specs.PodData.{PodData}
use Rattle.manifests.specs.PodForm.{pod_manifest}
use Rattle.dir_model.specs.declared.pod.PodId.{PodId}
use Rattle.dir_model.specs.State.{DirState}
use Rattle.metadata_request.specs.declared.request.Request.{Request}
use Rattle.metadata_request.specs.Requests.{IsRequestOf, request_of}
use Rattle.metadata_reply.specs.declared.reply.Reply.{Reply}
use Rattle.metadata_reply.specs.Answers.{answer_of}
use Rattle.metadata_reply.specs.ReplyBytes.{reply_bytes}
use Rattle.metadata_reply.specs.Views.{ViewData}
use Rattle.metadata.specs.PodViews.{app_names}
use Rattle.metadata.specs.Serving.{sought}
use Rattle.running_views.specs.Views.{HaveImagesIn, IsViewIn, FindsIn, IsTokenOnce, AreTokensOnce}
use Rattle.running_views.specs.Replies.{IsPodIn, AnswersIn, IsReplyIn}
use Rattle.running_views.proofs.Limits.{sought_token}
use Rattle.running_views.proofs.FoundBefore.{some_same, reads_same}

-- ---- the request

request_one : (input : List ℕ) (a b : Option Request) → IsRequestOf input a → IsRequestOf input b → a ≡ b
request_one input None None x y = refl
request_one input None (Some b) x (h, rest, begins, is) = absurd (x h rest begins)
request_one input (Some a) None (h, rest, begins, is) y = absurd (y h rest begins)
request_one input (Some a) (Some b) (h, rest, begins, is) (k, after, starts, same) =
    let one = request_unique input h k rest after begins.reads starts.reads in
    ap Some (is ∙ (ap (λ (x : RequestHead). request_of x rest) one.0 ∙ (ap (request_of k) one.1 ∙ sym same)))

-- ---- the view

images_one : (s : DirState) (pod : PodId) (apps xs ys : List (List ℕ)) → HaveImagesIn s pod apps xs → HaveImagesIn s pod apps ys → xs ≡ ys
images_one s pod [] [] [] x y = refl
images_one s pod [] [] (b ∷ ys) x y = absurd y
images_one s pod [] (a ∷ xs) ys x y = absurd x
images_one s pod (app ∷ apps) [] ys x y = absurd x
images_one s pod (app ∷ apps) (a ∷ xs) [] x y = absurd y
images_one s pod (app ∷ apps) (a ∷ xs) (b ∷ ys) x y =
    ap (λ (c : List ℕ). c ∷ xs) (some_same a b (sym x.0.0 ∙ y.0.0)) ∙ ap (λ (l : List (List ℕ)). b ∷ l) (images_one s pod apps xs ys x.1 y.1)

abbrev view : List ℕ → PodData → List (List ℕ) → ViewData
view uuid manifest images = record { uuid = uuid; manifest = manifest; images = images }

view_one : (s : DirState) (pod : PodId) (digits : List ℕ) (v w : ViewData) → IsViewIn s pod digits v → IsViewIn s pod digits w → v ≡ w
view_one s pod digits v w x y =
    let uuid : v.uuid ≡ w.uuid = x.uuid ∙ sym y.uuid in
    let file : x.manifest.bytes ≡ y.manifest.bytes = some_same x.manifest.bytes y.manifest.bytes (sym x.manifest.there ∙ y.manifest.there) in
    let manifest : v.manifest ≡ w.manifest = reads_same v.manifest w.manifest (sym x.manifest.is ∙ (ap pod_manifest file ∙ y.manifest.is)) in
    let images : v.images ≡ w.images =
    images_one s pod (app_names w.manifest) v.images w.images
    (subst (λ (m : PodData). HaveImagesIn s pod (app_names m) v.images) manifest x.images) y.images in
    ap (λ (u : List ℕ). view u v.manifest v.images) uuid
    ∙ (ap (λ (m : PodData). view w.uuid m v.images) manifest
    ∙ ap (λ (l : List (List ℕ)). view w.uuid w.manifest l) images)

-- ---- the pod, and so the reply

found_one : (s : DirState) (token : List ℕ) (a b : Option ViewData) → IsTokenOnce s token → FindsIn s token a → FindsIn s token b → a ≡ b
found_one s token None None once x y = refl
found_one s token None (Some w) once x y = absurd (x y.0 w (once.named y.0 w y.1) y.1)
found_one s token (Some v) None once x y = absurd (y x.0 v (once.named x.0 v x.1) x.1)
found_one s token (Some v) (Some w) once x y =
    ap Some (view_one s y.0 (encode_lower token) v w
    (subst (λ (pod : PodId). IsViewIn s pod (encode_lower token) v) (once.one x.0 y.0 v w x.1 y.1) x.1) y.1)

module _ (s : DirState) (once : AreTokensOnce s) where
  pod_one : (o : Option (List ℕ)) → ((token : List ℕ) → o ≡ Some token → length token ≡ 16) → (a b : Option ViewData) → IsPodIn s o a → IsPodIn s o b → a ≡ b
  pod_one None long a b x y = x ∙ sym y
  pod_one (Some token) long a b x y = found_one s token a b (once token (long token refl)) x y

  answers_one : (request : Option Request) (key : List ℕ) (a b : Reply) → AnswersIn s request key a → AnswersIn s request key b → a ≡ b
  answers_one None key a b x y = x ∙ sym y
  answers_one (Some request) key a b x y =
      x.is ∙ (ap (λ (pod : Option ViewData). answer_of request pod key) (pod_one (sought request) (sought_token request) x.pod y.pod x.found y.found) ∙ sym y.is)

  pub reply_one : (input key xs ys : List ℕ) → IsReplyIn s input key xs → IsReplyIn s input key ys → xs ≡ ys
  reply_one input key xs ys x y =
      let same = request_one input x.request y.request x.read y.read in
      let reply : x.reply ≡ y.reply =
      answers_one y.request key x.reply y.reply (subst (λ (r : Option Request). AnswersIn s r key x.reply) same x.answers) y.answers in
      x.bytes_are ∙ (ap reply_bytes reply ∙ sym y.bytes_are)
