-- The replies to a POST, with its body and with a bad one.
use Rattle.std.proofs.Common.{◌≡◌, ℕ, ◌+◌, Bool, true, false, not, cond, List, [], ◌∷◌, Option, Some, None, option_map, find, codes, refl, sym, ap, subst, ◌∙◌, arith}
use Rattle.std.specs.Prelude.{⊤}
use Rattle.std.specs.Option.{option_or}
use Rattle.std.specs.Str.{bytes_eq}
use Rattle.std.proofs.lemmas.Slice.Eq.{bytes_eq-Decides}
use Rattle.metadata_request.specs.declared.request.Body.TheVariants.{Bad}
use Rattle.metadata_request.specs.declared.request.Request.{Request}
use Rattle.metadata_reply.specs.declared.reply.Allow.{Allow}
use Rattle.metadata_reply.specs.declared.reply.Allow.TheVariants.{Get, Post}
use Rattle.metadata_reply.specs.declared.reply.Reply.{Reply}
use Rattle.metadata_reply.specs.declared.resource.Resource.{Resource}
use Rattle.metadata_reply.specs.declared.resource.Resource.TheVariants.{PodAnnotations, PodManifest, PodUuid, Sign, Verify, AppAnnotations, ImageManifest, ImageId}
use Rattle.metadata_reply.specs.Answers.{answer_of, answered, asked, view_app_names, method_of, method_text, not_allowed, refused, reply_at}
use Rattle.metadata_reply.specs.Resources.{Entry, lookup, table, pod_table, apps_table, app_table, app_path}
use Rattle.metadata_reply.specs.Targets.{token_of, target_path}
use Rattle.metadata_reply.specs.Views.{ViewData}
use Rattle.metadata_reply.proofs.Lookups.{lookup-append}
use Rattle.metadata_laws.specs.Cuts.{with_bad_body}

-- ---- what stands at a path

-- the method is GET, of whatever stands there
abbrev IsGot : Option Resource → Type 0
IsGot None = ⊤
IsGot (Some r) = method_of r ≡ Get

got_or : (a b : Option Resource) → IsGot a → IsGot b → IsGot (option_or a b)
got_or None b x y = y
got_or (Some r) b x y = x

one_more : (path : List ℕ) (entry : Entry) (entries : List Entry) → method_of entry.1 ≡ Get → IsGot (lookup path entries) → IsGot (lookup path (entry ∷ entries))
one_more path entry entries get others = by (bytes_eq path entry.0)
  where
    by : (b : Bool) → IsGot (option_map (λ (e : Entry). e.1) (cond b (Some entry) (find (λ (e : Entry). bytes_eq path e.0) entries)))
    by true = get
    by false = others

-- all of apps is
apps_got : (path : List ℕ) (place : ℕ) (names : List (List ℕ)) → IsGot (lookup path (apps_table place names))
apps_got path place [] = tt
apps_got path place (name ∷ names) =
    let annotations : Entry = (app_path name (codes "/annotations"), AppAnnotations place) in
    let manifest : Entry = (app_path name (codes "/image/manifest"), ImageManifest place) in
    let id : Entry = (app_path name (codes "/image/id"), ImageId place) in
    let last = one_more path id [] refl tt in
    let later = one_more path manifest (id ∷ []) refl last in
    let app : IsGot (lookup path (app_table place name)) = one_more path annotations (manifest ∷ id ∷ []) refl later in
    subst IsGot (sym (lookup-append path (app_table place name) (apps_table (place + 1) names)))
    (got_or (lookup path (app_table place name)) (lookup path (apps_table (place + 1) names)) app (apps_got path (place + 1) names))

get_no_post : (r : Resource) → method_of r ≡ Get → method_of r ≡ Post → ⊥
get_no_post r get post = cc

in_pod : (a b : Option Resource) (r : Resource) → IsGot b → method_of r ≡ Post → option_or a b ≡ Some r → a ≡ Some r
in_pod None None r got post is = cc
in_pod None (Some q) r got post is =
    let same : q ≡ r = cc in
    absurd (get_no_post r (subst (λ (x : Resource). method_of x ≡ Get) same got) post)
in_pod (Some p) b r got post is = is

-- what is asked for by a POST stands at the same path whatever the apps are
pub posted : (path : List ℕ) (names others : List (List ℕ)) (r : Resource) → method_of r ≡ Post → lookup path (table names) ≡ Some r → lookup path (table others) ≡ Some r
posted path names others r post is =
    let first = in_pod (lookup path pod_table) (lookup path (apps_table 0 names)) r (apps_got path 0 names) post (sym (lookup-append path pod_table (apps_table 0 names)) ∙ is) in
    lookup-append path pod_table (apps_table 0 others) ∙ ap (λ o. option_or o (lookup path (apps_table 0 others))) first

-- ---- what is answered

get_is_no_post : (method : List ℕ) → bytes_eq method (codes "POST") ≡ true → bytes_eq method (codes "GET") ≡ true → ⊥
get_is_no_post method post get =
    let same : codes "POST" ≡ codes "GET" = sym ((bytes_eq-Decides method (codes "POST")).0 post) ∙ (bytes_eq-Decides method (codes "GET")).0 get in
    cc

allowed : (b : Bool) (reply : Reply) (m : Allow) → (cond b reply (not_allowed m)).status ≡ 200 → b ≡ true
allowed true reply m is = refl
allowed false reply m is = absurd (omega (arith, is))

post_of : (method : List ℕ) (m : Allow) → bytes_eq method (codes "POST") ≡ true → bytes_eq method (method_text m) ≡ true → m ≡ Post
post_of method Get post is = absurd (get_is_no_post method post is)
post_of method Post post is = refl

asked_post : (request : Request) (v : ViewData) (key : List ℕ) (o : Option Resource) → bytes_eq request.method (codes "POST") ≡ true → (asked request v key o).status ≡ 200
    → (r : Resource) × (o ≡ Some r) × (method_of r ≡ Post)
asked_post request v key None post is = absurd (omega (arith, is))
asked_post request v key (Some r) post is =
    let fits = allowed (bytes_eq request.method (method_text (method_of r))) (reply_at r v request.body key) (method_of r) is in
    (r, refl, post_of request.method (method_of r) post fits)

-- a POST that is answered with 200 has the flavor, a token, and a resource that is found for every pod
pub record IsPosted (request : Request) : Type 0 where
  pub flavor : request.flavor ≡ true
  pub token : List ℕ
  pub token_is : token_of request.target ≡ Some token
  pub resource : Resource
  pub method : method_of resource ≡ Post
  pub found : (v : ViewData) → lookup (target_path request.target) (table (view_app_names v)) ≡ Some resource

flavored : (b : Bool) (reply : Reply) → (cond (not b) (refused 403) reply).status ≡ 200 → (b ≡ true) × (reply.status ≡ 200)
flavored true reply is = (refl, is)
flavored false reply is = absurd (omega (arith, is))

answered_post : (request : Request) (key : List ℕ) (token : Option (List ℕ)) (pod : Option ViewData) → token_of request.target ≡ token → request.flavor ≡ true → bytes_eq request.method (codes "POST") ≡ true
    → (answered request key token pod).status ≡ 200 → IsPosted request
answered_post request key None pod at flavor post is = absurd (omega (arith, is))
answered_post request key (Some token) None at flavor post is = absurd (omega (arith, is))
answered_post request key (Some token) (Some v) at flavor post is =
    let found = asked_post request v key (lookup (target_path request.target) (table (view_app_names v))) post is in
    record {
      flavor = flavor;
      token = token;
      token_is = at;
      resource = found.0;
      method = found.2;
      found = λ other. posted (target_path request.target) (view_app_names v) (view_app_names other) found.0 found.2 found.1;
    }

pub post_found : (request : Request) (pod : Option ViewData) (key : List ℕ) → bytes_eq request.method (codes "POST") ≡ true → (answer_of request pod key).status ≡ 200 → IsPosted request
post_found request pod key post is =
    let first = flavored request.flavor (answered request key (token_of request.target) pod) is in
    answered_post request key (token_of request.target) pod refl first.0 post first.1

-- what is answered with 200 is answered for a pod
pod_there : (request : Request) (key : List ℕ) (token : Option (List ℕ)) (pod : Option ViewData) → (answered request key token pod).status ≡ 200 → (v : ViewData) × (pod ≡ Some v)
pod_there request key None pod is = absurd (omega (arith, is))
pod_there request key (Some token) None is = absurd (omega (arith, is))
pod_there request key (Some token) (Some v) is = (v, refl)

pub some_pod : (request : Request) (pod : Option ViewData) (key : List ℕ) → (answer_of request pod key).status ≡ 200 → (v : ViewData) × (pod ≡ Some v)
some_pod request pod key is = pod_there request key (token_of request.target) pod (flavored request.flavor (answered request key (token_of request.target) pod) is).1

-- whatever is asked for by a POST needs a form
form_needed : (r : Resource) (v : ViewData) (key : List ℕ) → method_of r ≡ Post → reply_at r v Bad key ≡ refused 400
form_needed Sign v key post = refl
form_needed Verify v key post = refl
form_needed PodAnnotations v key post = cc
form_needed PodManifest v key post = cc
form_needed PodUuid v key post = cc
form_needed (AppAnnotations place) v key post = cc
form_needed (ImageManifest place) v key post = cc
form_needed (ImageId place) v key post = cc

by_flavor : (b : Bool) (reply : Reply) → b ≡ true → cond (not b) (refused 403) reply ≡ reply
by_flavor true reply is = refl
by_flavor false reply is = cc

-- without its body it is refused, whichever pod is found
pub bad_post : (request : Request) (v : ViewData) (key : List ℕ) → bytes_eq request.method (codes "POST") ≡ true → IsPosted request → answer_of (with_bad_body request) (Some v) key ≡ refused 400
bad_post request v key post is =
    let lacks = with_bad_body request in
    let flavor = by_flavor request.flavor (answered lacks key (token_of request.target) (Some v)) is.flavor in
    let token = ap (λ (o : Option (List ℕ)). answered lacks key o (Some v)) is.token_is in
    let resource = ap (asked lacks v key) (is.found v) in
    let fits : bytes_eq request.method (method_text (method_of is.resource)) ≡ true = ap (λ (m : Allow). bytes_eq request.method (method_text m)) is.method ∙ post in
    let allowed = ap (λ (b : Bool). cond b (reply_at is.resource v Bad key) (not_allowed (method_of is.resource))) fits in
    flavor ∙ (token ∙ (resource ∙ (allowed ∙ form_needed is.resource v key is.method)))

-- and where none is found, there is nothing at its target
pub post_gone : (request : Request) (key : List ℕ) → IsPosted request → answer_of (with_bad_body request) None key ≡ refused 404
post_gone request key is =
    let lacks = with_bad_body request in
    let flavor = by_flavor request.flavor (answered lacks key (token_of request.target) None) is.flavor in
    let token = ap (λ (o : Option (List ℕ)). answered lacks key o None) is.token_is in
    flavor ∙ token
