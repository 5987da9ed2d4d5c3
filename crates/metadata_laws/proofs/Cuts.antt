-- What is read of a proper beginning of one request.
use Rattle.std.proofs.Common.{◌≡◌, ℕ, ◌<◌, ◌≤◌, Bool, true, false, cond, List, ◌++◌, length, take, drop, Option, Some, None, codes, refl, sym, ap, subst, ◌∙◌, arith, ltb, length-append}
use Rattle.std.specs.Str.{bytes_eq}
use Rattle.std.proofs.lemmas.Bool.Decides.{nat_tests}
use Rattle.std.proofs.lemmas.List.{take-append-drop, take_at, take-append-le}
use Rattle.httparse.specs.Grammar.{RequestHead, ReadsRequest, print_request}
use Rattle.httparse.proofs.GrammarLemmas.{request_unique, request_prefix_free}
use Rattle.metadata_request.specs.declared.request.Body.{Body}
use Rattle.metadata_request.specs.declared.request.Body.TheVariants.{Absent, Bad}
use Rattle.metadata_request.specs.declared.request.Request.{Request}
use Rattle.metadata_request.specs.Fields.{body_length}
use Rattle.metadata_request.specs.Heads.{BeginsWithHead, fields_of}
use Rattle.metadata_request.specs.Requests.{IsRequestOf, request_of, body_of, stated_body, text_body}
use Rattle.metadata_laws.specs.Cuts.{IsOneRequest, IsProperBeginning, IsCut, with_bad_body}

-- two beginnings of one list: the longer begins with the shorter
same_front : (front back head body : List ℕ) → front ++ back ≡ head ++ body → length head ≤ length front → front ≡ head ++ drop (length head) front
same_front front back head body is fits =
    let left = take-append-le (length head) front back fits in
    let right = take_at head body (length head) refl in
    let same : take (length head) front ≡ head = sym left ∙ (ap (take (length head)) is ∙ right) in
    sym (take-append-drop (length head) front) ∙ ap (λ xs. xs ++ drop (length head) front) same

-- a head in the front is that of the whole, and less than the body follows it
front_has : (whole front body rest : List ℕ) (h k : RequestHead) → IsOneRequest whole h body → IsProperBeginning front whole → BeginsWithHead front k rest → (k ≡ h) × (length rest < length body)
front_has whole front body rest h k one cut begins =
    let reads : ReadsRequest (front ++ cut.back) h body = subst (λ t. ReadsRequest t h body) cut.is one.begins.reads in
    let both = request_prefix_free front cut.back k h rest body begins.reads reads in
    (both.0, omega (arith, ap length both.1, length-append rest cut.back, cut.some))

-- a front that is shorter than the head is no request
pub cut_head : (whole front : List ℕ) (h : RequestHead) (request : Request) (read : Option Request) → IsCut whole front h request read → length front < length (print_request h) → read ≡ None
cut_head whole front h request None cut short = refl
cut_head whole front h request (Some read) cut short = absurd (too_long cut.read_is)
  where
    too_long : IsRequestOf front (Some read) → ⊥
    too_long (k, rest, begins, is) =
        let has = front_has whole front cut.body rest h k cut.one cut.beginning begins in
        let long : length (print_request k) ≡ length (print_request h) = ap (λ (x : RequestHead). length (print_request x)) has.0 in
        omega (arith, short, long, ap length begins.reads.1, length-append (print_request k) rest)

-- less than is stated came, so the method is POST and the body is bad
less_came : (post : Bool) (length_stated : Option ℕ) (n : ℕ) (rest : List ℕ) → cond post length_stated (Some 0) ≡ Some n → length rest < n → (post ≡ true) × (cond post (stated_body length_stated rest) Absent ≡ Bad)
less_came true None n rest is few = cc
less_came true (Some m) n rest is few =
    let same : m ≡ n = cc in
    let short : ltb (length rest) m ≡ true = grind (arith, nat_tests, same, few) in
    (refl, ap (λ (b : Bool). cond b Bad (text_body (take m rest))) short)
less_came false length_stated n rest is few =
    let none : 0 ≡ n = cc in
    absurd (omega (arith, none, few))

bad_body : (whole body rest : List ℕ) (h : RequestHead) → IsOneRequest whole h body → length rest < length body → (bytes_eq h.method (codes "POST") ≡ true) × (body_of h rest ≡ Bad)
bad_body whole body rest h one few = less_came (bytes_eq h.method (codes "POST")) (body_length (fields_of h)) (length body) rest one.stated few

-- the request of the whole
request_is : (whole body : List ℕ) (h : RequestHead) (request : Request) → IsOneRequest whole h body → IsRequestOf whole (Some request) → request ≡ request_of h body
request_is whole body h request one (k, rest, begins, is) =
    let same = request_unique whole k h rest body begins.reads one.begins.reads in
    is ∙ (ap (λ (x : RequestHead). request_of x rest) same.0 ∙ ap (request_of h) same.1)

-- a front that is a request is that of the whole, a POST, with a bad body
pub cut_is : (whole front : List ℕ) (h : RequestHead) (request read : Request) → IsCut whole front h request (Some read) → (bytes_eq request.method (codes "POST") ≡ true) × (read ≡ with_bad_body request)
cut_is whole front h request read cut = by cut.read_is
  where
    by : IsRequestOf front (Some read) → (bytes_eq request.method (codes "POST") ≡ true) × (read ≡ with_bad_body request)
    by (k, rest, begins, is) =
        let has = front_has whole front cut.body rest h k cut.one cut.beginning begins in
        let all = request_is whole cut.body h request cut.one cut.asked in
        let bad = bad_body whole cut.body rest h cut.one has.1 in
        let same : read ≡ request_of h rest = is ∙ ap (λ (x : RequestHead). request_of x rest) has.0 in
        let lacks : request_of h rest ≡ with_bad_body (request_of h cut.body) = ap (λ (b : Body). record (request_of h cut.body) { body = b }) bad.1 in
        (ap (λ (r : Request). bytes_eq r.method (codes "POST")) all ∙ bad.0, same ∙ (lacks ∙ ap with_bad_body (sym all)))

-- a front that is no shorter than the head begins with it
begins_too : (whole front body : List ℕ) (h : RequestHead) → IsOneRequest whole h body → IsProperBeginning front whole → length (print_request h) ≤ length front → BeginsWithHead front h (drop (length (print_request h)) front)
begins_too whole front body h one cut fits = record {
  reads = (one.begins.reads.0, same_front front cut.back (print_request h) body (sym cut.is ∙ one.begins.reads.1) fits);
  limits = one.begins.limits;
}

-- so it is that request
pub cut_body : (whole front : List ℕ) (h : RequestHead) (request : Request) (read : Option Request) → IsCut whole front h request read → length (print_request h) ≤ length front → read ≡ Some (with_bad_body request)
cut_body whole front h request None cut fits = absurd (cut.read_is h _ (begins_too whole front cut.body h cut.one cut.beginning fits))
cut_body whole front h request (Some read) cut fits = ap Some (cut_is whole front h request read cut).1
