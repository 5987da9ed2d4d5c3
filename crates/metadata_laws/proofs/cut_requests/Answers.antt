use Rattle.std.proofs.Common.{◌≡◌, ℕ, ◌≤◌, List, length, Option, Some, None, refl, sym, ap, subst, ◌∙◌}
use Rattle.httparse.specs.Grammar.{RequestHead, print_request}
use Rattle.metadata_request.specs.declared.request.Request.{Request}
use Rattle.metadata_reply.specs.Answers.{answer_of, refused}
use Rattle.metadata_reply.specs.Views.{ViewData}
use Rattle.metadata_laws.specs.Cuts.{IsCut, reply_to}
use Rattle.metadata_laws.proofs.Cuts.{cut_head, cut_body, cut_is}
use Rattle.metadata_laws.proofs.Posts.{some_pod, post_found, bad_post, post_gone}
use Rattle.metadata_laws.proofs.cut_requests.Goals as goal

later : (whole front : List ℕ) (h : RequestHead) (request : Request) (read : Option Request) (pod : Option ViewData) (key : List ℕ) (other : ViewData) (other_key : List ℕ)
    → IsCut whole front h request read → (answer_of request pod key).status ≡ 200 → reply_to read (Some other) other_key ≡ refused 400
later whole front h request None pod key other other_key cut found = refl
later whole front h request (Some read) pod key other other_key cut found =
    let same = cut_is whole front h request read cut in
    ap (λ (r : Request). answer_of r (Some other) other_key) same.1 ∙ bad_post request other other_key same.0 (post_found request pod key same.0 found)

gone : (whole front : List ℕ) (h : RequestHead) (request : Request) (read : Option Request) (pod : Option ViewData) (key other_key : List ℕ)
    → IsCut whole front h request read → (answer_of request pod key).status ≡ 200 → length (print_request h) ≤ length front → reply_to read None other_key ≡ refused 404
gone whole front h request None pod key other_key cut found fits =
    let some = cut_body whole front h request None cut fits in
    cc
gone whole front h request (Some read) pod key other_key cut found fits =
    let same = cut_is whole front h request read cut in
    ap (λ (r : Request). answer_of r None other_key) same.1 ∙ post_gone request other_key (post_found request pod key same.0 found)

pub returns-clause-cut : goal.returns-clause-cut
returns-clause-cut c = λ whole front h request read pod key cut found.
    let there = some_pod request pod key found in
    subst (λ (p : Option ViewData). reply_to read p key ≡ refused 400) (sym there.1) (later whole front h request read pod key there.0 key cut found)

pub returns-clause-later : goal.returns-clause-later
returns-clause-later c = later

pub returns-clause-gone : goal.returns-clause-gone
returns-clause-gone c = gone

pub returns-clause-head : goal.returns-clause-head
returns-clause-head c = cut_head

pub returns-clause-body : goal.returns-clause-body
returns-clause-body c = cut_body
