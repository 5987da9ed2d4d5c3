use Rattle.std.proofs.Common.{◌≡◌, true, option_map}
use Rattle.plain_laws.proofs.Results.{if_ok}
use Rattle.metadata_reply.specs.Answers.{answer_of}
use Rattle.metadata_reply.specs.Views.{view_data}
use Rattle.metadata.specs.Serving.{RepliesFor}
use Rattle.metadata.proofs.connection.reply_for.Goals as goal

pub returns-in-Ok-clause-reply : goal.returns-in-Ok-clause-reply
returns-in-Ok-clause-reply g c =
    let D = g.D.Dir in
    let pod = option_map view_data c.in-Ok.pod in
    if_ok (λ reply. reply ≡ answer_of c.args.request.now pod c.args.key.now) (λ reply. D.observed ≡ true → RepliesFor c.args.request.now c.args.key.now reply (D.shown c.args.dir.now) (D.shown c.pod_for.new.dir)) c.answered.result
    (λ reply is t. record { pod = pod; found = rw c.sought.ensures at (c.in-Ok.ensures.found t); is = is }) c.answered.ensures.reply
