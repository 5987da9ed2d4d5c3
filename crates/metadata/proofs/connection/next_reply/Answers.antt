use Rattle.std.proofs.Common.{◌≡◌, true, string_bytes}
use Rattle.plain_laws.proofs.Results.{if_ok}
use Rattle.metadata_request.specs.Inputs.{unread_of}
use Rattle.metadata_reply.specs.ReplyBytes.{reply_bytes}
use Rattle.metadata.specs.Serving.{IsReplyTo}
use Rattle.metadata.proofs.connection.next_reply.Goals as goal

pub returns-in-Ok-reply_to-clause-reply : goal.returns-in-Ok-reply_to-clause-reply
returns-in-Ok-reply_to-clause-reply g c =
    let D = g.D.Dir in
    let L = g.L.Listener in
    if_ok (λ text. string_bytes text ≡ reply_bytes c.in-Ok-reply_to.reply) (λ text. L.observed ≡ true → D.observed ≡ true → IsReplyTo (unread_of (L.shown c.args.link.now).current) c.args.key.now (string_bytes text) (D.shown c.args.dir.now) (D.shown c.reply_to.new.dir)) c.bytes_of.result
    (λ text is l d. record { request = c.in-Ok.request; read = c.in-Ok.ensures.request l; reply = c.in-Ok-reply_to.reply; answers = c.in-Ok-reply_to.ensures.reply d; bytes_are = is }) c.bytes_of.ensures.bytes
