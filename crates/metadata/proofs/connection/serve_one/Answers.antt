use Rattle.std.proofs.Common.{rules, string_bytes}
use Rattle.metadata.proofs.Replied.{served}
use Rattle.metadata.proofs.connection.serve_one.Goals as goal

pub returns-in-Ok-write_whole-clause-serves : goal.returns-in-Ok-write_whole-clause-serves
returns-in-Ok-write_whole-clause-serves g c l d =
    let D = g.D.Dir in
    let L = g.L.Listener in
    served l c.args.key.now (L.shown c.args.link.now) (L.shown c.next_reply.new.link) (L.shown c.write_whole.new.link) (D.shown c.args.dir.now) (D.shown c.next_reply.new.dir) (string_bytes c.in-Ok.text) c.as_bytes.result.now (search rules) (c.in-Ok.ensures.reply l d) c.next_reply.ensures.read (search rules)
