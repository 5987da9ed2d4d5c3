use Rattle.std.proofs.Common.{◌++◌}
use Rattle.dir_host.proofs.KnownBytes.{consumes_more}
use Rattle.dir_host.proofs.outside.draw_from.Goals as goal

pub returns-clause-drawn : goal.returns-clause-drawn
returns-clause-drawn g c =
    record {
      identity = c.read_exact.new.buf;
      bytes = consumes_more (g.S.Read.remaining c.args.source.now) (g.S.Read.remaining c.read_exact-2.new.self) (g.S.Read.remaining c.read_exact-3.new.self) (c.read_exact.new.buf ++ c.read_exact-2.new.buf) c.read_exact-3.new.buf
          (consumes_more (g.S.Read.remaining c.args.source.now) (g.S.Read.remaining c.read_exact.new.self) (g.S.Read.remaining c.read_exact-2.new.self) c.read_exact.new.buf c.read_exact-2.new.buf c.in_ok-read_exact.ensures.bytes c.in_ok-read_exact-2.ensures.bytes)
          c.in_ok-read_exact-3.ensures.bytes;
      version = c.pod_of.ensures;
    }
