use Rattle.std.proofs.Common.{◌≡◌, true}
use Rattle.host_listener.proofs.connection.send_part.Given as goal

abbrev pub invariant-tries : goal.invariant-tries
invariant-tries g l = record {
  told : g.N.Network.observed ≡ true → g.N.Network.facts l.network ≡ g.N.Network.facts l.fn.network;
  same : g.N.Network.number l.stream ≡ g.N.Network.number l.fn.stream;
}
