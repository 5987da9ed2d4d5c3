use Rattle.std.proofs.Common.{rules, ◌≡◌, length}
use Rattle.pod_report.proofs.whole.read_once.Goals as goal

pub returns-clause-read : goal.returns-clause-read
returns-clause-read g c =
    let room : length c.deref_mut.result.now ≡ c.args.size = search rules in
    rw (room) at c.read_into.ensures.read
