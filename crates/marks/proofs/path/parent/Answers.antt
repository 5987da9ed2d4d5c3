use Rattle.std.proofs.Common.{arith}
use Rattle.marks.proofs.Texts.{scan_first}
use Rattle.marks.proofs.path.parent.Goals as goal

pub bytes-init : goal.bytes-init
bytes-init c = (omega arith, scan_first c.args.path.now)
