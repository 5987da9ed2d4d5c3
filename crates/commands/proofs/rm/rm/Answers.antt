use Rattle.std.proofs.Common.{[], append-nil, sym}
use Rattle.commands.proofs.Unhindered.{rm_completes}
use Rattle.commands.proofs.rm.rm.Goals as goal

pub returns-in-Ok-clause-complete : goal.returns-in-Ok-clause-complete
returns-in-Ok-clause-complete g c =
    let D = g.D.Dir in
    rm_completes D.observed c.args.pod c.args.now (D.shown c.args.dir.now) (D.shown c.remove_saying.new.dir) c.remove_saying.result c.remove_saying.ensures.refusals c.remove_saying.ensures.says

pub returns-in-Err-clause-kept : goal.returns-in-Err-clause-kept
returns-in-Err-clause-kept g c t = record { more = []; grown = sym (append-nil _); kept = tt }
