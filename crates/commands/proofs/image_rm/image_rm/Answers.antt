use Rattle.std.proofs.Common.{[], append-nil, sym}
use Rattle.commands.proofs.image_rm.image_rm.Goals as goal

pub returns-in-Err-clause-kept : goal.returns-in-Err-clause-kept
returns-in-Err-clause-kept g c t = record { more = []; grown = sym (append-nil _); kept = tt }
