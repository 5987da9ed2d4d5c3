use Rattle.std.proofs.Common.{◌≡◌, true}
use Rattle.stage1.specs.AppPlaces.{told_path}
use Rattle.stage1.proofs.Lacking.{damage_for}
use Rattle.stage1.proofs.token.read_token.Goals as goal
use Rattle.pod_files.specs.Places.{token_name}
use Rattle.pod_files.specs.Files.{ReadsNoToken}

pub returns-in-Err-Lacking-clause-lacks : goal.returns-in-Err-Lacking-clause-lacks
returns-in-Err-Lacking-clause-lacks g c =
    let D = g.D.Dir in
    let why = rw c.in-Err-Lacking.field-0-is at c.in-Err-Lacking.ensures.lacks in
    damage_for (told_path c.args.pod token_name) (D.observed ≡ true → ReadsNoToken c.args.pod (D.shown c.args.dir.now) (D.shown c.read_token.new.dir)) c.damaged.result why c.damaged.ensures.damage
