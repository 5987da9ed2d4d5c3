use Rattle.std.proofs.Common.{◌≡◌, map, arith, ap, ◌∙◌}
use Rattle.std.proofs.lemmas.Grind.{common_steps}
use Rattle.std.proofs.lemmas.List.Edits.{map_over_more}
use Rattle.dir_host.specs.OpenFolders.{holdings_of}
use Rattle.dir_host.proofs.Holdings.{locked_folder, holdings_locked}
use Rattle.dir_host.proofs.open_folders.set_lock.Goals as goal

pub loop-open-preserved : goal.loop-open-preserved
loop-open-preserved c = rw c.held_by-open.ensures (grind (arith, common_steps, map_over_more (locked_folder c.args.handle c.args.mode)))

pub returns : goal.returns
returns c =
    let whole : c.loop-open.folders ≡ map (locked_folder c.args.handle c.args.mode) c.args.folders.now = grind (arith, common_steps) in
    ap holdings_of whole ∙ holdings_locked c.args.handle c.args.mode c.args.folders.now
