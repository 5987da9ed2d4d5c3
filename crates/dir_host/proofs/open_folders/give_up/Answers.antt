use Rattle.std.proofs.Common.{ap, ◌∙◌, rules}
use Rattle.std.proofs.lemmas.Fn.{filter_same}
use Rattle.dir_host.specs.OpenFolders.{holdings_of}
use Rattle.dir_host.proofs.Holdings.{holdings_closed}
use Rattle.dir_host.proofs.open_folders.give_up.Goals as goal

pub returns : goal.returns
returns c = ap holdings_of (filter_same _ _ _ (λ x b f' k. search rules) _ _ c.retain.ensures.filtered) ∙ holdings_closed c.args.handle c.args.folders.now.items
