use Rattle.std.proofs.Common.{ap, sym, ◌∙◌}
use Rattle.std.specs.Option.{option_copied}
use Rattle.dir_model.specs.Local.{is_handle_of}
use Rattle.dir_host.specs.declared.open_folders.OpenFolder.{OpenFolder}
use Rattle.dir_host.proofs.Holdings.{holdings_any, found_somewhere, found_passes}
use Rattle.dir_host.proofs.locks.lock_handle.Goals as goal

pub lock_folder-requires : goal.lock_folder-requires
lock_folder-requires c =
    found_passes (λ (f : OpenFolder). is_handle_of c.args.handle f.holding) c.args.folders.now c.in-Some.folder.now (sym c.folder_of.ensures ∙ ap option_copied c.in-Some.is)

pub unreachable-requires : goal.unreachable-requires
unreachable-requires c =
    found_somewhere (λ (f : OpenFolder). is_handle_of c.args.handle f.holding) c.args.folders.now (sym (holdings_any c.args.handle c.args.folders.now) ∙ c.requires) (sym c.folder_of.ensures ∙ ap option_copied c.in-None.is)
