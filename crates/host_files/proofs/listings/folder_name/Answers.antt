use Rattle.std.proofs.Common.{sym, ap, ◌∙◌}
use Rattle.dir_trait.specs.declared.bundle.BundleKind.TheVariants.{Dir}
use Rattle.host_files.specs.Shown.{folder_of_kind}
use Rattle.host_files.proofs.Shown.{name_told}
use Rattle.host_files.proofs.listings.folder_name.Goals as goal

pub returns-in-Dir : goal.returns-in-Dir
returns-in-Dir c =
    name_told c.as_str.result.now c.of.result c.of.ensures.some c.of.ensures.bytes ∙ ap (folder_of_kind Dir) c.as_str.ensures.text
    ∙ ap (λ k. folder_of_kind k c.args.item.now.name) (sym c.in-Dir.is)
