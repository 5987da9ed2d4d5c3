use Rattle.std.proofs.Common.{◌≡◌, true, List, ℕ, sym, ap, subst, ◌∙◌}
use Rattle.dir_model.specs.Paths.{is_path}
use Rattle.dir_rules.specs.Marks.{path_in}
use Rattle.folder_removal.proofs.Paths.{path_of}
use Rattle.folder_removal.proofs.path.join.Goals as goal

pub invariant_of-result : goal.invariant_of-result
invariant_of-result c =
    let d = c.args.directory.now in
    subst (λ (bs : List ℕ). is_path bs ≡ true) (sym (c.in_ok-text.ensures ∙ ap (path_in d) c.as_str.ensures.text)) (path_of d c.args.name.now c.requires c.as_str.ensures.kind)
