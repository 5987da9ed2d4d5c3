use Rattle.std.proofs.Common.{◌≡◌, sym, ap, ◌∙◌, rules}
use Rattle.path_map.specs.Paths.{path_fault}
use Rattle.tree_digest.specs.Fields.{escaped}
use Rattle.tree_digest.proofs.Texts.{escaped_same}
use Rattle.tree_digest.proofs.escapes.read_path.Goals as goal

pub returns-clause-bad : goal.returns-clause-bad
returns-clause-bad c = λ bad path valid e.
    let field : c.args.field.now ≡ escaped c.as_str.result.now = search rules in
    let same : c.as_str.result.now ≡ path = escaped_same _ path c.as_str.utf8 valid.text (sym field ∙ e) in
    let memory = c.in-Err.ensures.memory (ap path_fault same ∙ valid.sound) in
    c.field_fault.ensures (search rules) memory
