use Rattle.std.proofs.Common.{◌∷◌, Err, sym, ap, ◌∙◌}
use Rattle.tree_digest.specs.Fields.{escaped}
use Rattle.tree_digest.proofs.LineTexts.{reads_fault, meta_once, directory_of}
use Rattle.tree_digest.proofs.read_line.read_directory.Goals as goal

pub returns-in-Err : goal.returns-in-Err
returns-in-Err c =
    reads_fault (100 ∷ 32 ∷ c.args.text.now) c.line_fault.result c.line_fault.ensures.short (λ bad line is.
    let d = directory_of c.args.text.now line is in
    let rest = meta_once c.in-Some.meta d.meta c.in-Some.rest.now (escaped line.path) (sym c.in-Some.ensures.some.0 ∙ d.text_is) in
    c.in-Err.ensures.bad (ap Err (c.line_fault.ensures.bad bad)) line.path is.0.path rest)
