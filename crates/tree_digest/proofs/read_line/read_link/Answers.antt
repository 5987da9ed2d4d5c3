use Rattle.std.proofs.Common.{◌∷◌, Err, sym, ap, subst, ◌∙◌}
use Rattle.tree_digest.specs.Fields.{escaped, field}
use Rattle.path_map.specs.Paths.{HasNone}
use Rattle.tree_digest.proofs.Cuts.{cut_once, escaped_clear_space}
use Rattle.path_map.proofs.Ends.{has_cut}
use Rattle.tree_digest.proofs.LineTexts.{reads_fault, meta_once, link_of}
use Rattle.tree_digest.proofs.read_line.read_link.Goals as goal

pub returns-in_default-cut : goal.returns-in_default-cut
returns-in_default-cut c = λ line is.
    let d = link_of c.args.text.now line is in
    let targets = meta_once c.in-Some.meta d.meta c.in-Some.targets.now (field (escaped d.target) (escaped line.path)) (sym c.in-Some.ensures.some.0 ∙ d.text_is) in
    has_cut 32 (escaped d.target) (escaped line.path) (subst (HasNone 32) targets c.in_default-cut.ensures.none)

pub returns-in-Err-read_path : goal.returns-in-Err-read_path
returns-in-Err-read_path c =
    reads_fault (108 ∷ 32 ∷ c.args.text.now) c.line_fault.result c.line_fault.ensures.short (λ bad line is.
    let d = link_of c.args.text.now line is in
    let targets = meta_once c.in-Some.meta d.meta c.in-Some.targets.now (field (escaped d.target) (escaped line.path)) (sym c.in-Some.ensures.some.0 ∙ d.text_is) in
    let once = cut_once 32 c.in-Some-cut.field.now c.in-Some-cut.rest.now (escaped d.target) (escaped line.path) c.in-Some-cut.ensures.some.1 (escaped_clear_space d.target) (sym c.in-Some-cut.ensures.some.0 ∙ targets) in
    c.in-Err-read_path.ensures.bad (ap Err (c.line_fault.ensures.bad bad)) line.path is.0.path once.1)

pub returns-in-Err : goal.returns-in-Err
returns-in-Err c =
    reads_fault (108 ∷ 32 ∷ c.args.text.now) c.line_fault-in-Err.result c.line_fault-in-Err.ensures.short (λ bad line is.
    let d = link_of c.args.text.now line is in
    let targets = meta_once c.in-Some.meta d.meta c.in-Some.targets.now (field (escaped d.target) (escaped line.path)) (sym c.in-Some.ensures.some.0 ∙ d.text_is) in
    let once = cut_once 32 c.in-Some-cut.field.now c.in-Some-cut.rest.now (escaped d.target) (escaped line.path) c.in-Some-cut.ensures.some.1 (escaped_clear_space d.target) (sym c.in-Some-cut.ensures.some.0 ∙ targets) in
    c.in-Err.ensures.bad (ap Err (c.line_fault-in-Err.ensures.bad bad)) d.target d.good once.0)
