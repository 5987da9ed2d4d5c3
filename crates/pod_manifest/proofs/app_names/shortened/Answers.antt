use Rattle.std.proofs.Common.{◌≡◌, ◌∙◌, sym, subst, arith}
use Rattle.std.proofs.lemmas.Str.{IsCharBoundary-from_ascii}
use Rattle.ac_types.specs.Names.{is_hyphen, IsAcName, IsNameFault}
use Rattle.ac_types.specs.declared.name_error.NameError.{NameError}
use Rattle.pod_manifest.specs.AppNames.{shortened}
use Rattle.pod_manifest.proofs.Names.{never_bad, shortened_good, shortened_is}
use Rattle.pod_manifest.proofs.Words.{hyphen_ascii, words_ascii}
use Rattle.pod_manifest.proofs.app_names.shortened.Goals as goal

pub range-front-requires-clause-end_boundary : goal.range-front-requires-clause-end_boundary
range-front-requires-clause-end_boundary c =
    IsCharBoundary-from_ascii c.args.words.now c.min.result (words_ascii is_hyphen hyphen_ascii c.args.words.now c.requires) (omega arith)

pub unreachable-requires-in-Err-BadByte : goal.unreachable-requires-in-Err-BadByte
unreachable-requires-in-Err-BadByte c =
    let text = c.without_hyphen.result.now in
    let is : text ≡ shortened c.args.words.now =
    shortened_is c.args.words.now c.range-front.result.now text c.min.result c.min.ensures c.range-front.ensures.value c.without_hyphen.ensures in
    let Faulty : NameError → Type 0 = λ e. IsNameFault is_hyphen 200 text e in
    never_bad text c.in-Err-BadByte.field-0-0 (subst Faulty c.in-Err-BadByte.field-0-is c.in-Err-BadByte.ensures.err)
    (subst IsAcName (sym is) (shortened_good c.args.words.now c.requires))

pub returns-in-Ok : goal.returns-in-Ok
returns-in-Ok c =
    c.in-Ok.ensures.ok
    ∙ shortened_is c.args.words.now c.range-front.result.now c.without_hyphen.result.now c.min.result c.min.ensures
    c.range-front.ensures.value c.without_hyphen.ensures
