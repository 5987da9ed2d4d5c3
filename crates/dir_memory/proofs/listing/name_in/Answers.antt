use Rattle.std.proofs.Common.{◌≡◌, Some, sym, ap, subst, ◌∙◌}
use Rattle.std.specs.List.{before_first}
use Rattle.dir_model.specs.Names.{IsFileName}
use Rattle.dir_memory.proofs.BundlePaths.{is_slash, leads}
use Rattle.dir_memory.proofs.listing.name_in.Goals as goal

pub returns-in-Some : goal.returns-in-Some
returns-in-Some c = λ name named through.
    let way = leads c.args.path.now c.args.directory.now name named through in
    let some = c.in-Some.ensures way.rest way.behind in
    let same : c.in-Some.rest.now ≡ way.rest = cc in
    let first : c.first_segment.result.now ≡ name = c.first_segment.ensures ∙ (ap (before_first is_slash) same ∙ way.first) in
    c.file_name_of.ensures (subst IsFileName (sym first) named) ∙ ap Some first

pub returns-in-None : goal.returns-in-None
returns-in-None c = λ name named through.
    let way = leads c.args.path.now c.args.directory.now name named through in
    let some = c.in-None.ensures way.rest way.behind in
    cc
