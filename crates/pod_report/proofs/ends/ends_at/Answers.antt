use Rattle.std.proofs.Common.{◌≡◌, true, Ok, Err}
use Rattle.plain_laws.proofs.Results.{if_ok}
use Rattle.dir_model.specs.declared.request.DirError.TheVariants.{Missing}
use Rattle.dir_model.specs.Listings.{item_names}
use Rattle.dir_rules.specs.Marks.{status_directory}
use Rattle.dir_laws.proofs.Names.{status_path}
use Rattle.pod_report.specs.Inspections.{TellsEachEnd, TellsEnds}
use Rattle.pod_report.proofs.Asking.{asks_more, looks_directory}
use Rattle.pod_report.proofs.TellingEnds.{ends_shown, ends_missing}
use Rattle.pod_report.proofs.ends.ends_at.Goals as goal

pub items_of-requires-clause-path : goal.items_of-requires-clause-path
items_of-requires-clause-path g c = status_path

pub returns-in-Ok-clause-only : goal.returns-in-Ok-clause-only
returns-in-Ok-clause-only g c = asks_more (looks_directory c.args.pod c.args.area status_directory (Ok c.in-Ok.items) c.of_pod.result c.of_pod.ensures c.requires.stage c.in-Ok.ensures.called) c.ends_of.ensures.only

pub returns-in-Ok-clause-answer_holds : goal.returns-in-Ok-clause-answer_holds
returns-in-Ok-clause-answer_holds g c =
    let D = g.D.Dir in
    let old = D.shown c.args.dir.now in
    let mid = D.shown c.items_of.new.dir in
    let new = D.shown c.ends_of.new.dir in
    let first = looks_directory c.args.pod c.args.area status_directory (Ok c.in-Ok.items) c.of_pod.result c.of_pod.ensures c.requires.stage c.in-Ok.ensures.called in
    if_ok (λ ends. D.observed ≡ true → TellsEachEnd c.args.pod c.args.area (item_names c.as_slice.result.now) ends.items mid.process mid.trace new.trace) (λ ends. D.observed ≡ true → TellsEnds c.args.pod c.args.area ends.items old.process old.trace new.trace) c.ends_of.result
    (λ ends tells t. ends_shown c.args.pod c.args.area c.of_pod.result c.in-Ok.items c.as_slice.result.now ends.items old mid new c.of_pod.ensures c.as_slice.ensures t first c.ends_of.ensures.only c.in-Ok.ensures.ordered (c.in-Ok.ensures.shows t) (tells t)) c.ends_of.ensures.answer_holds

pub returns-in-Err-Missing-clause-only : goal.returns-in-Err-Missing-clause-only
returns-in-Err-Missing-clause-only g c =
    let e = rw c.in-Err-Missing.field-0-is at c.in-Err-Missing.ensures in
    looks_directory c.args.pod c.args.area status_directory (Err Missing) c.of_pod.result c.of_pod.ensures c.requires.stage e.called

pub returns-in-Err-Missing-clause-answer_holds : goal.returns-in-Err-Missing-clause-answer_holds
returns-in-Err-Missing-clause-answer_holds g c t =
    let e = rw c.in-Err-Missing.field-0-is at c.in-Err-Missing.ensures in
    ends_missing c.args.pod c.args.area c.of_pod.result c.new.result.items (g.D.Dir.shown c.args.dir.now) (g.D.Dir.shown c.items_of.new.dir) c.of_pod.ensures c.new.ensures.items t e.called

pub returns-in-Err-clause-only : goal.returns-in-Err-clause-only
returns-in-Err-clause-only g c = looks_directory c.args.pod c.args.area status_directory (Err c.in-Err.error) c.of_pod.result c.of_pod.ensures c.requires.stage c.in-Err.ensures.called
