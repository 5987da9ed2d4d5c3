use Rattle.std.proofs.Common.{Err, ap, refl, ◌∙◌}
use Rattle.command_outcomes.specs.declared.refusal.Refusal.TheVariants.{DirFault, BundleFault}
use Rattle.commands.specs.ImageImport.{key_line, source_of}
use Rattle.command_outcomes.specs.Moments.{bundle_at}
use Rattle.commands.proofs.ImageImports.{import_error, refusal_allowed, fault_cause, said_bundle_fault, printed_allowed, printed_no_error, import_keeps, printed_says, refused_says}
use Rattle.commands.proofs.image_import.image_import.Goals as goal

pub import_refusal-requires : goal.import_refusal-requires
import_refusal-requires g c = import_error c.in-Err.ensures.refused

pub returns-in-Ok-clause-cause : goal.returns-in-Ok-clause-cause
returns-in-Ok-clause-cause g c is = printed_no_error c.printed_key.result (key_line c.in-Ok.done.key) DirFault c.printed_key.ensures is refl

pub returns-in-Ok-clause-bundle_cause : goal.returns-in-Ok-clause-bundle_cause
returns-in-Ok-clause-bundle_cause g c is = printed_no_error c.printed_key.result (key_line c.in-Ok.done.key) BundleFault c.printed_key.ensures is refl

pub returns-in-Ok-clause-refusals : goal.returns-in-Ok-clause-refusals
returns-in-Ok-clause-refusals g c = printed_allowed c.printed_key.result (key_line c.in-Ok.done.key) c.printed_key.ensures

pub returns-in-Ok-clause-known : goal.returns-in-Ok-clause-known
returns-in-Ok-clause-known g c t intent imports k =
    import_keeps g.D.Dir.observed (g.D.Dir.shown c.args.dir.now) (g.D.Dir.shown c.import.new.dir) (source_of c.as_str.result.now (bundle_at g.B.Bundle c.args.bundle.now)) c.args.draw c.args.now c.import.result (c.import.ensures.leaves t) intent imports k

pub returns-in-Ok-clause-says : goal.returns-in-Ok-clause-says
returns-in-Ok-clause-says g c =
    let D = g.D.Dir in
    printed_says D.observed (D.shown c.args.dir.now) (D.shown c.import.new.dir) c.args.path.now c.args.now c.args.draw (bundle_at g.B.Bundle c.args.bundle.now) (bundle_at g.B.Bundle c.import.new.bundle) c.in-Ok.done c.printed_key.result c.printed_key.ensures
    (rw c.as_str.ensures at c.in-Ok.ensures.there) (rw c.as_str.ensures at c.in-Ok.ensures.imported) (rw c.in-Ok.is at c.import.ensures.moves)

pub returns-in-Err-clause-cause : goal.returns-in-Err-clause-cause
returns-in-Err-clause-cause g c is = fault_cause c.import_refusal.result c.in-Err.ensures.refused c.import_refusal.ensures cc

pub returns-in-Err-clause-bundle_cause : goal.returns-in-Err-clause-bundle_cause
returns-in-Err-clause-bundle_cause g c is = c.import.ensures.bundle_cause (c.in-Err.is ∙ ap Err (said_bundle_fault c.in-Err.error c.import_refusal.result c.import_refusal.ensures cc))

pub returns-in-Err-clause-refusals : goal.returns-in-Err-clause-refusals
returns-in-Err-clause-refusals g c = refusal_allowed c.in-Err.error c.import_refusal.result (import_error c.in-Err.ensures.refused) c.import_refusal.ensures

pub returns-in-Err-clause-known : goal.returns-in-Err-clause-known
returns-in-Err-clause-known g c t intent imports k =
    import_keeps g.D.Dir.observed (g.D.Dir.shown c.args.dir.now) (g.D.Dir.shown c.import.new.dir) (source_of c.as_str.result.now (bundle_at g.B.Bundle c.args.bundle.now)) c.args.draw c.args.now c.import.result (c.import.ensures.leaves t) intent imports k

pub returns-in-Err-clause-says : goal.returns-in-Err-clause-says
returns-in-Err-clause-says g c =
    let D = g.D.Dir in
    refused_says D.observed (D.shown c.args.dir.now) (D.shown c.import.new.dir) c.args.path.now c.args.now c.args.draw (bundle_at g.B.Bundle c.args.bundle.now) (bundle_at g.B.Bundle c.import.new.bundle) c.in-Err.error c.import_refusal.result
    c.import_refusal.ensures (rw c.as_str.ensures at c.in-Err.ensures.refused) (rw c.as_str.ensures at c.in-Err.ensures.turn) (rw c.in-Err.is at c.import.ensures.moves) c.in-Err.ensures.by_other_process
