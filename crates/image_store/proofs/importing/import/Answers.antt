use Rattle.std.proofs.Common.{◌≡◌, true, inr, rules, refl, sym, subst, ◌∙◌}
use Rattle.plain_laws.proofs.Results.{if_err, err_same}
use Rattle.image_reading.specs.declared.error.StoreError.{StoreError}
use Rattle.image_reading.specs.declared.error.StoreError.TheVariants.{Stray}
use Rattle.image_store.specs.Refusals.{is_import_refusal}
use Rattle.image_store.specs.Causes.{bundle_source_at, is_late, FoundInTurn, ImportCause}
use Rattle.image_store.specs.Imports.{key_of_image, digest_of, IsImportRefused, RefusalComesInTurn}
use Rattle.image_store.proofs.Refusals.{bundle_early, bundle_sound}
use Rattle.image_store.proofs.Placings.{same_key}
use Rattle.image_store.proofs.Ends.{cause_before_reads, turn_before_reads, brought_is_imported}
use Rattle.image_store.proofs.Lawful.{of_error, no_stray_cause}
use Rattle.image_store.proofs.importing.import.Goals as goal

pub returns-in_err-there-in-Ok-clause-refused : goal.returns-in_err-there-in-Ok-clause-refused
returns-in_err-there-in-Ok-clause-refused g c =
    let D = g.D.Dir in
    let B = g.B.Bundle in
    let root = c.args.path.now in
    let first = bundle_source_at B.observed (B.shown c.args.bundle.now).tree root in
    let read = bundle_source_at B.observed (B.shown c.read_bundle.new.bundle).tree root in
    let old = D.shown c.args.dir.now in
    let new = D.shown c.import_image.new.dir in
    let image = c.in-Ok.image in
    err_same (λ e. IsImportRefused D.observed first e old new) c.import_image.result c.from_residual.result (λ e h. search (rules, h, c.from_residual.ensures, c.in_err-there-in-Ok.is))
    (if_err (λ e. ImportCause is_import_refusal D.observed read (key_of_image image) (digest_of image) image.listing e old new) (λ e. IsImportRefused D.observed first e old new) c.import_image.result
    (λ e x. inr (image, c.in-Ok.ensures.ok, cause_before_reads c.read_bundle.ensures.reads.same x)) c.import_image.ensures.cause)

pub returns-in_err-there-in-Ok-clause-turn : goal.returns-in_err-there-in-Ok-clause-turn
returns-in_err-there-in-Ok-clause-turn g c =
    let D = g.D.Dir in
    let B = g.B.Bundle in
    let root = c.args.path.now in
    let first = bundle_source_at B.observed (B.shown c.args.bundle.now).tree root in
    let read = bundle_source_at B.observed (B.shown c.read_bundle.new.bundle).tree root in
    let old = D.shown c.args.dir.now in
    let new = D.shown c.import_image.new.dir in
    let image = c.in-Ok.image in
    err_same (λ e. RefusalComesInTurn D.observed first e old new) c.import_image.result c.from_residual.result (λ e h. search (rules, h, c.from_residual.ensures, c.in_err-there-in-Ok.is))
    (if_err (λ e. FoundInTurn D.observed read (key_of_image image) image.listing e old new) (λ e. RefusalComesInTurn D.observed first e old new) c.import_image.result
    (λ e x. record { late = λ late. (image, c.in-Ok.ensures.ok, x.late late); damaged = λ path is. (image, c.in-Ok.ensures.ok, turn_before_reads c.read_bundle.ensures.reads.same (x.damaged path is)) }) c.import_image.ensures.turn)

pub returns-in-Err-clause-turn : goal.returns-in-Err-clause-turn
returns-in-Err-clause-turn g c = record {
  late = λ late. absurd (bundle_early c.in-Err.refusal (subst (λ (x : StoreError). is_late x ≡ true) c.bundle_refusal.ensures late));
  damaged = λ path is. absurd (bundle_sound c.in-Err.refusal path (sym c.bundle_refusal.ensures ∙ is));
}

pub returns-in_ok-there-in-Ok-clause-imported : goal.returns-in_ok-there-in-Ok-clause-imported
returns-in_ok-there-in-Ok-clause-imported g c fresh t conforms intent hs imports alone k =
    let D = g.D.Dir in
    let image = c.in-Ok.image in (
      image,
      c.in-Ok.ensures.ok,
      (
        same_key c.of-key.result image c.of-key.ensures,
        brought_is_imported c.args.draw c.args.now image intent hs (D.shown c.args.dir.now) (D.shown c.import_image.new.dir) c.of-key.result c.in_ok-there-in-Ok.there fresh (same_key c.of-key.result image c.of-key.ensures) conforms
            (c.in_ok-there-in-Ok.ensures.leaves t intent hs imports alone k),
      ),
    )

pub returns-in_err-there-in-Ok-clause-lawful : goal.returns-in_err-there-in-Ok-clause-lawful
returns-in_err-there-in-Ok-clause-lawful g c is t conforming =
    let D = g.D.Dir in
    let B = g.B.Bundle in
    let read = bundle_source_at B.observed (B.shown c.read_bundle.new.bundle).tree c.args.path.now in
    let image = c.in-Ok.image in
    let cause = of_error (λ e. ImportCause is_import_refusal D.observed read (key_of_image image) (digest_of image) image.listing e (D.shown c.args.dir.now) (D.shown c.import_image.new.dir)) c.import_image.result Stray
    (search (rules, is, c.from_residual.ensures, c.in_err-there-in-Ok.is)) c.import_image.ensures.cause in
    no_stray_cause conforming (cause.stray refl t)
