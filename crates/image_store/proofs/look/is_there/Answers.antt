use Rattle.std.proofs.Common.{◌≡◌, ◌≢◌, ap, Err, List, ℕ, subst}
use Rattle.plain_laws.proofs.Results.{if_err}
use Rattle.image_reading.specs.declared.error.StoreError.TheVariants.{IdConflict}
use Rattle.image_reading.specs.Images.{ReadsDigest}
use Rattle.image_reading.proofs.Widths.{within_self}
use Rattle.image_store.specs.Causes.{LookCause}
use Rattle.image_store.proofs.Refusals.{look_cause, other_cause}
use Rattle.image_store.proofs.look.is_there.Goals as goal

pub returns-in-Ok-Some-clause-there : goal.returns-in-Ok-Some-clause-there
returns-in-Ok-Some-clause-there g c is t =
    let D = g.D.Dir in
    let same = rw is at c.is_same.ensures.same in
    within_self (subst (λ (d : List ℕ). ReadsDigest c.args.key d (D.shown c.args.dir.now) (D.shown c.stored_digest.new.dir)) same.1 ((rw c.in-Ok-Some.field-0-is at c.in-Ok-Some.ensures.there) t))

pub returns-in-Ok-Some-clause-cause : goal.returns-in-Ok-Some-clause-cause
returns-in-Ok-Some-clause-cause g c =
    let D = g.D.Dir in
    if_err (λ e. (e ≡ IdConflict c.args.key c.in-Ok-Some.stored c.args.digest.now) × (c.in-Ok-Some.stored ≢ c.args.digest.now))
    (λ e. LookCause D.observed c.args.key c.args.digest.now e (D.shown c.args.dir.now) (D.shown c.stored_digest.new.dir)) c.is_same.result
    (λ e x. other_cause c.args.key c.in-Ok-Some.stored c.args.digest.now e x.0 x.1 (rw c.in-Ok-Some.field-0-is at c.in-Ok-Some.ensures.there)) c.is_same.ensures.other

pub returns-in-Err-clause-cause : goal.returns-in-Err-clause-cause
returns-in-Err-clause-cause g c = look_cause c.args.key c.args.digest.now c.in-Err.error c.in-Err.ensures.refusals (λ is. c.in-Err.ensures.cause (ap Err is)) c.in-Err.ensures.damaged
