use Rattle.std.proofs.Common.{◌≡◌, inl, true}
use Rattle.plain_laws.proofs.Results.{if_ok}
use Rattle.metadata.specs.Images.{IsImageFromBytes, TellsImage, IfReads}
use Rattle.metadata.proofs.Images.{image_form, tells_image, image_reads}
use Rattle.metadata.proofs.image.image_at.Goals as goal

pub read_part-requires-clause-path : goal.read_part-requires-clause-path
read_part-requires-clause-path g c = rw c.requires.path (image_form c.args.app.now c.as_str-name.ensures.kind)

pub returns-in-Ok-Some-clause-reads : goal.returns-in-Ok-Some-clause-reads
returns-in-Ok-Some-clause-reads g c = if_ok (IsImageFromBytes c.in-Ok-Some.bytes.items) IfReads c.image_of.result (λ found is. image_reads c.in-Ok-Some.bytes.items found is) c.image_of.ensures.image

pub returns-in-Ok-Some-clause-tells : goal.returns-in-Ok-Some-clause-tells
returns-in-Ok-Some-clause-tells g c =
    let D = g.D.Dir in
    let e = rw c.requires.path at (rw c.in-Ok-Some.field-0-is at c.in-Ok-Some.ensures) in
    let old = D.shown c.args.dir.now in
    let new = D.shown c.read_part.new.dir in
    let bytes = c.in-Ok-Some.bytes.items in
    if_ok (IsImageFromBytes bytes) (λ found. D.observed ≡ true → TellsImage c.args.pod c.args.app.now found old new) c.image_of.result
    (λ found is. tells_image c.args.pod c.args.app.now bytes e.most e.read found is) c.image_of.ensures.image

pub returns-in-Ok-None-clause-tells : goal.returns-in-Ok-None-clause-tells
returns-in-Ok-None-clause-tells g c t =
    let e = rw c.requires.path at (rw c.in-Ok-None.field-0-is at c.in-Ok-None.ensures) in
    inl (e.read t)
