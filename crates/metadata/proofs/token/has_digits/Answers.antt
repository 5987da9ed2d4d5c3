use Rattle.std.proofs.Common.{inl}
use Rattle.dir_laws.proofs.Names.{token_form}
use Rattle.metadata.proofs.Asking.{asks_pod}
use Rattle.metadata.proofs.Tokens.{tells_digits}
use Rattle.metadata.proofs.token.has_digits.Goals as goal

pub read_part-requires-clause-path : goal.read_part-requires-clause-path
read_part-requires-clause-path g c = token_form

pub returns-in-Ok-Some-clause-only : goal.returns-in-Ok-Some-clause-only
returns-in-Ok-Some-clause-only g c = asks_pod c.args.pod c.read_part.ensures.only

pub returns-in-Ok-None-clause-only : goal.returns-in-Ok-None-clause-only
returns-in-Ok-None-clause-only g c = asks_pod c.args.pod c.read_part.ensures.only

pub returns-in-Err-clause-only : goal.returns-in-Err-clause-only
returns-in-Err-clause-only g c = asks_pod c.args.pod c.read_part.ensures.only

pub returns-in-Ok-Some-clause-tells : goal.returns-in-Ok-Some-clause-tells
returns-in-Ok-Some-clause-tells g c =
    let e = rw c.in-Ok-Some.field-0-is at c.in-Ok-Some.ensures in
    tells_digits c.args.pod c.args.digits.now c.in-Ok-Some.bytes.items c.deref.result.now c.deref.ensures.value e.most e.read c.are_same.result c.are_same.ensures

pub returns-in-Ok-None-clause-tells : goal.returns-in-Ok-None-clause-tells
returns-in-Ok-None-clause-tells g c t =
    let e = rw c.in-Ok-None.field-0-is at c.in-Ok-None.ensures in
    inl (e.read t)
