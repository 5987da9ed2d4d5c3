use Rattle.std.proofs.Common.{◌≡◌, true, false, take, drop, codes}
use Rattle.std.specs.Str.{bytes_eq}
use Rattle.ac_types.specs.References.{reference}
use Rattle.ac_types.proofs.image_ref.read_reference.Goals as goal

pub returns-in-Some : goal.returns-in-Some
unfolding reference
returns-in-Some c =
    let begins : bytes_eq (take 7 c.args.word.now) (codes "sha512-") ≡ true = rw c.as_bytes.ensures.value at c.in-Some.ensures.cases.0 in
    let rest : c.in-Some.digits.now ≡ drop 7 c.args.word.now = rw c.as_bytes.ensures.value at c.in-Some.ensures.cases.1 in
    rw (begins, ← rest) c.read_digits_ref.ensures

pub returns-in-None : goal.returns-in-None
unfolding reference
returns-in-None c =
    let begins : bytes_eq (take 7 c.args.word.now) (codes "sha512-") ≡ false = rw c.as_bytes.ensures.value at c.in-None.ensures.cases in
    rw begins c.read_named_ref.ensures
