use Rattle.std.proofs.Common.{◌≡◌, sym, take, drop, codes, true, false, refl}
use Rattle.std.specs.Str.{bytes_eq}
use Rattle.ac_types.specs.Ids.{id_read}
use Rattle.ac_types.proofs.hex_digits.read_id.Goals as goal

pub returns-in-Some : goal.returns-in-Some
unfolding id_read
returns-in-Some c =
    let begins : bytes_eq (take 7 c.args.text.now) (codes "sha512-") ≡ true = rw c.as_bytes.ensures.value at c.in-Some.ensures.cases.0 in
    let rest : drop 7 c.args.text.now ≡ c.in-Some.digits.now = sym (rw c.as_bytes.ensures.value at c.in-Some.ensures.cases.1) in
    rw (begins, rest) c.read_digits.ensures

pub returns-in-None : goal.returns-in-None
unfolding id_read
returns-in-None c =
    let begins : bytes_eq (take 7 c.args.text.now) (codes "sha512-") ≡ false = rw c.as_bytes.ensures.value at c.in-None.ensures.cases in
    rw begins refl
