use Rattle.std.proofs.Common.{◌≡◌, ◌∙◌, sym, ap, false, length, nat_eq, inl, arith}
use Rattle.std.proofs.lemmas.Bool.Decides.{nat_tests}
use Rattle.ac_types.proofs.word_scan.check_words.Goals as goal

pub returns-in-Some-clause-err : goal.returns-in-Some-clause-err
returns-in-Some-clause-err c = (
  λ e.
      let none : length c.args.text.now ≡ 0 = ap length e in
      let some : nat_eq (length c.args.text.now) 0 ≡ false = sym c.is_empty.ensures ∙ c.if-is_empty.false in
      grind (arith, nat_tests),
  inl (
    rw c.as_bytes.ensures.value at c.in-Some.ensures.none,
    rw c.as_bytes.ensures.value at c.in-Some.ensures.some,
  ),
)
