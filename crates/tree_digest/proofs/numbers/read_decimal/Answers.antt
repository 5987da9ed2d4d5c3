use Rattle.std.proofs.Common.{◌≡◌, ◌<◌, ◌≤◌, ◌+◌, ◌-◌, ◌*◌, length, get_or, take, subst, sym, ap, ◌∙◌, arith, rules}
use Rattle.std.specs.Str.Parse.{digits_value}
use Rattle.std.proofs.lemmas.Int.Digits.{digits_value_more}
use Rattle.tree_digest.specs.Fields.{decimal_text}
use Rattle.tree_digest.proofs.Decimals.{decimal_some, decimal_zero, decimal_from_zero, decimal_digits, decimal_grows, value_digit, single, digit_low, digit_none}
use Rattle.tree_digest.proofs.numbers.read_decimal.Goals as goal

pub returns-then-is_empty-clause-none : goal.returns-then-is_empty-clause-none
returns-then-is_empty-clause-none c = λ n e.
    let none : length c.args.field.now ≡ 0 = search rules in
    omega (arith, ap length e, decimal_some n)

pub returns-then-field-eq1-clause-some : goal.returns-then-field-eq1-clause-some
returns-then-field-eq1-clause-some c =
    (0, omega arith, single c.args.field.now 48 c.if-field-eq1.true c.if-field-eq48.true ∙ sym decimal_zero)

pub returns-else-field-eq1-clause-none : goal.returns-else-field-eq1-clause-none
returns-else-field-eq1-clause-none c = λ n e.
    let zero : n ≡ 0 = decimal_from_zero n (ap (λ t. get_or t 0 0) (sym e) ∙ c.if-field-eq48.true) in
    c.if-field-eq1.false (ap length (e ∙ ap decimal_text zero ∙ decimal_zero))

pub returns-then-not-is_ascii_digit-clause-none : goal.returns-then-not-is_ascii_digit-clause-none
returns-then-not-is_ascii_digit-clause-none c = λ n e.
    let inside : c.loop-byte.byte-index < length (decimal_text n) = subst (λ t. c.loop-byte.byte-index < length t) e c.loop-byte-test.true in
    let all = subst (λ t. (48 ≤ get_or t c.loop-byte.byte-index 0) × (get_or t c.loop-byte.byte-index 0 ≤ 57)) (sym e) (decimal_digits n c.loop-byte.byte-index 0 inside) in
    digit_none _ (sym c.if-not-is_ascii_digit.ensures.value) all.0 all.1

pub loop-byte-preserved : goal.loop-byte-preserved
loop-byte-preserved c =
    let f = c.args.field.now in
    let i = c.loop-byte.byte-index in
    let digit = digit_low _ (sym c.if-not-is_ascii_digit.ensures.value) in
    let more : digits_value 10 (take (i + 1) f) ≡ digits_value 10 (take i f) * 10 + (get_or f i 0 - 48) =
    digits_value_more 10 f i c.loop-byte-test.true ∙ ap (λ d. digits_value 10 (take i f) * 10 + d) (value_digit (get_or f i 0) digit.0 digit.1) in
    record {
      value = omega (arith, more, c.min-value.ensures, c.from.ensures, c.loop-byte.invariant.value);
      text = λ _. decimal_grows f i c.loop-byte-test.true c.if-field-eq48.false digit.0 digit.1 c.loop-byte.invariant.text;
    }
