use Rattle.std.proofs.Common.{◌≤◌, arith}
use Rattle.marks.proofs.Texts.{most, most_at}
use Rattle.marks.proofs.moment.number_of.Goals as goal

pub overflow_mul-number : goal.overflow_mul-number
overflow_mul-number c =
    let h : most c.digits.digit-index ≤ 283333333333333333305 = most_at c.digits.digit-index 19 (omega arith) in
    omega (arith, h)

pub overflow_add-number : goal.overflow_add-number
overflow_add-number c =
    let h : most c.digits.digit-index ≤ 283333333333333333305 = most_at c.digits.digit-index 19 (omega arith) in
    omega (arith, h)
