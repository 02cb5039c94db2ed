use Rattle.std.proofs.Common.{arith, length}
use Rattle.ncq_base.proofs.DigitLaws.{ten-pow-le, all-prefix}
use Rattle.ncq_base.specs.Numbers.{is_digit}
use Rattle.ncq_base.proofs.number.unsigned_of.Goals as goal

pub digits_value-requires-clause-digits : goal.digits_value-requires-clause-digits
digits_value-requires-clause-digits c =
    let front = c.split_at.ensures.front in
    let n = c.leading_digits-n.ensures.value in
    rw (front, n) (all-prefix is_digit c.args.text.now)

pub returns-clause-bound : goal.returns-clause-bound
returns-clause-bound c =
    let most = ten-pow-le (length c.split_at.result.0.now) 15 (omega arith) in
    omega (arith, c.digits_value.ensures.bound, c.in_ok-fraction.ensures.bound)
