use Rattle.std.proofs.Common.{arith, length}
use Rattle.ncq_base.proofs.DigitLaws.{scaled}
use Rattle.ncq_base.proofs.number.fraction_of.Goals as goal

pub returns-clause-bound : goal.returns-clause-bound
returns-clause-bound c =
    let e = c.pow.ensures in
    rw e (scaled c.digits_value.result (length c.in-Some.digits.now) (omega arith) c.digits_value.ensures.bound)
