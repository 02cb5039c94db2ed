use Rattle.std.proofs.Common.{arith}
use Rattle.ncq_base.proofs.DigitLaws.{ten-pow-le}
use Rattle.ncq_base.proofs.digits.digits_value.Goals as goal

pub overflow_mul-n : goal.overflow_mul-n
overflow_mul-n c = let most = ten-pow-le c.loop-digit.digit-index 19 (omega arith) in grind arith

pub overflow_add-n : goal.overflow_add-n
overflow_add-n c = let most = ten-pow-le c.loop-digit.digit-index 19 (omega arith) in grind arith
