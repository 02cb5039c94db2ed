use Rattle.std.proofs.Common.{◌≡◌, ◌<◌, ◌^◌, take}
use Rattle.ncq_base.specs.Numbers.{digits_value}
use Rattle.ncq_base.proofs.digits.digits_value.Given as goal

abbrev pub invariant-loop-digit : goal.invariant-loop-digit
invariant-loop-digit l = record { value : l.n ≡ digits_value (take l.digit-index l.digits); below : l.n < 10 ^ l.digit-index }
