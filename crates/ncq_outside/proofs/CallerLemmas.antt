-- Laws of the counts, for the proofs of callers.
use Rattle.std.proofs.Common.{◌+◌, ◌-◌, ◌^◌, ◌≤◌, ℕ, arith}
use Rattle.std.specs.Prelude.{min}
use Rattle.ncq_outside.specs.Causes.{RoseBy}

-- a count that did not change rose by nothing, where it is no greater than its end
pub RoseBy-none : (a : ℕ) → a ≤ 2 ^ 64 - 1 → RoseBy a 0 a
RoseBy-none a h = record { later = omega (arith, h); total = omega (arith, h) }

-- two rises are one
pub RoseBy-trans : (a n b m c : ℕ) → RoseBy a n b → RoseBy b m c → RoseBy a (n + m) c
RoseBy-trans a n b m c p q =
    record { later = omega (arith, p.later, q.later); total = omega (arith, p.later, p.total, q.total) }

-- the count is no less than the sum, or stands at its end
pub RoseBy-at_least : (a n b : ℕ) → RoseBy a n b → min (a + n) (2 ^ 64 - 1) ≤ b
RoseBy-at_least a n b p = omega (arith, p.total)

-- the count is no more than the sum
pub RoseBy-at_most : (a n b : ℕ) → RoseBy a n b → b ≤ a + n
RoseBy-at_most a n b p = omega (arith, p.total)
