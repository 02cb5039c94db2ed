use Rattle.std.proofs.Common.{◌≡◌, ◌+◌}
use Rattle.ncq_row.proofs.matching.count.Given as goal

abbrev pub invariant-loop : goal.invariant-loop
invariant-loop g l = l.steps ≡ l.initial.steps + l.counter
