use Rattle.std.proofs.Common.{◌≤◌, length}
use Rattle.ncq_bag.proofs.rising.shared_by.Given as goal

abbrev pub invariant-loop-item : goal.invariant-loop-item
invariant-loop-item l = l.shared ≤ length l.first
