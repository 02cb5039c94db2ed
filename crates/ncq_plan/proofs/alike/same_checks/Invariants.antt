use Rattle.std.proofs.Common.{◌≡◌, take, length}
use Rattle.ncq_plan.proofs.alike.same_checks.Given as goal

abbrev pub invariant-loop-i : goal.invariant-loop-i
invariant-loop-i l =
    record { alike : take l.i l.a ≡ take l.i l.b; long : length l.a ≡ length l.b }
