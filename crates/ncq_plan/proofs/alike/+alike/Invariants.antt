use Rattle.std.proofs.Common.{◌≡◌, take, length}
use Rattle.ncq_plan.proofs.alike.+alike.Given as goal

abbrev pub invariant-same_content-loop-i : goal.invariant-same_content-loop-i
invariant-same_content-loop-i l =
    record { alike : take l.i l.a ≡ take l.i l.b; long : length l.a ≡ length l.b }
