use Rattle.std.proofs.Common.{◌≡◌, ◌≤◌, length, take}
use Rattle.ncq_plan.proofs.SharingLaws.{bare_plan}
use Rattle.ncq_plan.proofs.sharing.take_shapes.Given as goal

abbrev pub invariant-loop-at : goal.invariant-loop-at
invariant-loop-at l = record {
  same : l.arms ≡ l.initial.arms;
  some : 1 ≤ length l.initial.arms → 1 ≤ l.at;
  rest : l.rest ≡ bare_plan (take l.at l.initial.arms);
}
