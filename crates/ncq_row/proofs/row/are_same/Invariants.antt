use Rattle.std.proofs.Common.{◌≡◌, length, map, take}
use Rattle.ncq_row.proofs.row.are_same.Given as goal

abbrev pub invariant-loop-i : goal.invariant-loop-i
invariant-loop-i l = record {
  long : length l.a ≡ length l.b;
  alike : map (λ s. s.value) (take l.i l.a) ≡ map (λ s. s.value) (take l.i l.b);
}
