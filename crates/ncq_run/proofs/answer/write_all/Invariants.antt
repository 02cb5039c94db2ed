use Rattle.std.proofs.Common.{◌≡◌, ◌≤◌, ◌-◌, ◌^◌, ◌++◌, ℕ, List, length}
use Rattle.std.specs.Io.KnownBytes.{Appends}
use Rattle.ncq_run.proofs.answer.write_all.Given as goal

abbrev pub invariant-loop-rest : goal.invariant-loop-rest
invariant-loop-rest g l = record {
  written : (front : List ℕ) × (l.fn.bytes ≡ front ++ l.rest) × Appends (g.O.Sink.held l.fn.output) (g.O.Sink.held l.output) front;
  sure : g.O.Sink.sure l.output ≡ g.O.Sink.sure l.fn.output;
  later : g.O.Sink.faults l.fn.output ≤ g.O.Sink.faults l.output;
  stands : 2 ^ 64 - 1 ≤ g.O.Sink.faults l.fn.output → g.O.Sink.faults l.output ≡ g.O.Sink.faults l.fn.output;
}

abbrev pub decreases-loop-rest : goal.decreases-loop-rest
decreases-loop-rest g l = length l.rest
