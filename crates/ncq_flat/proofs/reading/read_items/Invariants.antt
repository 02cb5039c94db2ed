use Rattle.std.proofs.Common.{◌≡◌, ◌+◌, ◌≤◌, length}
use Rattle.ncq_base.specs.Lines.{lines_in}
use Rattle.ncq_pyx.specs.Faults.{block_of, max_nesting}
use Rattle.ncq_pyx.specs.Joining.{behind_items}
use Rattle.ncq_flat.proofs.reading.read_items.Given as goal

abbrev pub invariant-loop-rest : goal.invariant-loop-rest
invariant-loop-rest l = record {
  stands : block_of max_nesting (lines_in l.text) ≡ behind_items l.items l.count (block_of max_nesting (lines_in l.rest));
  bound : l.count + length l.rest ≤ length l.text;
}

abbrev pub decreases-loop-rest : goal.decreases-loop-rest
decreases-loop-rest l = length l.rest
