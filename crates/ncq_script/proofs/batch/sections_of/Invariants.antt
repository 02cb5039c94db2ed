use Rattle.std.proofs.Common.{◌≡◌, ◌+◌, ◌<◌, ◌^◌, true, length}
use Rattle.std.specs.List.{list_all}
use Rattle.ncq_base.specs.Lines.{lines_in}
use Rattle.ncq_pyx.specs.Faults.{max_nesting}
use Rattle.ncq_source.specs.Proper.{puts_proper}
use Rattle.ncq_script.specs.BatchReading.{StartsSection, behind, said_from}
use Rattle.ncq_script.specs.Batches.{batch_of}
use Rattle.ncq_script.proofs.batch.sections_of.Given as goal

-- what is left decides
abbrev pub invariant-loop-head : goal.invariant-loop-head
invariant-loop-head l = record {
  starts : StartsSection (lines_in l.left.text.now);
  left : behind l.sections (said_from max_nesting l.left.number (lines_in l.left.text.now)) ≡ batch_of max_nesting l.block;
  few : l.left.number + length l.left.text.now < 2 ^ 64;
  proper : list_all puts_proper l.sections ≡ true;
}

abbrev pub decreases-loop-head : goal.decreases-loop-head
decreases-loop-head l = length l.left.text.now
