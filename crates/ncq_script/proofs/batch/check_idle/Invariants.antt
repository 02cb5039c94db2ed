use Rattle.std.proofs.Common.{◌≡◌, ◌+◌, ◌<◌, ◌^◌, List, length}
use Rattle.std.specs.Prelude.{Result}
use Rattle.ncq_base.specs.Lines.{lines_in}
use Rattle.ncq_pyx.specs.Faults.{max_nesting}
use Rattle.ncq_pyx.specs.declared.error.PyxError.{PyxError}
use Rattle.ncq_source.specs.declared.change.Section.{Section}
use Rattle.ncq_script.specs.Batches.{idle_then}
use Rattle.ncq_script.proofs.batch.check_idle.Given as goal

-- what is left decides
abbrev pub invariant-loop-line : goal.invariant-loop-line
invariant-loop-line l = record {
  left : (rest : Result (List Section) PyxError) → idle_then max_nesting l.number (lines_in l.rest) rest ≡ idle_then max_nesting 1 l.front rest;
  few : l.number + length l.rest < 2 ^ 64;
}

abbrev pub decreases-loop-line : goal.decreases-loop-line
decreases-loop-line l = length l.rest
