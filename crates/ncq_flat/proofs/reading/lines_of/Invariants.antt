use Rattle.std.proofs.Common.{◌≡◌, ◌++◌, length}
use Rattle.ncq_base.specs.Lines.{lines_in}
use Rattle.ncq_flat.proofs.reading.lines_of.Given as goal

abbrev pub invariant-loop-line : goal.invariant-loop-line
invariant-loop-line l = l.lines ++ lines_in l.rest ≡ lines_in l.text

abbrev pub decreases-loop-line : goal.decreases-loop-line
decreases-loop-line l = length l.rest
