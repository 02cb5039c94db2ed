use Rattle.ncq_count.specs.Counted.{AreCounted}
use Rattle.ncq_group.proofs.Cuts.{IsCutDownTo}
use Rattle.ncq_group.proofs.undo.cut.Given as goal

abbrev pub invariant-loop-filed : goal.invariant-loop-filed
invariant-loop-filed l = record {
  cut : IsCutDownTo l.low l.initial.filed.shelf l.filed.next l.filed.shelf;
  counted : AreCounted l.filed.shelf l.filed.groups;
}

abbrev pub decreases-loop-filed : goal.decreases-loop-filed
decreases-loop-filed l = l.filed.next
