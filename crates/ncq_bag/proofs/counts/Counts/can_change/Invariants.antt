use Rattle.std.proofs.Common.{◌↔◌, drop}
use Rattle.std.specs.List.{AllByRecursion}
use Rattle.ncq_bag.specs.Counts.{Fits}
use Rattle.ncq_bag.proofs.counts.Counts.can_change.Given as goal

-- what is left decides
abbrev pub invariant-loop-change : goal.invariant-loop-change
invariant-loop-change l =
    AllByRecursion (Fits l.self.counts) l.changes
    ↔ AllByRecursion (Fits l.self.counts) (drop l.change-index l.changes)
