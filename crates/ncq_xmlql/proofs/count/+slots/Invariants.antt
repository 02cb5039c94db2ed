use Rattle.std.proofs.Common.{◌≡◌, ◌-◌, ◌^◌, min, take}
use Rattle.std.specs.List.{sum_by}
use Rattle.ncq_xmlql.specs.Counts.{pattern_slots}
use Rattle.ncq_xmlql.proofs.count.+slots.Given as goal

abbrev pub invariant-slots_of_patterns-loop-pattern : goal.invariant-slots_of_patterns-loop-pattern
invariant-slots_of_patterns-loop-pattern l = l.slots ≡ min (sum_by pattern_slots (take l.pattern-index l.patterns)) (2 ^ 64 - 1)
