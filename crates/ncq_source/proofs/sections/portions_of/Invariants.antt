use Rattle.std.proofs.Common.{◌≡◌, ◌++◌, map}
use Rattle.ncq_source.specs.Seens.{placed_portion, placed_seen}
use Rattle.ncq_source.proofs.sections.portions_of.Given as goal

-- what is left decides
abbrev pub invariant-loop-at : goal.invariant-loop-at
invariant-loop-at l = map placed_portion l.portions.items ++ map placed_seen l.at-iterator ≡ map placed_seen l.initial.at-iterator
