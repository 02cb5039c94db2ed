use Rattle.std.proofs.Common.{take}
use Rattle.std.specs.List.{AllByRecursion}
use Rattle.ncq_shelf.specs.Met.{Gathers, IsGathered}
use Rattle.ncq_shelf.proofs.met.add_joins.Given as goal

abbrev pub invariant-loop-number : goal.invariant-loop-number
invariant-loop-number l = record {
  gathers : Gathers l.files.entries l.input l.initial.met.keys l.met.keys;
  done : AllByRecursion (IsGathered l.files.entries l.input l.met.keys) (take l.number-index l.numbers);
}
