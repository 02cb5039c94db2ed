use Rattle.std.specs.List.{AllByRecursion}
use Rattle.ncq_shelf.specs.Stands.{IsThere}
use Rattle.ncq_live.proofs.WearLaws.{AreListed}
use Rattle.ncq_live.proofs.live_table.those_there.Given as goal

-- the numbers of files are in the list, or among those that are left
abbrev pub invariant-loop-number : goal.invariant-loop-number
invariant-loop-number l = record {
  listed : AreListed l.groups.files l.numbers.keys l.list l.number-iterator;
  there : AllByRecursion (IsThere l.groups.files) l.list;
}
