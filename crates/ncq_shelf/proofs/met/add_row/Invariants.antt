use Rattle.std.proofs.Common.{take}
use Rattle.std.specs.List.{AllByRecursion}
use Rattle.ncq_shelf.specs.Met.{Gathers, IsSlotMet}
use Rattle.ncq_shelf.proofs.met.add_row.Given as goal

abbrev pub invariant-loop-slot : goal.invariant-loop-slot
invariant-loop-slot l = record {
  gathers : Gathers l.files.entries l.input l.initial.met.keys l.met.keys;
  done : AllByRecursion (IsSlotMet l.files.entries l.keys l.input l.met.keys l.row) (take l.slot-index l.slot-items);
}
