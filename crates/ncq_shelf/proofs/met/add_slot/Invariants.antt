use Rattle.std.proofs.Common.{take}
use Rattle.std.specs.List.{AllByRecursion}
use Rattle.ncq_shelf.specs.Met.{Gathers, IsHolderMet}
use Rattle.ncq_shelf.proofs.met.add_slot.Given as goal

abbrev pub invariant-loop-holder : goal.invariant-loop-holder
invariant-loop-holder l = record {
  gathers : Gathers l.files.entries l.input l.initial.met.keys l.met.keys;
  done : AllByRecursion (IsHolderMet l.files.entries l.input l.met.keys) (take l.holder-index l.holder-items);
}
