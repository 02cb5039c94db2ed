use Rattle.std.proofs.Common.{◌≡◌, ◌++◌, drop}
use Rattle.std.specs.List.{flat_map, AllByRecursion}
use Rattle.ncq_bag.specs.Counts.{turn_of, Fits}
use Rattle.ncq_bag.proofs.counts.Counts.turns.Given as goal

-- what is left decides
abbrev pub invariant-loop-change : goal.invariant-loop-change
invariant-loop-change l = record {
  left : l.out ++ flat_map (turn_of l.self.counts) (drop l.change-index l.change-items)
      ≡ flat_map (turn_of l.self.counts) l.change-items;
  fits : AllByRecursion (Fits l.self.counts) (drop l.change-index l.change-items);
}
