use Rattle.std.proofs.Common.{map, List}
use Rattle.std.specs.Vec.Iter.{into_iter_items}
use Rattle.ncq_source.specs.CanCommit.{CanCommit}
use Rattle.ncq_source.specs.Stores.{Source}
use Rattle.ncq_source.specs.StoreStates.{AreCommitted}
use Rattle.ncq_source.specs.Views.{source_of}
use Rattle.ncq_source.proofs.commit.commit_each.Given as goal

-- what is left decides
abbrev pub invariant-loop-portion : goal.invariant-loop-portion
invariant-loop-portion l = record {
  can : CanCommit (map source_of l.sources.items) (into_iter_items l.portion-iterator);
  left : (new : List Source) → AreCommitted (map source_of l.sources.items) (into_iter_items l.portion-iterator) l.number new
      → AreCommitted (map source_of l.initial.sources.items) (into_iter_items l.initial.portion-iterator) l.number new;
}
