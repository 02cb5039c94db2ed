use Rattle.std.proofs.Common.{◌≡◌, ◌≤◌, length}
use Rattle.std.specs.Vec.Iter.{into_iter_items}
use Rattle.ncq_source.specs.Changes.{after}
use Rattle.ncq_source.specs.Held.{map_of}
use Rattle.ncq_source.proofs.elements.Elements.apply.Given as goal

abbrev pub invariant-loop-entry : goal.invariant-loop-entry
invariant-loop-entry l = record {
  room : length (into_iter_items l.entry-iterator) ≤ l.self.room;
  left : after (map_of l.self.pairs) (into_iter_items l.entry-iterator) ≡ after (map_of l.initial.self.pairs) (into_iter_items l.initial.entry-iterator);
}
