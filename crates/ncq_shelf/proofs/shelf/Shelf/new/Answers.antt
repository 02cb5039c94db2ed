use Rattle.ncq_shelf.proofs.Consumers.{shelved_none}
use Rattle.ncq_shelf.proofs.Grouped.{grouped_none}
use Rattle.ncq_shelf.proofs.KeyedLaws.{keyed_none}
use Rattle.ncq_shelf.proofs.shelf.Shelf.new.Goals as goal

pub invariant_of-result : goal.invariant_of-result
invariant_of-result c = record {
  shelved = shelved_none c.new-2.result.entries c.new.result.entries c.with_hasher.result.entries c.with_hasher-2.result.entries c.new.ensures.empty c.with_hasher.ensures.empty c.with_hasher-2.ensures.empty;
  grouped = grouped_none c.new.result.entries c.new-2.result.entries c.new.ensures.empty c.new-2.ensures.empty;
  keyed = keyed_none c.new-2.result.entries c.new.result.entries c.new-3.result c.new-3.ensures c.new.ensures.empty;
}
