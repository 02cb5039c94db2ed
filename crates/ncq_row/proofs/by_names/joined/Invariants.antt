use Rattle.std.proofs.Common.{◌≡◌, length}
use Rattle.std.specs.Vec.Iter.{into_iter_items, into_iter_len}
use Rattle.ncq_row.specs.Embeddings.{one_of_each, paired}
use Rattle.ncq_row.proofs.by_names.joined.Given as goal

-- what stands already, with one row of each list that is left
abbrev pub invariant-loop-found : goal.invariant-loop-found
invariant-loop-found l = record {
  rows : paired l.rows (one_of_each (into_iter_items l.others)) ≡ one_of_each l.fn.each.items;
  left : into_iter_len l.others ≡ length (into_iter_items l.others);
}

abbrev pub decreases-loop-found : goal.decreases-loop-found
decreases-loop-found l = into_iter_len l.others
