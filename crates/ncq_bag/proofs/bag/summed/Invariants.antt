use Rattle.std.proofs.Common.{◌≡◌, ◌++◌, ◌+◌, ◌≤◌, ◌^◌, [], nat_abs, pos}
use Rattle.std.specs.List.{flat_map, sum_by}
use Rattle.std.specs.Vec.Iter.{into_iter_items}
use Rattle.ncq_bag.specs.Added.{runs}
use Rattle.ncq_bag.specs.Bags.{difference_of}
use Rattle.ncq_bag.specs.declared.bag.Difference.{Difference}
use Rattle.ncq_bag.proofs.bag.summed.Given as goal

abbrev pub invariant-loop-add : goal.invariant-loop-add
invariant-loop-add l = record {
  out : l.out ++ flat_map difference_of (runs l.run.key l.run.count (into_iter_items l.add-iterator))
      ≡ flat_map difference_of (runs [] (pos 0) l.fn.list.items);
  within : nat_abs l.run.count + sum_by (λ (d : Difference). d.count) (into_iter_items l.add-iterator) ≤ 2 ^ 63;
}
