use Rattle.std.proofs.Common.{◌≡◌, ◌++◌, length, take, drop}
use Rattle.std.specs.List.{flat_map}
use Rattle.ncq_midfile.specs.Orders.{with_value}
use Rattle.ncq_midfile.proofs.order.push_ordered.Given as goal

-- with those of the values to come, the places so far are all
abbrev pub invariant-loop-value : goal.invariant-loop-value
invariant-loop-value l = l.found ++ flat_map (with_value l.order.slot l.interval l.n l.from (drop l.from (take (length l.order.index.hashes) l.rows))) l.value-iterator
    ≡ l.initial.found ++ flat_map (with_value l.order.slot l.interval l.n l.from (drop l.from (take (length l.order.index.hashes) l.rows))) l.order.values.keys
