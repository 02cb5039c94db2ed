use Rattle.std.proofs.Common.{rules, ◌≡◌, ◌^◌, get_or, true, false, arith, tests}
use Rattle.std.specs.Prelude.{nat_lt}
use Rattle.std.specs.List.Sorted.{IsPartitionPoint}
use Rattle.std.proofs.lemmas.List.Sorted.{IsPartitionPoint-from_clause}
use Rattle.ncq_feed.proofs.PendingLaws.{falling_parted, test_above, test_within}
use Rattle.ncq_feed.proofs.falling.count_above.Goals as goal

parted : (c : goal.After-partition_point) → IsPartitionPoint (λ x. nat_lt c.args.number x ≡ true) (λ x. nat_lt c.args.number x ≡ false) c.args.numbers.now c.partition_point.result
parted c =
    IsPartitionPoint-from_clause (λ x. nat_lt c.args.number x) c.args.numbers.now c.partition_point.result c.partition_point.ensures.partitioned
    (falling_parted (2 ^ 64) c.args.number c.args.numbers.now c.requires) (λ a r f called. search (rules, tests))

pub returns-clause-above : goal.returns-clause-above
returns-clause-above c = λ k before. test_above c.args.number (get_or c.args.numbers.now k 0) ((parted c).0 k 0 (omega arith) before)

pub returns-clause-below : goal.returns-clause-below
returns-clause-below c = λ within. test_within c.args.number (get_or c.args.numbers.now c.partition_point.result 0) ((parted c).1 c.partition_point.result 0 (omega arith) within)
