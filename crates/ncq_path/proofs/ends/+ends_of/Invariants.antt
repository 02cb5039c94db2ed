use Rattle.std.proofs.Common.{◌≡◌, ◌+◌, ◌≤◌, drop, map}
use Rattle.std.specs.Int.Bits.{bit_or}
use Rattle.ncq_path.specs.Expressions.{size}
use Rattle.ncq_path.specs.Paths.{expression, each, any_of}
use Rattle.ncq_path.specs.Links.{ends_of}
use Rattle.ncq_path.proofs.ends.+ends_of.Given as goal

-- what is left goes on to the whole
abbrev pub invariant-ends_of_each-loop-item : goal.invariant-ends_of_each-loop-item
invariant-ends_of_each-loop-item l = record {
  fits : l.at + size (each (map expression (drop l.item-index l.items))) ≤ 32;
  is : ends_of (each (map expression (drop l.item-index l.items))) l.at l.before
      ≡ ends_of (each (map expression l.items)) l.fn.at l.fn.before;
}

abbrev pub invariant-ends_of_any-loop-item : goal.invariant-ends_of_any-loop-item
invariant-ends_of_any-loop-item l = record {
  fits : l.at + size (any_of (map expression (drop l.item-index l.items))) ≤ 32;
  is : bit_or l.all (ends_of (any_of (map expression (drop l.item-index l.items))) l.at l.before)
      ≡ ends_of (any_of (map expression l.items)) l.fn.at l.before;
}
