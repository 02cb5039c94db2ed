use Rattle.std.proofs.Common.{◌≡◌, ◌+◌, ◌≤◌, ◌++◌, length, drop, map}
use Rattle.std.specs.Int.Bits.{bit_or}
use Rattle.ncq_path.specs.Expressions.{size}
use Rattle.ncq_path.specs.Paths.{expression, each, any_of}
use Rattle.ncq_path.specs.Links.{ends_of, links}
use Rattle.ncq_path.proofs.compiling.+link.Given as goal

-- what is left goes on to the whole
abbrev pub invariant-link_each-loop-item : goal.invariant-link_each-loop-item
invariant-link_each-loop-item l = record {
  fits : length l.kept + size (each (map expression (drop l.item-index l.items))) ≤ 32;
  ends : ends_of (each (map expression (drop l.item-index l.items))) (length l.kept) l.before
      ≡ ends_of (each (map expression l.items)) (length l.initial.kept) l.initial.before;
  linked : l.kept ++ links (each (map expression (drop l.item-index l.items))) (length l.kept) l.before
      ≡ l.initial.kept ++ links (each (map expression l.items)) (length l.initial.kept) l.initial.before;
}

abbrev pub invariant-link_any-loop-item : goal.invariant-link_any-loop-item
invariant-link_any-loop-item l = record {
  fits : length l.kept + size (any_of (map expression (drop l.item-index l.items))) ≤ 32;
  ends : bit_or l.all (ends_of (any_of (map expression (drop l.item-index l.items))) (length l.kept) l.before)
      ≡ ends_of (any_of (map expression l.items)) (length l.initial.kept) l.before;
  linked : l.kept ++ links (any_of (map expression (drop l.item-index l.items))) (length l.kept) l.before
      ≡ l.initial.kept ++ links (any_of (map expression l.items)) (length l.initial.kept) l.before;
}
