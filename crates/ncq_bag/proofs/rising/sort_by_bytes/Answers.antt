use Rattle.std.proofs.Common.{rules}
use Rattle.std.specs.Ordering.{nat_cmp, is_lt}
use Rattle.std.specs.Cmp.Lexicographic.{slice_cmp, nat_list_cmp_total}
use Rattle.std.proofs.lemmas.Fn.{always_returns_same}
use Rattle.std.proofs.lemmas.List.Sorted.{IsPermutation-trans, ranks_by}
use Rattle.ncq_bag.specs.declared.bag.Difference.{Difference}
use Rattle.ncq_bag.proofs.rising.sort_by_bytes.Goals.{then-len-gt-FEW+in_ok-sort_by_cached_key, else-len-gt-FEW}
use Rattle.ncq_bag.proofs.rising.sort_by_bytes.Goals as goal

pub returns-clause-permutation : goal.returns-clause-permutation
returns-clause-permutation c = elim c.if-len-gt-FEW.branch [
  | then-len-gt-FEW+in_ok-sort_by_cached_key w ↦
      IsPermutation-trans c.args.list.now.items c.if-len-gt-FEW.list.items _
      (rw w.list-is w.in_ok-sort_by_cached_key.ensures.permutation) c.sort_unstable_by.ensures.permutation
  | else-len-gt-FEW w ↦ rw (← w.list-is) c.sort_unstable_by.ensures.permutation
]

pub returns-clause-rising : goal.returns-clause-rising
returns-clause-rising c =
    c.sort_unstable_by.ensures.sorted (λ x y. is_lt (slice_cmp nat_cmp x.bytes y.bytes)) (ranks_by nat_list_cmp_total (λ (d : Difference). d.bytes))
    (always_returns_same _ _ _ (λ a r f k. search rules))
