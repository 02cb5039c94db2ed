use Rattle.ncq_bag.proofs.AddLaws.{differences-IsPermutation}
use Rattle.ncq_bag.proofs.bag.SignedBag.difference.Goals as goal

pub returns : goal.returns
returns c =
    rw (← c.self.view_is, ← differences-IsPermutation c.self.inside.list.items _ c.in_ok-sort_by_bytes.ensures.permutation)
    c.summed.ensures
