use Rattle.std.proofs.Common.{◌∙◌}
use Rattle.ncq_bag.proofs.CountLaws.{count_is}
use Rattle.ncq_bag.proofs.counts.Counts.count.Goals as goal

pub returns : goal.returns
returns c =
    rw (← c.self.view_is)
    (count_is c.self.inside.counts.entries c.args.key.now c.copied.result c.unwrap_or.result
    c.unwrap_or.ensures (c.copied.ensures ∙ c.get.ensures.value))
