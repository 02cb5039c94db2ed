use Rattle.std.specs.FinMap.{empty}
use Rattle.std.proofs.Common.{sym, subst}
use Rattle.ncq_count.specs.Counted.{AreCounted}
use Rattle.ncq_count.proofs.CountLaws.{nothing_counted}
use Rattle.ncq_count.proofs.groups.Groups.new.Goals as goal

pub returns : goal.returns
returns c = subst (AreCounted empty) (sym c.new.ensures.empty) nothing_counted
