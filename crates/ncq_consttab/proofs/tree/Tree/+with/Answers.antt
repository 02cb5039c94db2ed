use Rattle.std.proofs.Common.{arith}
use Rattle.ncq_base.proofs.CountLaws.{total_by-append}
use Rattle.ncq_consttab.proofs.tree.Tree.+with.Goals as goal

pub returns-then-is_before : goal.returns-then-is_before
returns-then-is_before t c = λ f. let w = c.with.ensures f in grind (arith, total_by-append)

pub returns : goal.returns
returns t c = λ f. let w = c.with-2.ensures f in grind (arith, total_by-append)
