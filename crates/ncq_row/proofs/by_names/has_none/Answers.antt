use Rattle.std.proofs.Common.{arith}
use Rattle.ncq_row.proofs.ByNamesLaws.{none_of_each}
use Rattle.ncq_row.proofs.by_names.has_none.Goals as goal

pub returns-then-len-eq0 : goal.returns-then-len-eq0
returns-then-len-eq0 c = λ yes.
    none_of_each c.args.each.now c.loop-rows.rows-index c.rows-item.result (omega arith) c.rows-item.is (omega arith)
