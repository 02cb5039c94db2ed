use Rattle.std.proofs.Common.{subst}
use Rattle.ncq_shelf.specs.Ranges.{ShareRows}
use Rattle.ncq_group.specs.Tables.{TableState}
use Rattle.ncq_group.proofs.table.GroupTable.facts.Goals as goal

pub returns-clause-shared : goal.returns-clause-shared
returns-clause-shared c = subst (λ (t : TableState). ShareRows t.files) c.self.view_is c.share_rows.ensures
