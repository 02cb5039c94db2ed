use Rattle.std.proofs.Common.{subst}
use Rattle.ncq_shelf.specs.Ranges.{ShareRows}
use Rattle.ncq_live.specs.LiveTables.{LiveState}
use Rattle.ncq_live.proofs.live_table.LiveTable.facts.Goals as goal

pub returns-clause-shared : goal.returns-clause-shared
returns-clause-shared c = subst (λ (s : LiveState). ShareRows s.table.files) c.self.view_is c.facts.ensures.shared
