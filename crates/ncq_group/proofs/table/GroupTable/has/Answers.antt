use Rattle.std.proofs.Common.{subst}
use Rattle.std.specs.Prelude.{◌↔◌, IsTrue}
use Rattle.ncq_shelf.specs.Stands.{IsThere}
use Rattle.ncq_group.specs.Tables.{TableState}
use Rattle.ncq_group.proofs.table.GroupTable.has.Goals as goal

pub returns : goal.returns
returns c = subst (λ (t : TableState). IsTrue c.has.result ↔ IsThere t.files c.args.file.0) c.self.view_is c.has.ensures
