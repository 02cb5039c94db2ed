use Rattle.std.proofs.Common.{ℕ, IfNone, subst}
use Rattle.ncq_base.specs.declared.interval.Interval.{Interval}
use Rattle.ncq_shelf.specs.Ranges.{SelectsRange}
use Rattle.ncq_group.specs.Tables.{TableState}
use Rattle.ncq_group.proofs.table.GroupTable.range_file.Goals as goal

pub returns-clause-none : goal.returns-clause-none
returns-clause-none c =
    subst (λ (t : TableState). IfNone c.range_file.result ((interval : Interval) (number : ℕ) → SelectsRange t.files c.args.input.0 c.args.slot interval number → ⊥)) c.self.view_is c.range_file.ensures.none
