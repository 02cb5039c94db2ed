use Rattle.std.proofs.Common.{◌∙◌, sym}
use Rattle.ncq_distinct.proofs.ShownTables.{counts_shown, nothing_waits}
use Rattle.ncq_distinct.proofs.table.DistinctTable.forget.Goals as goal

pub returns-clause-counts : goal.returns-clause-counts
returns-clause-counts c =
    let counts = c.self.inside.counts.entries in
    rw (← c.self.view_is)
    (λ any. counts_shown counts c.clear.new.self.entries any
    ∙ sym (counts_shown counts c.self.inside.waiting.entries any))

pub returns-clause-settled : goal.returns-clause-settled
returns-clause-settled c =
    nothing_waits c.self.inside.counts.entries c.clear.new.self.entries c.clear.ensures.empty
