use Rattle.std.proofs.Common.{IfOk}
use Rattle.ncq_midfile.specs.Content.{rows_at}
use Rattle.ncq_midfile.specs.Views.{is_within, IsContentOf}
use Rattle.ncq_midfile.proofs.Views.{of_view}
use Rattle.ncq_midfile.proofs.view.View.matching_interval.Goals as goal

pub returns-in-Ranged-clause-content : goal.returns-in-Ranged-clause-content
returns-in-Ranged-clause-content c =
    of_view c.args.self.now c.in-Ranged.file c.in-Ranged.outer c.in-Ranged.base c.in-Ranged.is
    (λ own rows. IfOk c.interval_within.result (λ places. IsContentOf (is_within c.args.slot c.args.interval.now) c.args.n own (rows_at places rows)))
    c.rows.result.now c.slot.result c.rows.ensures.rows c.slot.ensures.slot c.interval_within.ensures.content
