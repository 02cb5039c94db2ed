use Rattle.std.proofs.Common.{◌∙◌}
use Rattle.ncq_midfile.proofs.Early.{both_turned}
use Rattle.ncq_midfile.proofs.Withins.{if_ok}
use Rattle.ncq_midfile.proofs.both.early_of_both.Goals as goal

pub returns : goal.returns
returns c = if_ok c.by_first-2.result _ _ c.by_first-2.ensures (λ places those.
    those ∙ both_turned c.args.slot c.args.outer_slot c.args.interval.now c.args.outer.now c.args.n c.args.rows.now)
