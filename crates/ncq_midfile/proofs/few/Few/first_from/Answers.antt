use Rattle.std.proofs.Common.{◌∙◌}
use Rattle.ncq_midfile.proofs.FewLaws.{first_first}
use Rattle.ncq_midfile.proofs.few.Few.first_from.Goals as goal

pub returns-clause-first : goal.returns-clause-first
returns-clause-first c = first_first c.args.from c.later.result.now c.args.self.now c.copied.result (c.copied.ensures ∙ c.first.ensures.value) c.later.ensures.rising c.later.ensures.same
