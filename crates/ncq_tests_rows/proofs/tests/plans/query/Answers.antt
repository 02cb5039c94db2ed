use Rattle.std.proofs.Common.{List, ap}
use Rattle.ncq_plan.specs.declared.residual.Check.{Check}
use Rattle.ncq_plan.specs.Residuals.{checks_are_within}
use Rattle.ncq_plan.specs.WellFormed.{arms_width}
use Rattle.ncq_plan.proofs.CallerLemmas.{text_within}
use Rattle.ncq_tests_rows.proofs.tests.plans.query.Goals as goal

pub returns : goal.returns
returns c = record {
  some = c.requires.some;
  few = c.requires.few;
  slots = c.requires.slots;
  equals = c.requires.equals;
  ranges = c.requires.ranges;
  arms = c.requires.arms;
  paths = c.requires.paths;
  residual = ap (λ (checks : List Check). checks_are_within (arms_width c.args.arms) checks) c.new.ensures;
  template = text_within (arms_width c.args.arms) c.in_ok-bytes_of.field-0;
}
