use Rattle.std.proofs.Common.{◌∙◌, ap, ◌+◌, ◌++◌, length, map, drop}
use Rattle.ncq_bind.specs.Places.{places}
use Rattle.ncq_bind.specs.Answers.{arm_of}
use Rattle.ncq_bind.specs.NormalArms.{open_arms}
use Rattle.ncq_bind.proofs.Gathering.{drop_more, places_more}
use Rattle.ncq_bind.proofs.gather.gather_arms.Goals as goal

pub loop-pattern-preserved : goal.loop-pattern-preserved
loop-pattern-preserved c = record {
  arms = λ rest.
      c.in_ok-gather_arm.ensures.arms (map (arm_of c.args.source.now) (drop (c.loop-pattern.pattern-index + 1) c.args.patterns.now) ++ rest)
      ∙ ap (λ v. c.loop-pattern.to.arms ++ open_arms (length c.loop-pattern.to.places) v)
      (drop_more c.args.source.now c.args.patterns.now c.loop-pattern.pattern-index c.pattern-item.result rest c.loop-pattern-test.true c.pattern-item.is)
      ∙ c.loop-pattern.invariant.arms rest;
  places =
      c.in_ok-gather_arm.ensures.places
      ∙ ap (λ v. v ++ places c.pattern-item.result) c.loop-pattern.invariant.places
      ∙ places_more c.args.source.now c.args.to.now.places c.args.patterns.now c.loop-pattern.pattern-index c.pattern-item.result c.loop-pattern-test.true c.pattern-item.is;
}
