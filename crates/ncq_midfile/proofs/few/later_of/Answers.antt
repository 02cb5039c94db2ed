use Rattle.std.proofs.lemmas.List.{take_rest}
use Rattle.ncq_midfile.proofs.FewLaws.{rising_rest, any_rest}
use Rattle.ncq_midfile.proofs.few.later_of.Goals as goal

pub returns-clause-rising : goal.returns-clause-rising
returns-clause-rising c = rw take_rest (rising_rest 0 c.args.from c.count_below-below.result c.args.places.now c.requires c.count_below-below.ensures.above)

pub returns-clause-same : goal.returns-clause-same
returns-clause-same c = λ q low. rw take_rest (any_rest q c.args.from c.count_below-below.result c.args.places.now c.count_below-below.ensures.within c.count_below-below.ensures.below low)
