use Rattle.ncq_midfile.specs.Finders.{cut_finder}
use Rattle.ncq_midfile.proofs.IndexLaws.{mapped_more}
use Rattle.ncq_midfile.proofs.finder.cut_all.Goals as goal

pub loop-finder-preserved : goal.loop-finder-preserved
loop-finder-preserved c =
    mapped_more (cut_finder c.args.kept) c.loop-finder.finder-index c.args.finders.now c.loop-finder.finders c.finder-item.result c.cut.new.self c.loop-finder-test.true c.loop-finder.invariant c.cut.ensures
