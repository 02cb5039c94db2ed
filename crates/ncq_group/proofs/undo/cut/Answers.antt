use Rattle.ncq_group.proofs.Cuts.{cut_step}
use Rattle.ncq_group.proofs.undo.cut.Goals as goal

pub loop-filed-preserved : goal.loop-filed-preserved
loop-filed-preserved c = record {
  cut = cut_step c.args.low c.loop-filed.filed.next c.args.filed.now.shelf c.loop-filed.filed.shelf c.drop_idle.new.filed.shelf c.requires.unused c.loop-filed-test.true c.loop-filed.invariant.cut c.drop_idle.ensures.dropped;
  counted = c.drop_idle.ensures.counted;
}
