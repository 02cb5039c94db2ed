use Rattle.ncq_shelf.proofs.KeyLaws.{forgets_more}
use Rattle.ncq_shelf.proofs.keys.forget_atoms.Goals as goal

pub loop-atom-preserved : goal.loop-atom-preserved
loop-atom-preserved c = forgets_more c.args.number c.args.holders.now c.loop-atom.holders c.forget.new.self c.atom-item.result c.loop-atom.invariant c.forget.ensures
