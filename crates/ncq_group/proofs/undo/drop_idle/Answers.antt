use Rattle.std.proofs.Common.{sym, subst}
use Rattle.ncq_group.specs.Grown.{IsDropped}
use Rattle.ncq_group.proofs.Cuts.{dropped_rest}
use Rattle.ncq_group.proofs.undo.drop_idle.Goals as goal

pub returns-clause-dropped : goal.returns-clause-dropped
returns-clause-dropped c = subst (IsDropped c.args.filed.now.shelf c.args.number) (sym c.take_out-inputs.ensures.gone) (dropped_rest c.args.filed.now.shelf c.args.number c.requires.grounded c.if-not-is_idle.ensures)
