use Rattle.ncq_base.proofs.AtomOrder.{atom_cmp_total}
use Rattle.ncq_base.proofs.laws.order_is_total.Goals as goal

pub returns : goal.returns
returns c = atom_cmp_total
