use Rattle.ncq_tree.proofs.Exact.{nodes_total, nodes_equal}
use Rattle.ncq_tree.proofs.laws.order_is_total.Goals as goal

pub returns : goal.returns
returns c = record { total = nodes_total; equal = nodes_equal }
