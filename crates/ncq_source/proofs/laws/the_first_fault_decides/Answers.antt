use Rattle.ncq_source.proofs.FaultLaws.{fault_in-batch, fault_in-prepared}
use Rattle.ncq_source.proofs.laws.the_first_fault_decides.Goals as goal

pub returns-clause-items : goal.returns-clause-items
returns-clause-items c = fault_in-prepared

pub returns-clause-sections : goal.returns-clause-sections
returns-clause-sections c = fault_in-batch
