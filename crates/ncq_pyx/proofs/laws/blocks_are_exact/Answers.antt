use Rattle.ncq_pyx.specs.Faults.{block_of}
use Rattle.ncq_pyx.proofs.Exactly.{one_answer}
use Rattle.ncq_pyx.proofs.FaultLaws.{block_reads}
use Rattle.ncq_pyx.proofs.laws.blocks_are_exact.Goals as goal

pub returns-clause-right : goal.returns-clause-right
returns-clause-right c = λ limit lines. (block_reads limit lines).0

pub returns-clause-only : goal.returns-clause-only
returns-clause-only c = λ limit lines answer reads. let law = block_reads limit lines in one_answer limit lines answer (block_of limit lines) reads law.0 law.1
