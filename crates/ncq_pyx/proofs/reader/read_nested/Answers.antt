use Rattle.ncq_pyx.specs.Faults.{block_of}
use Rattle.ncq_pyx.proofs.Exactly.{one_answer}
use Rattle.ncq_pyx.proofs.FaultLaws.{block_reads}
use Rattle.ncq_pyx.proofs.ReadLaws.{answer_proper}
use Rattle.ncq_pyx.proofs.reader.read_nested.Goals as goal

pub returns-clause-exactly : goal.returns-clause-exactly
returns-clause-exactly c = λ answer h is. one_answer c.args.limit c.args.lines.now c.read_lines.result answer c.read_lines.ensures h is

pub returns-clause-proper : goal.returns-clause-proper
returns-clause-proper c = answer_proper c.args.limit c.args.lines.now c.read_lines.result c.read_lines.ensures

pub returns-clause-block : goal.returns-clause-block
returns-clause-block c =
    let law = block_reads c.args.limit c.args.lines.now in
    one_answer c.args.limit c.args.lines.now c.read_lines.result (block_of c.args.limit c.args.lines.now) c.read_lines.ensures law.0 law.1
