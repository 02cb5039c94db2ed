use Rattle.ncq_base.specs.Lines.{lines_in}
use Rattle.ncq_pyx.specs.Faults.{max_nesting}
use Rattle.ncq_flat.proofs.ItemLaws.{read_proper}
use Rattle.ncq_flat.proofs.reading.read_flat_block.Goals as goal

pub returns-clause-proper : goal.returns-clause-proper
returns-clause-proper c =
    read_proper max_nesting (lines_in c.text.result.now) c.read_items.result c.read_items.ensures
