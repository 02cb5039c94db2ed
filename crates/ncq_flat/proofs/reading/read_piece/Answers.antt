use Rattle.ncq_flat.proofs.ItemLaws.{piece_front}
use Rattle.ncq_flat.proofs.reading.read_piece.Goals as goal

pub returns-in-Ok-clause-step : goal.returns-in-Ok-clause-step
returns-in-Ok-clause-step c =
    piece_front c.args.text.now c.behind_element-count.result.1.now c.front_of.result.now c.behind_element-count.result.0
    c.behind_element-count.ensures.leads c.front_of.ensures
    c.in_ok-lines.lines c.in-Ok.items c.in_ok-lines.ensures c.in-Ok.ensures.block
