use Rattle.ncq_flat.proofs.SameLaws.{line_rest}
use Rattle.ncq_flat.proofs.same.behind_name.Goals as goal

pub returns : goal.returns
returns c =
    line_rest c.behind_byte-2.result c.args.mark c.args.name.now c.args.text.now c.in_ok-line.line.now c.in_ok-end.end.now
    c.in_ok-line.ensures c.in_ok-end.ensures c.behind_byte-2.ensures
