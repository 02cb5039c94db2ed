use Rattle.ncq_script.proofs.Follow.{nothing_pushed}
use Rattle.ncq_script.proofs.line.LineReader.new.Goals as goal

pub returns-clause-follows : goal.returns-clause-follows
returns-clause-follows c = rw (c.new.ensures.items, c.new-2.ensures.items) (nothing_pushed c.args.limit)
