use Rattle.ncq_script.proofs.Follow.{end_marked}
use Rattle.ncq_script.proofs.line.LineReader.finish.Goals as goal

pub returns-clause-follows : goal.returns-clause-follows
returns-clause-follows c = rw (← c.self.view_is) (λ pushed count. end_marked _ _ _ _ pushed _ count)
