use Rattle.ncq_script.proofs.Following.{end_marked}
use Rattle.ncq_script.proofs.command_reader.CommandReader.finish.Goals as goal

pub returns-clause-follows : goal.returns-clause-follows
returns-clause-follows c = rw (← c.self.view_is) (end_marked _ _ _ c.finish.ensures.follows c.finish.ensures.limit c.finish.ensures.closed)
