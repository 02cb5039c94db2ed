use Rattle.ncq_script.proofs.ScriptLaws.{ended_script}
use Rattle.ncq_script.proofs.script_reader.ScriptReader.finish.Goals as goal

pub returns-clause-follows : goal.returns-clause-follows
returns-clause-follows c = rw (← c.self.view_is) (ended_script _ _ _ c.finish.ensures.follows c.finish.ensures.limit c.finish.ensures.closed)
