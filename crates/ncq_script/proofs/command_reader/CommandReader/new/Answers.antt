use Rattle.ncq_script.proofs.Following.{nothing_pushed}
use Rattle.ncq_script.proofs.command_reader.CommandReader.new.Goals as goal

pub returns-clause-follows : goal.returns-clause-follows
returns-clause-follows c = nothing_pushed _ c.new.ensures.follows
