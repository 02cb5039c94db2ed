use Rattle.std.proofs.Common.{refl}
use Rattle.ncq_script.proofs.ScriptLaws.{nothing_waits}
use Rattle.ncq_script.proofs.script_reader.ScriptReader.new.Goals as goal

pub returns-clause-follows : goal.returns-clause-follows
returns-clause-follows c = nothing_waits _ _ _ _ refl c.new.ensures.follows
