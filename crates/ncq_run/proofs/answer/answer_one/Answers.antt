use Rattle.ncq_run.proofs.SinkLaws.{sink_written}
use Rattle.ncq_run.proofs.answer.answer_one.Goals as goal

pub returns-in-Ok-write_all-clause-sink : goal.returns-in-Ok-write_all-clause-sink
returns-in-Ok-write_all-clause-sink g c = sink_written _ _ _ _ _ c.write_all.ensures.cause.later c.write_all.ensures.sure _
