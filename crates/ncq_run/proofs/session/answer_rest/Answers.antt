use Rattle.std.proofs.Common.{◌∙◌}
use Rattle.ncq_run.proofs.Answered.{answered_end, up_to_end}
use Rattle.ncq_run.proofs.session.answer_rest.Goals as goal

pub answer_commands-requires-clause-so_far : goal.answer_commands-requires-clause-so_far
answer_commands-requires-clause-so_far g c =
    let so = c.requires.so_far in
    let marked = c.finish.ensures in
    (so.0, so.1, so.2, up_to_end so.0 _ _ c.args.engine.now c.requires.is_open marked.closed marked.limit marked.follows so.3)

pub returns-clause-through : goal.returns-clause-through
returns-clause-through g c bytes begun so =
    let marked = c.finish.ensures in
    c.answer_commands.ensures.advances.through bytes begun (up_to_end bytes _ _ c.args.engine.now c.requires.is_open marked.closed marked.limit marked.follows so)

pub returns-clause-written : goal.returns-clause-written
returns-clause-written g c bytes before begun so =
    let marked = c.finish.ensures in
    c.answer_commands.ensures.written bytes before begun (answered_end bytes _ _ c.args.engine.now c.requires.is_open marked.closed marked.limit marked.follows so)

pub returns-clause-limit : goal.returns-clause-limit
returns-clause-limit g c = c.answer_commands.ensures.advances.limit ∙ c.finish.ensures.limit

pub returns-clause-closed : goal.returns-clause-closed
returns-clause-closed g c = c.answer_commands.ensures.advances.finished ∙ c.finish.ensures.closed

pub returns-clause-handed : goal.returns-clause-handed
returns-clause-handed g c = c.answer_commands.ensures.advances.handed
