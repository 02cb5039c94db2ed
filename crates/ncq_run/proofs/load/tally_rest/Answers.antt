use Rattle.std.proofs.Common.{◌∙◌}
use Rattle.std.proofs.lemmas.Result.{on_ok_weaker}
use Rattle.ncq_run.proofs.Answered.{tallied_end, up_to_end}
use Rattle.ncq_run.proofs.load.tally_rest.Goals as goal

pub tally_commands-requires-clause-so_far : goal.tally_commands-requires-clause-so_far
tally_commands-requires-clause-so_far g c =
    let so = c.requires.so_far in
    let marked = c.finish.ensures in
    (so.0, so.1, so.2, tallied_end so.0 _ _ c.args.engine.now c.requires.is_open marked.closed marked.limit marked.follows so.3)

pub returns-clause-through : goal.returns-clause-through
returns-clause-through g c bytes begun so =
    let marked = c.finish.ensures in
    c.tally_commands.ensures.advances.through bytes begun (up_to_end bytes _ _ c.args.engine.now c.requires.is_open marked.closed marked.limit marked.follows so)

pub returns-clause-tallied : goal.returns-clause-tallied
returns-clause-tallied g c = on_ok_weaker c.tally_commands.result
    (λ tallied bytes begun so.
    let marked = c.finish.ensures in
    tallied bytes begun (tallied_end bytes _ _ c.args.engine.now c.requires.is_open marked.closed marked.limit marked.follows so))
    c.tally_commands.ensures.tallied

pub returns-clause-limit : goal.returns-clause-limit
returns-clause-limit g c = c.tally_commands.ensures.advances.limit ∙ c.finish.ensures.limit

pub returns-clause-closed : goal.returns-clause-closed
returns-clause-closed g c = c.tally_commands.ensures.advances.finished ∙ c.finish.ensures.closed

pub returns-clause-handed : goal.returns-clause-handed
returns-clause-handed g c = c.tally_commands.ensures.advances.handed
