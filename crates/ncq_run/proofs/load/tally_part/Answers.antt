use Rattle.std.proofs.Common.{◌++◌, ◌∙◌, arith, length-append}
use Rattle.std.proofs.lemmas.Result.{err_from_is_err_and, on_ok_weaker}
use Rattle.ncq_run.proofs.Answered.{tallied_pushed, unpushed_through, up_to_pushed}
use Rattle.ncq_run.proofs.load.tally_part.Goals as goal

pub tally_commands-requires-clause-so_far : goal.tally_commands-requires-clause-so_far
tally_commands-requires-clause-so_far g c =
    let so = c.requires.so_far in
    let pushed = c.in_ok-push.ensures in
    let long = length-append so.0 c.args.part.now in
    let short = so.2 in
    (so.0 ++ c.args.part.now, so.1, omega (arith, long, short), tallied_pushed so.0 c.args.part.now _ _ c.args.engine.now c.requires.is_open pushed.open pushed.limit pushed.ok so.3)

pub returns-clause-through : goal.returns-clause-through
returns-clause-through g c bytes begun so =
    let pushed = c.in_ok-push.ensures in
    c.tally_commands.ensures.advances.through (bytes ++ c.args.part.now) begun (up_to_pushed bytes c.args.part.now _ _ c.args.engine.now c.requires.is_open pushed.open pushed.limit pushed.ok so)

pub returns-clause-tallied : goal.returns-clause-tallied
returns-clause-tallied g c = on_ok_weaker c.tally_commands.result
    (λ tallied bytes begun so.
    let pushed = c.in_ok-push.ensures in
    tallied (bytes ++ c.args.part.now) begun (tallied_pushed bytes c.args.part.now _ _ c.args.engine.now c.requires.is_open pushed.open pushed.limit pushed.ok so))
    c.tally_commands.ensures.tallied

pub returns-clause-limit : goal.returns-clause-limit
returns-clause-limit g c = c.tally_commands.ensures.advances.limit ∙ c.in_ok-push.ensures.limit

pub returns-clause-is_open : goal.returns-clause-is_open
returns-clause-is_open g c = c.tally_commands.ensures.advances.finished ∙ c.in_ok-push.ensures.open

pub returns-clause-handed : goal.returns-clause-handed
returns-clause-handed g c = c.tally_commands.ensures.advances.handed

pub returns-in_err-push-clause-through : goal.returns-in_err-push-clause-through
returns-in_err-push-clause-through g c bytes begun so =
    let p = err_from_is_err_and c.from_residual.result c.from_residual.ensures.1 in
    unpushed_through bytes c.args.part.now _ _ c.args.engine.now c.requires.is_open c.in_err-push.ensures.err _ p.0 p.1 so
