use Rattle.std.proofs.Common.{◌++◌, ◌∙◌, arith, length-append, refl}
use Rattle.ncq_run.proofs.Answered.{answered_pushed, unpushed_through, unpushed_writes, up_to_pushed}
use Rattle.ncq_run.proofs.SinkLaws.{sink_unwritten}
use Rattle.ncq_run.proofs.session.answer_piece.Goals as goal

pub answer_commands-requires-clause-so_far : goal.answer_commands-requires-clause-so_far
answer_commands-requires-clause-so_far g c =
    let so = c.requires.so_far in
    let pushed = c.in-Ok.ensures in
    let long = length-append so.0 c.args.piece.now in
    let short = so.2 in
    (so.0 ++ c.args.piece.now, so.1, omega (arith, long, short), up_to_pushed so.0 c.args.piece.now _ _ c.args.engine.now c.requires.is_open pushed.open pushed.limit pushed.ok so.3)

pub returns-in-Ok-clause-through : goal.returns-in-Ok-clause-through
returns-in-Ok-clause-through g c bytes begun so =
    let pushed = c.in-Ok.ensures in
    c.answer_commands.ensures.advances.through (bytes ++ c.args.piece.now) begun (up_to_pushed bytes c.args.piece.now _ _ c.args.engine.now c.requires.is_open pushed.open pushed.limit pushed.ok so)

pub returns-in-Ok-clause-written : goal.returns-in-Ok-clause-written
returns-in-Ok-clause-written g c bytes before begun so =
    let pushed = c.in-Ok.ensures in
    c.answer_commands.ensures.written (bytes ++ c.args.piece.now) before begun (answered_pushed bytes c.args.piece.now _ _ c.args.engine.now c.requires.is_open pushed.open pushed.limit pushed.ok so)

pub returns-in-Ok-clause-limit : goal.returns-in-Ok-clause-limit
returns-in-Ok-clause-limit g c = c.answer_commands.ensures.advances.limit ∙ c.in-Ok.ensures.limit

pub returns-in-Ok-clause-is_open : goal.returns-in-Ok-clause-is_open
returns-in-Ok-clause-is_open g c = c.answer_commands.ensures.advances.finished ∙ c.in-Ok.ensures.open

pub returns-in-Ok-clause-handed : goal.returns-in-Ok-clause-handed
returns-in-Ok-clause-handed g c = c.answer_commands.ensures.advances.handed

pub returns-in-Err-clause-through : goal.returns-in-Err-clause-through
returns-in-Err-clause-through g c bytes begun so = unpushed_through bytes c.args.piece.now _ _ c.args.engine.now c.requires.is_open c.in-Err.ensures.err _ _ refl so

pub returns-in-Err-clause-written : goal.returns-in-Err-clause-written
returns-in-Err-clause-written g c bytes before begun so = unpushed_writes bytes c.args.piece.now _ _ c.args.engine.now c.requires.is_open c.in-Err.ensures.err so

pub returns-in-Err-clause-sink : goal.returns-in-Err-clause-sink
returns-in-Err-clause-sink g c = sink_unwritten _ _ _ _ _ (omega arith) refl
