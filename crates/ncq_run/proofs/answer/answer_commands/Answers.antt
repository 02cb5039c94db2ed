use Rattle.std.proofs.Common.{◌≡◌, arith, refl, ◌∙◌}
use Rattle.std.specs.Prelude.{Err}
use Rattle.std.proofs.lemmas.Result.{err_from_is_err_and}
use Rattle.ncq_script.proofs.CallerLemmas.{given_few}
use Rattle.ncq_run.proofs.Answered.{advanced_more, advanced_none, advances_all, advances_not, advances_tried, answered_next, writes_all, writes_front, writes_stopped}
use Rattle.ncq_run.proofs.SinkLaws.{sink_later, sink_unwritten, sink_written}
use Rattle.ncq_run.proofs.answer.answer_commands.Goals as goal

pub answer_one-requires-clause-few : goal.answer_one-requires-clause-few
answer_one-requires-clause-few g c =
    let so = c.requires.so_far in
    let now = c.commands.invariant.advanced.up_to so.0 so.1 so.3 in
    let next = rw c.in-Ok-Command.field-0-is at c.in-Ok-Command.ensures.next in
    omega (arith, given_few _ _ _ _ _ (next so.0 c.commands.engine.count now.follows).0, so.2)

pub answer_one-requires-clause-stands : goal.answer_one-requires-clause-stands
answer_one-requires-clause-stands g c = let so = c.requires.so_far in (_, (c.commands.invariant.advanced.up_to so.0 so.1 so.3).stands)

pub answer_one-requires-clause-handlers : goal.answer_one-requires-clause-handlers
answer_one-requires-clause-handlers g c = c.commands.invariant.advanced.handed ∙ c.requires.handlers

pub commands-init : goal.commands-init
commands-init g c = record { advanced = advanced_none _ _ _; written = λ bytes before begun so. so; sure = refl; later = omega arith }

pub commands-preserved : goal.commands-preserved
commands-preserved g c =
    let next = rw c.in-Ok-Command.field-0-is at c.in-Ok-Command.ensures.next in
    let asks = c.in_ok-answer_one-in-Ok-Command.ensures.asks in
    record {
      advanced = advanced_more c.commands.invariant.advanced _ c.in-Ok-Command.ensures.limit c.in-Ok-Command.ensures.finished _ next _ asks;
      written = λ bytes before begun so.
          let was = c.commands.invariant.written bytes before begun so in
          let now = next bytes c.commands.engine.count was.up_to.follows in
          answered_next bytes c.commands.reader c.next.new.self c.in-Ok-Command.ensures.limit c.in-Ok-Command.ensures.finished c.commands.engine c.answer_one.new.engine _ _ _ now.0 _ asks now.1 was
          (c.in_ok-answer_one-in-Ok-Command.ensures.written _ was.up_to.stands);
      sure = c.answer_one.ensures.sink.stays ∙ c.commands.invariant.sure;
      later = let before = c.commands.invariant.later in let here = c.answer_one.ensures.sink.later in omega (arith, before, here);
    }

pub returns-in_err-answer_one-in-Ok-Command-clause-advances : goal.returns-in_err-answer_one-in-Ok-Command-clause-advances
returns-in_err-answer_one-in-Ok-Command-clause-advances g c =
    let p = err_from_is_err_and c.from_residual.result c.from_residual.ensures.1 in
    let next = rw c.in-Ok-Command.field-0-is at c.in-Ok-Command.ensures.next in
    advances_tried c.commands.invariant.advanced _ c.in-Ok-Command.ensures.limit c.in-Ok-Command.ensures.finished _ next _ _ p.0 p.1 c.in_err-answer_one-in-Ok-Command.ensures.asks

pub returns-in_err-answer_one-in-Ok-Command-clause-written : goal.returns-in_err-answer_one-in-Ok-Command-clause-written
returns-in_err-answer_one-in-Ok-Command-clause-written g c bytes before begun so =
    let p = err_from_is_err_and c.from_residual.result c.from_residual.ensures.1 in
    let e = p.1 in let f = p.2 in
    let is : c.from_residual.result ≡ Err c.in_err-answer_one-in-Ok-Command.field-0.0 = cc in
    let next = rw c.in-Ok-Command.field-0-is at c.in-Ok-Command.ensures.next in
    let was = c.commands.invariant.written bytes before begun so in
    let now = next bytes c.commands.engine.count was.up_to.follows in
    let stopped = c.in_err-answer_one-in-Ok-Command.ensures in
    writes_stopped bytes c.commands.reader c.next.new.self c.in-Ok-Command.ensures.limit c.in-Ok-Command.ensures.finished c.commands.engine c.answer_one.new.engine _ c.commands.steps c.answer_one.new.steps now.0 _ _ _ was stopped.asks.handed _ _ _ is (stopped.written _ was.up_to.stands)

pub returns-in_err-answer_one-in-Ok-Command-clause-sink : goal.returns-in_err-answer_one-in-Ok-Command-clause-sink
returns-in_err-answer_one-in-Ok-Command-clause-sink g c =
    let p = err_from_is_err_and c.from_residual.result c.from_residual.ensures.1 in
    let e = p.1 in let f = p.2 in
    let is : c.from_residual.result ≡ Err c.in_err-answer_one-in-Ok-Command.field-0.0 = cc in
    sink_later _ _ _ _ _ _ _ _ _ c.commands.invariant.later c.commands.invariant.sure is c.in_err-answer_one-in-Ok-Command.ensures.sink

pub returns-in-Ok-Wanting-clause-sink : goal.returns-in-Ok-Wanting-clause-sink
returns-in-Ok-Wanting-clause-sink g c = sink_written _ _ _ _ _ c.commands.invariant.later c.commands.invariant.sure _

pub returns-in-Ok-End-clause-sink : goal.returns-in-Ok-End-clause-sink
returns-in-Ok-End-clause-sink g c = sink_written _ _ _ _ _ c.commands.invariant.later c.commands.invariant.sure _

pub returns-in-Err-clause-sink : goal.returns-in-Err-clause-sink
returns-in-Err-clause-sink g c = sink_unwritten _ _ _ _ _ c.commands.invariant.later c.commands.invariant.sure

pub returns-in-Ok-Wanting-clause-advances : goal.returns-in-Ok-Wanting-clause-advances
returns-in-Ok-Wanting-clause-advances g c =
    let next = rw c.in-Ok-Wanting.field-0-is at c.in-Ok-Wanting.ensures.next in
    advances_all c.commands.invariant.advanced _ c.in-Ok-Wanting.ensures.limit c.in-Ok-Wanting.ensures.finished _ (λ bytes count follows. let now = next bytes count follows in (now.1, now.2))

pub returns-in-Ok-Wanting-clause-written : goal.returns-in-Ok-Wanting-clause-written
returns-in-Ok-Wanting-clause-written g c bytes before begun so =
    let was = c.commands.invariant.written bytes before begun so in
    let next = rw c.in-Ok-Wanting.field-0-is at c.in-Ok-Wanting.ensures.next in
    writes_all bytes c.commands.reader c.next.new.self c.in-Ok-Wanting.ensures.limit c.in-Ok-Wanting.ensures.finished c.commands.engine _ _ _ _ _ was (next bytes c.commands.engine.count was.up_to.follows).1

pub returns-in-Ok-End-clause-advances : goal.returns-in-Ok-End-clause-advances
returns-in-Ok-End-clause-advances g c =
    let next = rw c.in-Ok-End.field-0-is at c.in-Ok-End.ensures.next in
    advances_all c.commands.invariant.advanced _ c.in-Ok-End.ensures.limit c.in-Ok-End.ensures.finished _ (λ bytes count follows. let now = next bytes count follows in (now.1, now.2))

pub returns-in-Ok-End-clause-written : goal.returns-in-Ok-End-clause-written
returns-in-Ok-End-clause-written g c bytes before begun so =
    let was = c.commands.invariant.written bytes before begun so in
    let next = rw c.in-Ok-End.field-0-is at c.in-Ok-End.ensures.next in
    writes_all bytes c.commands.reader c.next.new.self c.in-Ok-End.ensures.limit c.in-Ok-End.ensures.finished c.commands.engine _ _ _ _ _ was (next bytes c.commands.engine.count was.up_to.follows).1

pub returns-in-Err-clause-advances : goal.returns-in-Err-clause-advances
returns-in-Err-clause-advances g c = advances_not c.commands.invariant.advanced _ c.next.ensures.limit c.next.ensures.finished _

pub returns-in-Err-clause-written : goal.returns-in-Err-clause-written
returns-in-Err-clause-written g c bytes before begun so =
    writes_front bytes c.commands.reader c.next.new.self c.next.ensures.limit c.next.ensures.finished c.commands.engine _ _ _ _ _ (c.commands.invariant.written bytes before begun so)
