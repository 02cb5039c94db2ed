use Rattle.std.proofs.lemmas.Result.{err_from_is_err_and}
use Rattle.ncq_run.proofs.Answering.{answers_accepted, answers_refused, asks_failed, spans_accepted, spans_refused}
use Rattle.ncq_run.proofs.answer.make_answer.Goals as goal

pub returns-in-Ok-clause-made : goal.returns-in-Ok-clause-made
returns-in-Ok-clause-made g c history stands = (answers_accepted _ _ _ _ _ c.clear.ensures.items c.in-Ok.ensures.accepted c.in-Ok.ensures.joined c.in-Ok.ensures.answer history stands).0

pub returns-in-Ok-clause-asks : goal.returns-in-Ok-clause-asks
returns-in-Ok-clause-asks g c = record {
  stands = λ history stands. (answers_accepted _ _ _ _ _ c.clear.ensures.items c.in-Ok.ensures.accepted c.in-Ok.ensures.joined c.in-Ok.ensures.answer history stands).1;
  counted = c.in-Ok.ensures.counted;
  handed = c.apply_twice.ensures.handed;
  work = c.apply_twice.ensures.work;
}

pub returns-in_ok-write_refused-in-Err-Refused-clause-made : goal.returns-in_ok-write_refused-in-Err-Refused-clause-made
returns-in_ok-write_refused-in-Err-Refused-clause-made g c history stands =
    let said = c.in-Err-Refused.ensures in
    let is = c.in-Err-Refused.field-0-is in
    (answers_refused _ _ _ _ _ _ _ _ c.clear.ensures.items (rw is at said.refused) said.stays said.unwritten (rw is at said.counted) c.count.ensures c.in_ok-write_refused-in-Err-Refused.ensures.ok
    history stands).0

pub returns-in_ok-write_refused-in-Err-Refused-clause-asks : goal.returns-in_ok-write_refused-in-Err-Refused-clause-asks
returns-in_ok-write_refused-in-Err-Refused-clause-asks g c =
    let said = c.in-Err-Refused.ensures in
    let is = c.in-Err-Refused.field-0-is in
    record {
      stands = λ history stands.
          (answers_refused _ _ _ _ _ _ _ _ c.clear.ensures.items (rw is at said.refused) said.stays said.unwritten (rw is at said.counted) c.count.ensures
          c.in_ok-write_refused-in-Err-Refused.ensures.ok history stands).1;
      counted = rw is at said.counted;
      handed = c.apply_twice.ensures.handed;
      work = c.apply_twice.ensures.work;
    }

pub returns-in_err-write_refused-in-Err-Refused-clause-asks : goal.returns-in_err-write_refused-in-Err-Refused-clause-asks
returns-in_err-write_refused-in-Err-Refused-clause-asks g c =
    let p = err_from_is_err_and c.from_residual.result c.from_residual.ensures.1 in
    asks_failed _ _ _ _ _ _ p.0 p.1 c.apply_twice.ensures.handed c.apply_twice.ensures.work

pub returns-in-Err-OutOfMemory-clause-asks : goal.returns-in-Err-OutOfMemory-clause-asks
returns-in-Err-OutOfMemory-clause-asks g c = record { stands = tt; counted = tt; handed = c.apply_twice.ensures.handed; work = c.apply_twice.ensures.work }

pub returns-in-Ok-clause-spans : goal.returns-in-Ok-clause-spans
returns-in-Ok-clause-spans g c = spans_accepted c.args.engine.now c.args.command.now _ c.apply_twice.new.engine c.clear.ensures.items c.in-Ok.ensures.accepted c.in-Ok.ensures.spans

pub returns-in_ok-write_refused-in-Err-Refused-clause-spans : goal.returns-in_ok-write_refused-in-Err-Refused-clause-spans
returns-in_ok-write_refused-in-Err-Refused-clause-spans g c = spans_refused c.args.engine.now c.args.command.now _ c.apply_twice.new.engine c.in-Err-Refused.ensures.no_spans (rw c.in-Err-Refused.field-0-is at c.in-Err-Refused.ensures.refused)
