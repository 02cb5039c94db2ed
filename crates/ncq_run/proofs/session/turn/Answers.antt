use Rattle.std.proofs.Common.{◌≡◌, ◌≤◌, ◌++◌, ◌∙◌, length, take, arith, rules, ap, refl, length-append}
use Rattle.std.specs.Prelude.{Err}
use Rattle.std.proofs.lemmas.List.{length-take}
use Rattle.ncq_run.proofs.Turns.{goes_on, over_done, over_read_fault, over_stopped, over_stopped_end, over_too_long, stopped_read, stopped_write, written_front}
use Rattle.ncq_run.proofs.session.turn.Goals as goal

pub answer_rest-requires-clause-so_far : goal.answer_rest-requires-clause-so_far
answer_rest-requires-clause-so_far g c =
    let some = c.requires.ready.some in
    let long = some.2 in
    let within = c.requires.ready.within in
    let small = c.requires.ready.small in
    (some.0, some.1, omega (arith, long, within, small), some.3)

pub answer_piece-requires-clause-so_far : goal.answer_piece-requires-clause-so_far
answer_piece-requires-clause-so_far g c =
    let some = c.requires.ready.some in
    let long = some.2 in
    let within = c.requires.ready.within in
    let small = c.requires.ready.small in
    let piece : c.front_of-piece.result.now ≡ take c.min-inside.result c.fill.new.buffer =
    written_front _ c.args.session.now.buffer.len c.fill.new.buffer _ _ _ c.front_of-piece.ensures c.deref.ensures.value (omega (arith, c.fill.auto.buffer, c.deref_mut.ensures.len)) in
    let front = ap length piece ∙ length-take c.min-inside.result c.fill.new.buffer in
    (some.0, some.1, omega (arith, long, within, small, front, c.min-inside.ensures), some.3)

pub returns-in_default-clause-turns : goal.returns-in_default-clause-turns
returns-in_default-clause-turns g c start begun so =
    over_read_fault _ _ _ _ c.args.session.now.most start _ _ _ _ _ begun _ so c.requires.ready.is_open c.requires.ready.within _ _ _ c.in_default.ensures.stays.0 c.in_default.ensures.cause.failed

pub returns-in-Ok-answer_rest-clause-turns : goal.returns-in-Ok-answer_rest-clause-turns
returns-in-Ok-answer_rest-clause-turns g c start begun so =
    over_done _ _ _ _ c.args.session.now.most start _ _ _ _ _ begun _ so c.requires.ready.is_open c.requires.ready.within
    _ _ _ _ _ _ _ _ c.answer_rest.ensures.handed c.answer_rest.ensures.limit c.fill.new.buffer c.in-Ok.got c.in-Ok.ensures.bytes c.if-got-eq0.true (c.in-Ok.ensures.end c.if-got-eq0.true) c.answer_rest.ensures.closed _
    (c.in-Ok-answer_rest.ensures.through so.bytes begun so.answered.up_to) (c.in-Ok-answer_rest.ensures.written so.bytes start.held begun so.answered) _ refl c.in-Ok.ensures.given

pub returns-in-Err-clause-turns : goal.returns-in-Err-clause-turns
returns-in-Err-clause-turns g c start begun so =
    over_stopped_end _ _ _ _ c.args.session.now.most start _ _ _ _ _ begun _ so c.requires.ready.is_open c.requires.ready.within
    _ _ _ _ _ _ _ _ c.answer_rest.ensures.handed c.answer_rest.ensures.limit c.fill.new.buffer c.in-Ok.got c.in-Ok.ensures.bytes c.if-got-eq0.true (c.in-Ok.ensures.end c.if-got-eq0.true) c.answer_rest.ensures.closed _
    (c.in-Err.ensures.through so.bytes begun so.answered.up_to) (c.in-Err.ensures.written so.bytes start.held begun so.answered) _ _ refl c.status_of.ensures c.in-Err.ensures.sink.cause

pub returns-in-Err-clause-sure_sink : goal.returns-in-Err-clause-sure_sink
returns-in-Err-clause-sure_sink g c failed = c.in-Err.ensures.sink.full (ap Err (stopped_write _ _ c.status_of.ensures failed))

pub returns-in-Err-clause-sure_source : goal.returns-in-Err-clause-sure_source
returns-in-Err-clause-sure_source g c failed sure = stopped_read _ _ c.status_of.ensures failed

pub returns-in-Ok-answer_piece-clause-turns : goal.returns-in-Ok-answer_piece-clause-turns
returns-in-Ok-answer_piece-clause-turns g c start begun so =
    let piece : c.front_of-piece.result.now ≡ take c.min-inside.result c.fill.new.buffer =
    written_front _ c.args.session.now.buffer.len c.fill.new.buffer _ _ _ c.front_of-piece.ensures c.deref.ensures.value (omega (arith, c.fill.auto.buffer, c.deref_mut.ensures.len)) in
    let room : c.in-Ok.got ≤ length c.fill.new.buffer = omega (arith, c.fill.auto.buffer, c.deref_mut.ensures.len, c.in-Ok.ensures.small, c.min.ensures, c.requires.ready.room_is) in
    over_too_long _ _ _ _ c.args.session.now.most start _ _ _ _ _ begun _ so c.requires.ready.is_open c.requires.ready.within
    _ _ _ _ _ _ _ _ c.answer_piece.ensures.handed c.answer_piece.ensures.limit c.fill.new.buffer c.in-Ok.got c.in-Ok.ensures.bytes c.min-inside.result (omega arith) c.front_of-piece.result.now piece c.answer_piece.ensures.is_open _
    (c.in-Ok-answer_piece.ensures.through so.bytes begun so.answered.up_to) (c.in-Ok-answer_piece.ensures.written so.bytes start.held begun so.answered) _ refl room c.in-Ok.ensures.given (search rules) (omega arith)

pub returns-in-Ok-2-clause-turns : goal.returns-in-Ok-2-clause-turns
returns-in-Ok-2-clause-turns g c start begun so =
    let piece : c.front_of-piece.result.now ≡ take c.min-inside.result c.fill.new.buffer =
    written_front _ c.args.session.now.buffer.len c.fill.new.buffer _ _ _ c.front_of-piece.ensures c.deref.ensures.value (omega (arith, c.fill.auto.buffer, c.deref_mut.ensures.len)) in
    let room : c.in-Ok.got ≤ length c.fill.new.buffer = omega (arith, c.fill.auto.buffer, c.deref_mut.ensures.len, c.in-Ok.ensures.small, c.min.ensures, c.requires.ready.room_is) in
    goes_on _ _ _ _ c.args.session.now.most start _ _ _ _ _ begun _ so c.requires.ready.is_open c.requires.ready.within
    _ _ _ _ _ _ _ _ c.answer_piece.ensures.handed c.answer_piece.ensures.limit c.fill.new.buffer c.in-Ok.got c.in-Ok.ensures.bytes c.min-inside.result (omega arith) c.front_of-piece.result.now piece c.answer_piece.ensures.is_open _
    (c.in-Ok-answer_piece.ensures.through so.bytes begun so.answered.up_to) (c.in-Ok-answer_piece.ensures.written so.bytes start.held begun so.answered) _ refl room c.in-Ok.ensures.given
    (omega arith) c.fill.ensures.cause.later c.answer_piece.ensures.sink.later

pub returns-in-Ok-2-clause-ready : goal.returns-in-Ok-2-clause-ready
returns-in-Ok-2-clause-ready g c =
    let some = c.requires.ready.some in
    let long = some.2 in
    let piece : c.front_of-piece.result.now ≡ take c.min-inside.result c.fill.new.buffer =
    written_front _ c.args.session.now.buffer.len c.fill.new.buffer _ _ _ c.front_of-piece.ensures c.deref.ensures.value (omega (arith, c.fill.auto.buffer, c.deref_mut.ensures.len)) in
    let room : c.in-Ok.got ≤ length c.fill.new.buffer = omega (arith, c.fill.auto.buffer, c.deref_mut.ensures.len, c.in-Ok.ensures.small, c.min.ensures, c.requires.ready.room_is) in
    let all = length-append some.0 c.front_of-piece.result.now in
    let front = ap length piece ∙ length-take c.min-inside.result c.fill.new.buffer in
    record {
      some = (some.0 ++ c.front_of-piece.result.now, some.1, omega (arith, long, all, front, room), (c.in-Ok-answer_piece.ensures.through some.0 some.1 some.3).up_to);
      within = omega arith;
      small = c.requires.ready.small;
      room_is = search rules;
      is_open = c.answer_piece.ensures.is_open;
    }

pub returns-in-Err-answer_piece-clause-turns : goal.returns-in-Err-answer_piece-clause-turns
returns-in-Err-answer_piece-clause-turns g c start begun so =
    let piece : c.front_of-piece.result.now ≡ take c.min-inside.result c.fill.new.buffer =
    written_front _ c.args.session.now.buffer.len c.fill.new.buffer _ _ _ c.front_of-piece.ensures c.deref.ensures.value (omega (arith, c.fill.auto.buffer, c.deref_mut.ensures.len)) in
    over_stopped _ _ _ _ c.args.session.now.most start _ _ _ _ _ begun _ so c.requires.ready.is_open c.requires.ready.within
    _ _ _ _ _ _ _ _ c.answer_piece.ensures.handed c.answer_piece.ensures.limit c.fill.new.buffer c.in-Ok.got c.in-Ok.ensures.bytes c.min-inside.result (omega arith) c.front_of-piece.result.now piece c.answer_piece.ensures.is_open _
    (c.in-Err-answer_piece.ensures.through so.bytes begun so.answered.up_to) (c.in-Err-answer_piece.ensures.written so.bytes start.held begun so.answered) _ _ refl c.status_of-in-Err-answer_piece.ensures c.in-Err-answer_piece.ensures.sink.cause

pub returns-in-Err-answer_piece-clause-sure_sink : goal.returns-in-Err-answer_piece-clause-sure_sink
returns-in-Err-answer_piece-clause-sure_sink g c failed = c.in-Err-answer_piece.ensures.sink.full (ap Err (stopped_write _ _ c.status_of-in-Err-answer_piece.ensures failed))

pub returns-in-Err-answer_piece-clause-sure_source : goal.returns-in-Err-answer_piece-clause-sure_source
returns-in-Err-answer_piece-clause-sure_source g c failed sure = stopped_read _ _ c.status_of-in-Err-answer_piece.ensures failed
