use Rattle.std.proofs.Common.{sym, rules}
use Rattle.ncq_readers.specs.Readings.Reading.{joined}
use Rattle.ncq_shelf.proofs.Turns.{ok_more, err_more, gains_at, alike_at}
use Rattle.ncq_shelf.proofs.enroll.enroll_join.Goals as goal

pub returns-clause-ok : goal.returns-clause-ok
returns-clause-ok c =
    ok_more c.add_join.result
    (gains_at c.args.files.now.entries _ c.args.at c.in-Some.file.now (sym c.in-Some.ensures.value) c.add_join.new.self ((c.get_mut.follows.holds _).3 (search rules)).0 joined c.args.number)
    c.add_join.ensures.ok

pub returns-clause-err : goal.returns-clause-err
returns-clause-err c =
    err_more c.add_join.result
    (alike_at c.args.files.now.entries _ c.args.at c.in-Some.file.now (sym c.in-Some.ensures.value) c.add_join.new.self ((c.get_mut.follows.holds _).3 (search rules)).0)
    c.add_join.ensures.err
