use Rattle.std.proofs.Common.{sym, rules}
use Rattle.ncq_readers.specs.Readings.Reading.{equal}
use Rattle.ncq_shelf.proofs.Turns.{ok_more, err_more, gains_at, alike_at}
use Rattle.ncq_shelf.proofs.enroll.enroll_equal.Goals as goal

pub returns-clause-ok : goal.returns-clause-ok
returns-clause-ok c =
    ok_more c.add_equal.result
    (gains_at c.args.files.now.entries _ c.args.at c.in-Some.file.now (sym c.in-Some.ensures.value) c.add_equal.new.self ((c.get_mut.follows.holds _).3 (search rules)).0 (equal c.args.slot c.args.constant) c.args.number)
    c.add_equal.ensures.ok

pub returns-clause-err : goal.returns-clause-err
returns-clause-err c =
    err_more c.add_equal.result
    (alike_at c.args.files.now.entries _ c.args.at c.in-Some.file.now (sym c.in-Some.ensures.value) c.add_equal.new.self ((c.get_mut.follows.holds _).3 (search rules)).0)
    c.add_equal.ensures.err
