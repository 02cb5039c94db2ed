use Rattle.ncq_readers.specs.Readings.Reading.{joined}
use Rattle.ncq_shelf.specs.Enrolled.{is_at}
use Rattle.ncq_shelf.proofs.Turns.{enrolls_both, undone, has_enrolled, has_alike}
use Rattle.ncq_shelf.proofs.enroll.enroll_sides.Goals as goal

pub enroll_join-requires-2 : goal.enroll_join-requires-2
enroll_join-requires-2 c =
    has_enrolled c.args.files.now.entries c.enroll_join.new.files.entries c.args.right c.requires.right (is_at c.args.left joined) c.args.number c.in_ok-enroll_join.ensures.ok

pub strike_join-requires : goal.strike_join-requires
strike_join-requires c =
    has_alike c.enroll_join.new.files.entries c.enroll_join-2.new.files.entries c.args.left
    (has_enrolled c.args.files.now.entries c.enroll_join.new.files.entries c.args.left c.requires.left (is_at c.args.left joined) c.args.number c.in_ok-enroll_join.ensures.ok)
    c.in-Err.ensures.err

pub returns-in-Err-clause-err : goal.returns-in-Err-clause-err
returns-in-Err-clause-err c =
    undone c.args.files.now.entries c.enroll_join.new.files.entries c.enroll_join-2.new.files.entries c.strike_join.new.files.entries c.args.left c.args.number c.requires.unread
    c.in_ok-enroll_join.ensures.ok c.in-Err.ensures.err c.strike_join.ensures.struck

pub returns-clause-ok : goal.returns-clause-ok
returns-clause-ok c =
    enrolls_both c.args.files.now.entries c.enroll_join.new.files.entries c.enroll_join-2.new.files.entries c.args.left c.args.right joined c.args.number
    c.in_ok-enroll_join.ensures.ok c.in_default.ensures.ok
