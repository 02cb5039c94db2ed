use Rattle.std.proofs.Common.{sym, rules}
use Rattle.ncq_readers.specs.Readings.Reading.{joined}
use Rattle.ncq_shelf.proofs.Turns.{loses_at}
use Rattle.ncq_shelf.proofs.enroll.strike_join.Goals as goal

pub returns-clause-struck : goal.returns-clause-struck
returns-clause-struck c =
    loses_at c.args.files.now.entries _ c.args.at c.in-Some.file.now (sym c.in-Some.ensures.value) c.remove_join.new.self ((c.get_mut.follows.holds _).3 (search rules)).0 joined c.args.number
    c.remove_join.ensures
