use Rattle.std.proofs.Common.{sym, rules}
use Rattle.ncq_readers.specs.Readings.Reading.{range}
use Rattle.ncq_shelf.proofs.Turns.{loses_at}
use Rattle.ncq_shelf.proofs.enroll.strike_range.Goals as goal

pub returns : goal.returns
returns c =
    loses_at c.args.files.now.entries _ c.args.at c.in-Some.file.now (sym c.in-Some.ensures.value) c.remove_range.new.self ((c.get_mut.follows.holds _).3 (search rules)).0 (range c.args.slot c.args.interval.now) c.args.number
    c.remove_range.ensures
