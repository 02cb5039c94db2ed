use Rattle.std.proofs.Common.{sym, rules}
use Rattle.ncq_readers.specs.Readings.Reading.{equal}
use Rattle.ncq_shelf.proofs.Turns.{loses_at}
use Rattle.ncq_shelf.proofs.enroll.strike_equal.Goals as goal

pub returns : goal.returns
returns c =
    loses_at c.args.files.now.entries _ c.args.at c.in-Some.file.now (sym c.in-Some.ensures.value) c.remove_equal.new.self ((c.get_mut.follows.holds _).3 (search rules)).0 (equal c.args.slot c.args.constant.now) c.args.number
    c.remove_equal.ensures
