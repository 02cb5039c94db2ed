use Rattle.std.proofs.Common.{◌≡◌, None, length}
use Rattle.ncq_xmlql.specs.Times.{times, times_from}
use Rattle.ncq_xmlql.proofs.time.times_at.Given as goal

abbrev pub invariant-times : goal.invariant-times
invariant-times l = times_from l.written l.rest ≡ times_from (times None None None) l.tokens

abbrev pub decreases-times : goal.decreases-times
decreases-times l = length l.rest
