use Rattle.std.proofs.Common.{◌≤◌, length, arith}
use Rattle.ncq_book.proofs.WatchLaws.{below_next}
use Rattle.ncq_book.proofs.watchers.are_rising.Goals as goal

pub returns : goal.returns
returns c = λ _.
    let all : length c.args.numbers.now ≤ c.loop-at.at = omega (arith, c.loop-at-test.false) in
    below_next c.args.numbers.now c.loop-at.at all c.loop-at.invariant
