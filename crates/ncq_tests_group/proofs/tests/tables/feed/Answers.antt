use Rattle.std.proofs.Common.{arith}
use Rattle.ncq_tests_group.proofs.TableLaws.{declared_alike, stands_fed}
use Rattle.ncq_tests_group.proofs.tests.tables.feed.Goals as goal

pub feed-requires-clause-number : goal.feed-requires-clause-number
feed-requires-clause-number g c = c.requires.stands.number

pub feed-requires-clause-more : goal.feed-requires-clause-more
feed-requires-clause-more g c = let few = c.expect_few.ensures in let same = c.requires.stands.number in omega (arith, few, same)

pub feed-requires-clause-fits : goal.feed-requires-clause-fits
feed-requires-clause-fits g c = c.requires.stands.fits

pub commit-requires-clause-declared : goal.commit-requires-clause-declared
commit-requires-clause-declared g c = declared_alike c.args.store.now c.reserve.new.self c.args.change c.in_ok-reserve.ensures.same c.requires.declared

pub commit-requires-clause-more : goal.commit-requires-clause-more
commit-requires-clause-more g c = let few = c.expect_few.ensures in let same = c.in_ok-reserve.ensures.same.changes in omega (arith, few, same)

pub returns : goal.returns
returns g c =
    stands_fed c.args.store.now c.reserve.new.self c.commit.new.self c.args.change c.args.table.now c.feed.new.self c.requires.stands c.requires.prepared c.in_ok-reserve.ensures.same
    c.commit.ensures.done c.in_ok-fed.ensures.fed c.in_ok-fed.ensures.fits c.in_ok-fed.ensures.number c.in_ok-fed.ensures.next_file
