use Rattle.ncq_tests_group.proofs.tests.tables.take_turn.Goals as goal

pub feed-requires-clause-stands : goal.feed-requires-clause-stands
feed-requires-clause-stands g c = c.requires

pub feed-requires-clause-prepared : goal.feed-requires-clause-prepared
feed-requires-clause-prepared g c = c.in_ok-change.ensures.prepared

pub feed-requires-clause-declared : goal.feed-requires-clause-declared
feed-requires-clause-declared g c = c.in_ok-change.ensures.declared

pub expect_rows-requires : goal.expect_rows-requires
expect_rows-requires g c = c.in_ok-feed.ensures

pub compact-requires : goal.compact-requires
compact-requires g c = c.in_ok-feed.ensures

pub expect_base-requires : goal.expect_base-requires
expect_base-requires g c = c.in_ok-compact.ensures

pub expect_rows-requires-2 : goal.expect_rows-requires-2
expect_rows-requires-2 g c = c.in_ok-compact.ensures

pub returns : goal.returns
returns g c = c.in_ok-compact.ensures
