use Rattle.ncq_tests_group.proofs.tests.tables.take_each.Goals as goal

pub loop-turn-init : goal.loop-turn-init
loop-turn-init g c = c.requires

pub take_turn-requires : goal.take_turn-requires
take_turn-requires g c = c.loop-turn.invariant

pub loop-turn-preserved : goal.loop-turn-preserved
loop-turn-preserved g c = c.in_ok-take_turn.ensures
