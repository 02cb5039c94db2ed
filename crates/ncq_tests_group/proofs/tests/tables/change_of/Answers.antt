use Rattle.ncq_feed.proofs.CallerLemmas.{prepared_from}
use Rattle.ncq_tests_group.proofs.tests.tables.change_of.Goals as goal

pub returns-clause-prepared : goal.returns-clause-prepared
returns-clause-prepared g c = prepared_from c.args.store.now c.in_ok-sections.sections c.in_ok-prepare.field-0 c.in_ok-prepare.ensures.portions
