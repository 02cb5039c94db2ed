use Rattle.ncq_source.proofs.Shown.{shows_pairs, shows_counts, finds_names}
use Rattle.ncq_source.proofs.laws.stores_show_their_sources.Goals as goal

pub returns-clause-pairs : goal.returns-clause-pairs
returns-clause-pairs c = shows_pairs

pub returns-clause-counts : goal.returns-clause-counts
returns-clause-counts c = shows_counts

pub returns-clause-names : goal.returns-clause-names
returns-clause-names c = finds_names
