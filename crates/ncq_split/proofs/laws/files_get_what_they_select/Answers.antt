use Rattle.ncq_consttab.specs.Ranges.{holders}
use Rattle.ncq_split.proofs.ByNumber.{by_number_counts}
use Rattle.ncq_split.proofs.FileLaws.{equal_rows, range_rows}
use Rattle.ncq_split.proofs.laws.files_get_what_they_select.Goals as goal

pub returns-clause-equal : goal.returns-clause-equal
returns-clause-equal c = equal_rows

pub returns-clause-range : goal.returns-clause-range
returns-clause-range c = range_rows

pub returns-clause-counts : goal.returns-clause-counts
returns-clause-counts c = λ table atom. by_number_counts (holders atom table)
