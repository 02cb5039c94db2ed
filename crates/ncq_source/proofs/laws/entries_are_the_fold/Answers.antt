use Rattle.ncq_source.proofs.Folds.{fold_of_entries}
use Rattle.ncq_source.proofs.laws.entries_are_the_fold.Goals as goal

pub returns : goal.returns
returns c = fold_of_entries
