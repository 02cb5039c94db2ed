use Rattle.ncq_shelf.proofs.GroupFolds.{folds_itself}
use Rattle.ncq_shelf.proofs.shelf.Shelf.fold.Goals as goal

pub returns-in_default-clause-ok : goal.returns-in_default-clause-ok
returns-in_default-clause-ok c = folds_itself c.args.self.now
