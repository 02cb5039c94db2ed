use Rattle.ncq_midfile.proofs.FinderLaws.{finders_kept}
use Rattle.ncq_midfile.proofs.lose.lose_indexes.Goals as goal

pub returns : goal.returns
returns c = λ rows all. finders_kept c.retain.ensures.filtered.0 _ _ rows c.retain.ensures.filtered.4 all
