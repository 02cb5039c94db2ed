use Rattle.ncq_readers.proofs.PassedLaws.{equal_gets, others_get_none, interval_gets, none_held}
use Rattle.ncq_readers.proofs.laws.selections_get_what_they_take.Goals as goal

pub returns-clause-taken : goal.returns-clause-taken
returns-clause-taken c = λ tables rows slot constant number are once reader. equal_gets tables rows number are once slot constant reader

pub returns-clause-others : goal.returns-clause-others
returns-clause-others c = λ tables rows number are none. others_get_none tables rows number are none

pub returns-clause-held : goal.returns-clause-held
returns-clause-held c = λ tables rows slot interval number are reader. interval_gets tables rows slot are interval number reader

pub returns-clause-unheld : goal.returns-clause-unheld
returns-clause-unheld c = λ tables rows slot are none. none_held tables rows slot are none
