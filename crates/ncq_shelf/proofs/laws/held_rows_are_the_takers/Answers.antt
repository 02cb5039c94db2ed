use Rattle.ncq_shelf.proofs.TakenRows.{taken_within, taken_each, taken_none}
use Rattle.ncq_shelf.proofs.laws.held_rows_are_the_takers.Goals as goal

pub returns-clause-taken : goal.returns-clause-taken
returns-clause-taken c = λ files input slot rows held are interval number selects. taken_within files input slot (are slot) interval number selects

pub returns-clause-each : goal.returns-clause-each
returns-clause-each c = λ files input slot rows held are. taken_each files input slot (are slot)

pub returns-clause-none : goal.returns-clause-none
returns-clause-none c = λ files input slot rows held are nothing. taken_none files input slot (are slot) nothing
