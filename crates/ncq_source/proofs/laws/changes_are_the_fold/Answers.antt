use Rattle.std.proofs.Common.{ap, sym}
use Rattle.std.specs.Prelude.{Option}
use Rattle.ncq_source.specs.Changes.Trial.{Good}
use Rattle.ncq_source.specs.Sections.{Holding, go_on, section_trial}
use Rattle.ncq_source.proofs.Commits.{change_applies, sections_add_up}
use Rattle.ncq_source.proofs.laws.changes_are_the_fold.Goals as goal

pub returns-clause-applied : goal.returns-clause-applied
returns-clause-applied c = λ store ready done change sections at s t made alike committed finds here last. change_applies store ready done change sections at s t made alike committed finds here last

pub returns-clause-parts : goal.returns-clause-parts
returns-clause-parts c = sections_add_up

pub returns-clause-one : goal.returns-clause-one
returns-clause-one c = λ holdings section h known. ap (λ (o : Option Holding). go_on (section_trial 1 section.items o) (Good tt)) (sym known)
