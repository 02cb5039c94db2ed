use Rattle.std.proofs.Common.{List, subst}
use Rattle.std.specs.List.{AllByRecursion}
use Rattle.ncq_source.specs.Fews.{portions_in}
use Rattle.ncq_source.specs.StoreStates.{IsPortion}
use Rattle.ncq_source.specs.declared.change.Section.{Section}
use Rattle.ncq_source.proofs.Commits.{portions_declared, portions_proper}
use Rattle.ncq_source.proofs.store.Store.prepare.Goals as goal
use Rattle.ncq_source.proofs.store.Store.prepare.Goals.{After-new}

abbrev each : (c : After-new) → AllByRecursion (IsPortion c.args.self.now c.args.sections.now) (portions_in c.in_ok-portions.portions)
each c =
    subst (λ (sections : List Section). AllByRecursion (IsPortion c.args.self.now sections) (portions_in c.in_ok-portions.portions))
    c.as_slice.ensures c.in_ok-portions.ensures.portions.each

pub returns-clause-proper : goal.returns-clause-proper
returns-clause-proper c proper = rw c.new.ensures (portions_proper c.args.self.now c.args.sections.now _ proper (each c))

pub returns-clause-declared : goal.returns-clause-declared
returns-clause-declared c = rw c.new.ensures (portions_declared c.args.self.now c.args.sections.now _ (each c))
