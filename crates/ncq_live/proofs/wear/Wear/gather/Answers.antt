use Rattle.ncq_live.proofs.WearLaws.{worn_gathered}
use Rattle.ncq_live.proofs.wear.Wear.gather.Goals as goal

pub invariant_of-self : goal.invariant_of-self
invariant_of-self c = worn_gathered _ _ _ _ _ c.append.ensures.moves c.self.invariant

pub invariant_of-self-then-self : goal.invariant_of-self-then-self
invariant_of-self-then-self c = worn_gathered _ _ _ _ _ c.append.ensures.moves c.self.invariant

pub returns-in_ok-append-clause-ok : goal.returns-in_ok-append-clause-ok
returns-in_ok-append-clause-ok c = worn_gathered _ _ _ _ _ c.append.ensures.moves c.self.invariant
