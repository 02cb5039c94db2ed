use Rattle.std.proofs.Common.{◌≡◌, drop}
use Rattle.ncq_source.specs.Sections.{are_known}
use Rattle.ncq_source.specs.StoreStates.{holdings_of}
use Rattle.ncq_source.proofs.store.Store.are_declared.Given as goal

-- what is left decides
abbrev pub invariant-loop-section : goal.invariant-loop-section
invariant-loop-section l = are_known (holdings_of l.self) (drop l.section-index l.sections) ≡ are_known (holdings_of l.self) l.sections
