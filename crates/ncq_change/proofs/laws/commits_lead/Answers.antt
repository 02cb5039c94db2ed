use Rattle.ncq_plan.proofs.ExprLaws.{deltas_lead}
use Rattle.ncq_change.specs.Entries.{scans_of}
use Rattle.ncq_change.specs.Stores.{entries_in, kept_in, world_in}
use Rattle.ncq_change.proofs.ScanLaws.{entries_lead}
use Rattle.ncq_change.proofs.CommitLaws.{commits_after, commits_change, prepared_chains}
use Rattle.ncq_change.proofs.laws.commits_lead.Goals as goal

pub returns-clause-elements : goal.returns-clause-elements
returns-clause-elements c = λ before ready after change source applies. commits_after before ready after change applies source

pub returns-clause-change : goal.returns-clause-change
returns-clause-change c = commits_change

pub returns-clause-exprs : goal.returns-clause-exprs
returns-clause-exprs c = λ before ready after change expr applies.
    deltas_lead (world_in before) (world_in after) (scans_of (entries_in before change))
    (entries_lead (kept_in before) (kept_in after) (entries_in before change) (commits_change before ready after change applies)) expr

pub returns-clause-prepared : goal.returns-clause-prepared
returns-clause-prepared c = prepared_chains
