use Rattle.ncq_plan.proofs.ExprLaws.{deltas_lead}
use Rattle.ncq_change.specs.Entries.{world_of, scans_of}
use Rattle.ncq_change.proofs.OneSource.{one_source_changes}
use Rattle.ncq_change.proofs.ScanLaws.{entries_lead}
use Rattle.ncq_change.proofs.laws.changes_lead.Goals as goal

pub returns-clause-source : goal.returns-clause-source
returns-clause-source c = one_source_changes

pub returns-clause-scans : goal.returns-clause-scans
returns-clause-scans c = entries_lead

pub returns-clause-exprs : goal.returns-clause-exprs
returns-clause-exprs c = λ before after entries expr change. deltas_lead (world_of before) (world_of after) (scans_of entries) (entries_lead before after entries change) expr
