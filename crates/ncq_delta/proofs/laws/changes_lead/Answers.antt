use Rattle.ncq_delta.proofs.LeadLaws.{same_delta, file_leads, join_leads_on}
use Rattle.ncq_delta.proofs.laws.changes_lead.Goals as goal

pub returns-clause-deltas : goal.returns-clause-deltas
returns-clause-deltas c = same_delta

pub returns-clause-files : goal.returns-clause-files
returns-clause-files c = file_leads

pub returns-clause-joins : goal.returns-clause-joins
returns-clause-joins c = join_leads_on
