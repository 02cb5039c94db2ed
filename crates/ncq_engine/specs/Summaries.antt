-- The summary of an engine. Only the crate's private clauses cite it.
use Rattle.std.specs.Prelude.{◌≡◌, length}
use Rattle.std.specs.FinMap.{len}
use Rattle.ncq_count.specs.FileExprs.{exprs_of}
use Rattle.ncq_report.specs.declared.report.Summary.{Summary}
use Rattle.ncq_signature.specs.Groups.{AreGroupLines}
use Rattle.ncq_engine.specs.Stands.{EngineState}

-- how much an engine has, and the groups of its files
pub record IsSummary (engine : EngineState) (summary : Summary) : Type 0 where
  pub queries : summary.queries ≡ length engine.subscriptions
  pub sources : summary.sources ≡ length engine.store.sources
  pub changes : summary.changes ≡ engine.store.changes
  pub files : summary.files ≡ len engine.table.files
  pub groups : AreGroupLines (exprs_of engine.table.files) summary.groups
