-- What crates above use of changes.
pub use Rattle.ncq_change.proofs.OneSource.{one_source_changes}
pub use Rattle.ncq_change.proofs.ScanLaws.{scan_plus, scan_minus, entries_lead}
pub use Rattle.ncq_change.proofs.CommitLaws.{found_name, commits_after, commits_change, prepared_chains}
