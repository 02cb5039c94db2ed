-- What crates above use of files that come and go, and of their counts.
pub use Rattle.ncq_count.proofs.Tallies.{expr_at}
pub use Rattle.ncq_count.proofs.TellLaws.{OneEach}
pub use Rattle.ncq_count.proofs.CountLaws.{grounded_rest, distinct_added}
pub use Rattle.ncq_count.proofs.SameExprs.{HaveSameExprs, counted_again, one_changed, all_cut}
