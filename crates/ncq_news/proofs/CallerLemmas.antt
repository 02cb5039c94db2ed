-- What crates above use of what rows tell.
pub use Rattle.ncq_news.proofs.FiringLaws.{all_tell, since_tell}
