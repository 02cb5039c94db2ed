use Rattle.ncq_news.proofs.FiringLaws.{news_tell}
use Rattle.ncq_news.proofs.laws.news_tell_the_difference.Goals as goal

pub returns : goal.returns
returns c = news_tell
