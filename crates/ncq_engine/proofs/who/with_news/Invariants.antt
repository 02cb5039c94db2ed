use Rattle.std.proofs.Common.{◌≡◌, take}
use Rattle.std.specs.List.{filter}
use Rattle.ncq_engine.specs.Tellings.{is_news_at}
use Rattle.ncq_engine.proofs.who.with_news.Given as goal

abbrev pub invariant-loop-firing : goal.invariant-loop-firing
invariant-loop-firing l = l.kept ≡ filter (is_news_at l.store l.book.subscriptions) (take l.firing-index l.firings)
