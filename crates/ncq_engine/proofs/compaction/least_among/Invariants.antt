use Rattle.std.proofs.Common.{◌≡◌, take}
use Rattle.ncq_engine.specs.Compactions.{least_among}
use Rattle.ncq_engine.proofs.compaction.least_among.Given as goal

abbrev pub invariant-loop-install : goal.invariant-loop-install
invariant-loop-install l = l.least ≡ least_among l.store l.book.subscriptions (take l.install-index l.installs) l.number
