use Rattle.std.proofs.Common.{◌≡◌, take}
use Rattle.std.specs.List.{flat_map}
use Rattle.ncq_engine.specs.Tellings.{started_at}
use Rattle.ncq_engine.proofs.who.started.Given as goal

abbrev pub invariant-loop-install : goal.invariant-loop-install
invariant-loop-install l = l.firings ≡ flat_map (started_at l.book.instant l.book.subscriptions) (take l.install-index l.installs)
