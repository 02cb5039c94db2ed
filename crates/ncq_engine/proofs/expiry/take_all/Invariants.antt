use Rattle.std.proofs.Common.{take}
use Rattle.ncq_engine.specs.Tellings.{IsLeftBy}
use Rattle.ncq_engine.proofs.KeptCounts.{AreRemoved}
use Rattle.ncq_engine.proofs.expiry.take_all.Given as goal

abbrev pub invariant-loop-install : goal.invariant-loop-install
invariant-loop-install l = record {
  left : IsLeftBy (take l.install-index l.installs) l.initial.live_table l.live_table;
  counts : AreRemoved (take l.install-index l.installs) l.initial.distinct l.distinct;
}
