use Rattle.std.proofs.Common.{◌≡◌, take}
use Rattle.ncq_engine.specs.Engines.{latest_in}
use Rattle.ncq_engine.proofs.firing.latest_change.Given as goal

abbrev pub invariant-loop-name : goal.invariant-loop-name
invariant-loop-name l = l.latest ≡ latest_in l.store (take l.name-index l.sources)
