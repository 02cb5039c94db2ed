use Rattle.std.proofs.Common.{◌≡◌, ◌++◌, take}
use Rattle.std.specs.List.{flat_map}
use Rattle.ncq_engine.specs.Tellings.{expired_of}
use Rattle.ncq_engine.proofs.expiry.write_expired.Given as goal

abbrev pub invariant-loop-install : goal.invariant-loop-install
invariant-loop-install l = l.out.items
    ≡ l.initial.out.items ++ flat_map (expired_of l.book.subscriptions) (take l.install-index l.installs)
