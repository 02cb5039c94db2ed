use Rattle.std.proofs.Common.{◌≡◌, take}
use Rattle.ncq_callback.specs.Labels.{labels}
use Rattle.ncq_engine.proofs.handed.labels_of.Given as goal

abbrev pub invariant-loop-at : goal.invariant-loop-at
invariant-loop-at g l = l.found.items ≡ take l.at (labels l.handlers.items.items (λ h. h.name) (λ h. h.kind))
