use Rattle.std.proofs.Common.{◌≡◌}
use Rattle.ncq_callback.specs.Labels.{handed_in}
use Rattle.ncq.proofs.tests.held.watch_all.Given as goal

-- the engine has the names and kinds of the handlers
abbrev pub invariant-loop-quote : goal.invariant-loop-quote
invariant-loop-quote g l = l.engine.handed ≡ handed_in l.handlers.items.items (λ h. h.name) (λ h. h.kind) l.handlers.predicates.items (λ p. p.name) (λ p. p.relation)
