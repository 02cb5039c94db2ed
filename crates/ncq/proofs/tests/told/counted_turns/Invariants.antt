use Rattle.std.proofs.Common.{◌≡◌}
use Rattle.ncq_callback.specs.Labels.{handed_in}
use Rattle.ncq.proofs.tests.told.counted_turns.Given as goal

-- the engine has the names and kinds of the handlers
abbrev pub invariant-loop-turn : goal.invariant-loop-turn
invariant-loop-turn g l = l.engine.handed ≡ handed_in l.handlers.items.items (λ h. h.name) (λ h. h.kind) l.handlers.predicates.items (λ p. p.name) (λ p. p.relation)
