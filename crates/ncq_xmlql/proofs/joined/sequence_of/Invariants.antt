use Rattle.std.proofs.Common.{◌≡◌, ◌∷◌}
use Rattle.std.specs.List.{flat_map}
use Rattle.ncq_xmlql.specs.PathValues.{seq_items}
use Rattle.ncq_xmlql.proofs.joined.sequence_of.Given as goal

abbrev pub invariant-loop-step : goal.invariant-loop-step
invariant-loop-step l = l.items ≡ flat_map seq_items (l.fn.first ∷ l.yielded)
