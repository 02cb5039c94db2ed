use Rattle.std.proofs.Common.{◌≡◌, ◌∷◌}
use Rattle.std.specs.List.{flat_map}
use Rattle.ncq_xmlql.specs.PathValues.{alt_items}
use Rattle.ncq_xmlql.proofs.joined.alternative_of.Given as goal

abbrev pub invariant-loop-seq : goal.invariant-loop-seq
invariant-loop-seq l = l.items ≡ flat_map alt_items (l.fn.first ∷ l.yielded)
