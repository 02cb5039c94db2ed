use Rattle.std.proofs.Common.{◌≡◌, drop, map}
use Rattle.ncq_row.specs.Embeddings.{attribute_rows, one_of_each}
use Rattle.ncq_row.specs.Found.{has_rows}
use Rattle.ncq_row.proofs.attributes.has_attributes.Given as goal

-- what is left decides
abbrev pub invariant-loop-name : goal.invariant-loop-name
invariant-loop-name l =
    has_rows (one_of_each (map (attribute_rows l.attributes) (drop l.name-index l.names)))
    ≡ has_rows (one_of_each (map (attribute_rows l.attributes) l.names))
