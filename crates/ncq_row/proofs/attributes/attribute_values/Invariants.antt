use Rattle.std.proofs.Common.{◌≡◌, [], ◌∷◌, drop, map}
use Rattle.ncq_row.specs.Embeddings.{paired, one_of_each, attribute_rows}
use Rattle.ncq_row.proofs.attributes.attribute_values.Given as goal

-- what stands already, with what the names that are left give behind it
abbrev pub invariant-loop-name : goal.invariant-loop-name
invariant-loop-name l =
    paired (l.row ∷ [])
    (one_of_each (map (attribute_rows l.attributes) (drop l.name-index l.names)))
    ≡ one_of_each (map (attribute_rows l.attributes) l.names)
