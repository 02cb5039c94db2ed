use Rattle.std.proofs.Common.{◌≡◌, drop}
use Rattle.ncq_row.specs.Embeddings.{attribute_rows}
use Rattle.ncq_row.proofs.attributes.attribute_value.Given as goal

abbrev pub invariant-loop-attribute : goal.invariant-loop-attribute
invariant-loop-attribute l = attribute_rows (drop l.attribute-index l.attributes) l.name
    ≡ attribute_rows l.attributes l.name
