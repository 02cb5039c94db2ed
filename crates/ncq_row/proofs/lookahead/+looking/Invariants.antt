use Rattle.std.proofs.Common.{◌≡◌, drop, map, true}
use Rattle.ncq_path.specs.declared.path.Path.TheVariants.{Tag}
use Rattle.ncq_row.specs.Embeddings.{one_of_each, rows_among, rows_from}
use Rattle.ncq_row.specs.Found.{has_rows}
use Rattle.ncq_row.proofs.lookahead.+looking.Given as goal

-- where all have rows, what is left has
abbrev pub invariant-are_found-loop-part : goal.invariant-are_found-loop-part
invariant-are_found-loop-part l =
    has_rows (one_of_each (map (λ part. rows_from part l.element) l.parts)) ≡ true
    → has_rows (one_of_each (map (λ part. rows_from part l.element) (drop l.part-index l.parts))) ≡ true

abbrev pub invariant-is_found-loop-node : goal.invariant-is_found-loop-node
invariant-is_found-loop-node l =
    l.shape.tag ≡ Tag l.name → has_rows (rows_among l.shape l.nodes) ≡ true
    → has_rows (rows_among l.shape (drop l.node-index l.nodes)) ≡ true
