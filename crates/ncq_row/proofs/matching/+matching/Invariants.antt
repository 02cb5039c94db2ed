use Rattle.std.proofs.Common.{◌≡◌, [], ◌∷◌, ◌++◌, drop, map, take, if◌then◌else◌, Bor}
use Rattle.ncq_tree.specs.declared.model.Element.{Element}
use Rattle.std.specs.List.{flat_map}
use Rattle.ncq_row.specs.Embeddings.{one_of_each, paired, rows_among, rows_at, rows_from}
use Rattle.ncq_row.specs.Subjects.{element_of}
use Rattle.ncq_row.proofs.matching.+matching.Given as goal

-- what stands already, with one row of each part that is left
abbrev pub invariant-found_in_parts-loop-i : goal.invariant-found_in_parts-loop-i
invariant-found_in_parts-loop-i l =
    paired l.rows (one_of_each (map (λ part. rows_from part l.element) (drop l.i l.parts)))
    ≡ one_of_each (map (λ part. rows_from part l.element) l.parts)

abbrev pub invariant-found_among-loop-node : goal.invariant-found_among-loop-node
invariant-found_among-loop-node l = l.all ≡ rows_among l.shape (take l.node-index l.nodes)

-- so far, what the shape gives at the subject and at the elements before
abbrev pub invariant-found_at_reached-loop-i : goal.invariant-found_at_reached-loop-i
invariant-found_at_reached-loop-i l =
    l.all ≡ flat_map (rows_at l.shape) ((if l.fn.reached.itself then element_of l.subject ∷ [] else [])
    ++ map (λ (e : Bor Element). e.now) (take l.i l.below))
