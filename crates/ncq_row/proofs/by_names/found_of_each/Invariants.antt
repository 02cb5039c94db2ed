use Rattle.std.proofs.Common.{◌≡◌, List, ℕ, map, take}
use Rattle.ncq_base.specs.Lines.{lines_in}
use Rattle.ncq_tree.specs.declared.model.Element.{Element}
use Rattle.ncq_flat.specs.Insides.{inside_of}
use Rattle.ncq_row.specs.Embeddings.{rows_from}
use Rattle.ncq_row.proofs.by_names.found_of_each.Given as goal

abbrev pub invariant-loop-part : goal.invariant-loop-part
invariant-loop-part l = (e : Element) (more : List (List ℕ)) → lines_in l.inside ≡ inside_of e more
    → l.each.items ≡ map (λ part. rows_from part e) (take l.part-index l.parts)
