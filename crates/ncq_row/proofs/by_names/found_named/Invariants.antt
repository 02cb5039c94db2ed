use Rattle.std.proofs.Common.{◌≡◌, List, ℕ, length}
use Rattle.ncq_base.specs.Lines.{lines_in}
use Rattle.ncq_tree.specs.declared.model.Element.{Element}
use Rattle.ncq_flat.specs.Insides.{inside_of, opens}
use Rattle.ncq_row.specs.ByNames.{named_rows}
use Rattle.ncq_row.proofs.ChildLaws.{AreLeft}
use Rattle.ncq_row.proofs.by_names.found_named.Given as goal

abbrev pub invariant-loop-child : goal.invariant-loop-child
invariant-loop-child l = (e : Element) (more : List (List ℕ)) → lines_in l.inside ≡ inside_of e more
    → AreLeft (opens l.name) l.valued (lines_in l.rest) l.all (named_rows l.name l.valued e)

abbrev pub decreases-loop-child : goal.decreases-loop-child
decreases-loop-child l = length (lines_in l.rest)
