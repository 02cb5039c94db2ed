use Rattle.std.proofs.Common.{◌≡◌, List, length, map, ap, sym, ◌∙◌, arith}
use Rattle.ncq_row.specs.declared.shape.Shape.{Shape}
use Rattle.ncq_row.specs.Embeddings.{one_of_each, paired, rows_from, suffix_rows}
use Rattle.ncq_row.proofs.ByNamesLaws.{rows_of_each}
use Rattle.ncq_row.proofs.by_names.parts_by_names.Goals as goal

pub returns-in-Parts : goal.returns-in-Parts
returns-in-Parts c = λ e.
    let s = c.args.shape.now in
    let none : length s.attributes ≡ 0 = omega arith in
    rows_of_each s c.in-Parts.parts e none c.in-Parts.is
    ∙ ap (λ (parts : List Shape). paired (one_of_each (map (λ (part : Shape). rows_from part e) parts)) (suffix_rows s.suffix e)) (sym c.as_slice-in-Parts.ensures)
