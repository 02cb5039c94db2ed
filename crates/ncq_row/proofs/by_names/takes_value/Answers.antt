use Rattle.std.proofs.Common.{◌≡◌, List, length, map, ap, ◌∙◌, arith}
use Rattle.ncq_row.specs.declared.shape.Shape.{Shape}
use Rattle.ncq_row.specs.declared.shape.ShapeContent.{ShapeContent}
use Rattle.ncq_row.specs.Embeddings.{content_rows, one_of_each, rows_from}
use Rattle.ncq_row.proofs.CallerLemmas.{rows_of_value, rows_of_parts}
use Rattle.ncq_row.proofs.PairedLaws.{length-zero}
use Rattle.ncq_row.proofs.by_names.takes_value.Goals as goal

pub returns-in-Value : goal.returns-in-Value
returns-in-Value c = λ e. ap (λ (k : ShapeContent). content_rows k e) c.in-Value.is ∙ rows_of_value e

pub returns-else-len-ne0 : goal.returns-else-len-ne0
returns-else-len-ne0 c = λ e.
    let none : length c.in-Parts.parts ≡ 0 = omega arith in
    ap (λ (k : ShapeContent). content_rows k e) c.in-Parts.is ∙ rows_of_parts c.in-Parts.parts e
    ∙ ap (λ (ps : List Shape). one_of_each (map (λ (p : Shape). rows_from p e) ps)) (length-zero c.in-Parts.parts none)
