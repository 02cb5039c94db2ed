use Rattle.std.proofs.Common.{◌≡◌, length, eqb-true, sym, ◌∙◌}
use Rattle.ncq_row.proofs.ByNamesLaws.{rows_of_content}
use Rattle.ncq_row.proofs.by_names.is_content_alone.Goals as goal

pub returns-in-Plain : goal.returns-in-Plain
returns-in-Plain c = λ yes e.
    let none : length c.args.part.now.attributes ≡ 0 = sym c.len.ensures ∙ eqb-true c.len.result 0 yes in
    rows_of_content c.args.part.now e c.in-Plain.is none
