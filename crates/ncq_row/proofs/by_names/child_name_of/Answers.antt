use Rattle.std.proofs.Common.{refl}
use Rattle.ncq_row.proofs.ByNamesLaws.{rows_of_name}
use Rattle.ncq_row.proofs.by_names.child_name_of.Goals as goal

pub returns : goal.returns
returns c = λ e.
    rows_of_name c.args.part.now c.in-Tag.name c.in_ok-valued.valued e c.in-Tag.is
    (c.if-not-is_content_alone.ensures refl) c.in_ok-valued.ensures
