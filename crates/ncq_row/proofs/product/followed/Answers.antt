use Rattle.std.proofs.Common.{◌∷◌, [], Option, ap, ◌∙◌, sym}
use Rattle.std.specs.Option.{option_to_list}
use Rattle.ncq_row.specs.Embeddings.{paired}
use Rattle.ncq_row.specs.declared.value.Value.{Value}
use Rattle.ncq_row.proofs.PairedLaws.{paired_unit}
use Rattle.ncq_row.proofs.product.followed.Goals as goal

pub returns-in-None : goal.returns-in-None
returns-in-None c = sym (
    ap (λ (o : Option Value). paired c.args.rows (option_to_list o ∷ [])) c.in-None.is
    ∙ paired_unit c.args.rows)
