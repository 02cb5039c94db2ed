use Rattle.std.proofs.Common.{◌≡◌, [], ◌∷◌, arith}
use Rattle.ncq_row.specs.declared.value.Value.TheVariants.{Text}
use Rattle.ncq_row.specs.Embeddings.{attribute_rows}
use Rattle.ncq_row.proofs.PairedLaws.{unit_paired, next_name}
use Rattle.ncq_row.proofs.attributes.attribute_values.Goals as goal

pub loop-name-init : goal.loop-name-init
loop-name-init c = rw (c.new-row.ensures) (unit_paired _)

pub loop-name-preserved : goal.loop-name-preserved
loop-name-preserved c =
    let found : attribute_rows c.args.attributes.now c.name-item.result
    ≡ (Text c.in_ok-copy.field-0 ∷ []) ∷ [] = grind arith in
    next_name (attribute_rows c.args.attributes.now) c.args.names.now c.loop-name.name-index _
    c.loop-name.row _ _ _ (omega arith) c.name-item.is found c.in_ok-push.ensures
    c.loop-name.invariant
