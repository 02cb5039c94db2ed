use Rattle.std.proofs.Common.{List, ℕ, map, ap, ◌∙◌}
use Rattle.std.proofs.lemmas.Result.{IfOk-weaker}
use Rattle.ncq_base.specs.Lines.{lines_in}
use Rattle.ncq_flat.specs.Insides.{insides, opens}
use Rattle.ncq_flat.specs.Said.{string_value_in}
use Rattle.ncq_source.specs.Keys.{only}
use Rattle.ncq_source.proofs.FoundLaws.{key_found}
use Rattle.ncq_source.proofs.key.key_of.Goals as goal

pub returns-in-Child : goal.returns-in-Child
returns-in-Child c =
    rw c.in-Child.is
    (IfOk-weaker c.child_key.result _ _
    (λ key h. key_found c.in-Child.name c.args.element.now (lines_in c.inside.result.now) key c.inside.ensures
    (h ∙ ap (λ (n : List ℕ). only (map string_value_in (insides (opens n) 0 (lines_in c.inside.result.now)))) c.as_slice.ensures))
    c.child_key.ensures)
