use Rattle.std.proofs.Common.{ap, sym, ◌∙◌}
use Rattle.ncq_base.specs.Lines.{lines_in}
use Rattle.ncq_flat.specs.Insides.{insides, opens}
use Rattle.ncq_source.specs.Keys.{not_empty}
use Rattle.ncq_source.proofs.FoundLaws.{one_key, two_keys}
use Rattle.ncq_source.proofs.key.child_key.Goals as goal

pub returns-in-Some-first_inside : goal.returns-in-Some-first_inside
returns-in-Some-first_inside c =
    two_keys c.args.name.now (lines_in c.args.text.now) (lines_in c.in-Some.inside.now) _ _ c.in-Some.ensures
    (ap (insides (opens c.args.name.now) 0) (sym c.behind.ensures) ∙ c.in-Some-first_inside.ensures)

pub returns-in_ok-string_value-in-None : goal.returns-in_ok-string_value-in-None
returns-in_ok-string_value-in-None c =
    c.unless_empty.ensures ∙ ap not_empty c.in_ok-string_value-in-None.ensures
    ∙ one_key c.args.name.now (lines_in c.args.text.now) (lines_in c.in-Some.inside.now) c.in-Some.ensures
    (ap (insides (opens c.args.name.now) 0) (sym c.behind.ensures) ∙ c.in-None.ensures)
