use Rattle.std.proofs.Common.{◌≡◌, ap, sym, ◌∙◌}
use Rattle.std.specs.Map.{keys_of}
use Rattle.ncq_consttab.specs.Ranges.{is_held_by}
use Rattle.ncq_consttab.proofs.TreeLaws.{same_holds, any_keys}
use Rattle.ncq_consttab.proofs.range.RangeTable.holds.Goals as goal

pub returns : goal.returns
returns c =
    let value = c.args.value.now in
    c.holds.ensures
    ∙ same_holds value c.self.inside.tree c.self.inside.files.entries c.self.invariant
    ∙ any_keys value c.self.inside.files.entries
    ∙ ap (λ es. is_held_by (keys_of es) value) c.self.view_is
