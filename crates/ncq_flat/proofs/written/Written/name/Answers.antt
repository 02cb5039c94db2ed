use Rattle.std.proofs.Common.{◌∙◌}
use Rattle.ncq_flat.proofs.FlatLaws.{name_first, name_clean, flat_lines, flat_named}
use Rattle.ncq_flat.proofs.written.Written.name.Goals as goal

pub returns : goal.returns
returns c =
    let e = c.args.self.now in
    c.name_in.ensures 40 e.name _ (name_clean e (flat_named _ e c.self.invariant c.self.view_is))
    (c.as_slice.ensures.value ∙ flat_lines _ e c.self.invariant c.self.view_is ∙ name_first e)
