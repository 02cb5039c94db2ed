use Rattle.std.proofs.Common.{◌∷◌, [], ap, ◌∙◌}
use Rattle.ncq_base.specs.Lines.{lines_in}
use Rattle.ncq_flat.specs.Insides.{inside_of}
use Rattle.ncq_flat.proofs.FlatLaws.{lines_again, flat_lines, flat_normal, flat_named}
use Rattle.ncq_flat.proofs.InsideLaws.{own_lines}
use Rattle.ncq_flat.proofs.written.Written.inside.Goals as goal

pub returns : goal.returns
returns c =
    let e = c.args.self.now in
    c.behind_line.ensures (40 ∷ e.name) (inside_of e [])
    (ap lines_in (c.as_slice.ensures.value ∙ flat_lines _ e c.self.invariant c.self.view_is)
    ∙ lines_again e (flat_normal _ e c.self.invariant c.self.view_is) (flat_named _ e c.self.invariant c.self.view_is) ∙ own_lines e)
