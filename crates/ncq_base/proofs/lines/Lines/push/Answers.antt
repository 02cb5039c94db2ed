use Rattle.ncq_base.proofs.LineLaws.{line_pushed, stays_text}
use Rattle.ncq_base.proofs.lines.Lines.push.Goals as goal

pub invariant_of-self : goal.invariant_of-self
invariant_of-self c =
    stays_text c.self.inside.text.items c.args.line.now c.self.invariant c.requires _ c.append_ended.result c.append_ended.ensures.ok c.append_ended.ensures.err

pub returns-clause-ok : goal.returns-clause-ok
returns-clause-ok c =
    rw (← c.self.view_is) (line_pushed c.self.inside.text.items c.args.line.now c.self.invariant c.requires _ c.append_ended.result c.append_ended.ensures.ok)
