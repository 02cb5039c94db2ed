use Rattle.std.proofs.Common.{ap, sym, ◌∙◌, true≢false}
use Rattle.ncq_base.specs.Lines.{lines_in}
use Rattle.ncq_base.proofs.LineLaws.{lines_in-cut, lines_in-clean}
use Rattle.ncq_flat.proofs.BareLaws.{begins, closed_is_bare, bare_is_closed}
use Rattle.ncq_flat.proofs.said.is_bare.Goals as goal

pub returns-in-Some : goal.returns-in-Some
returns-in-Some c = λ e more is.
    let cut = ap lines_in c.in-Some.ensures.1 ∙ lines_in-cut c.in-Some.line.now c.in-Some.field-0-1.now c.in-Some.ensures.0 in
    let same = c.has_mark.ensures ∙ ap (begins 41) (sym cut ∙ is) in
    (λ h. closed_is_bare e more (sym same ∙ h), λ h. same ∙ bare_is_closed e more h)

pub returns-in-None : goal.returns-in-None
returns-in-None c = λ e more is.
    let none = ap (begins 41) (sym (lines_in-clean c.args.text.now c.in-None.ensures) ∙ is) in
    (λ h. absurd (true≢false (sym h)), λ h. absurd (true≢false (sym (none ∙ bare_is_closed e more h))))
