use Rattle.std.proofs.Common.{◌≡◌, ◌∷◌, [], ap, sym, ◌∙◌}
use Rattle.ncq_base.specs.Lines.{lines_in}
use Rattle.ncq_base.proofs.LineLaws.{lines_in-cut, lines_in-clean}
use Rattle.ncq_flat.proofs.written.behind_line.Goals as goal

pub returns-in-Some : goal.returns-in-Some
returns-in-Some c = λ line lines is.
    let e : c.in-Some.field-0-0.now ∷ lines_in c.in-Some.more.now ≡ line ∷ lines = sym (ap lines_in c.in-Some.ensures.1 ∙ lines_in-cut c.in-Some.field-0-0.now c.in-Some.more.now c.in-Some.ensures.0) ∙ is in
    cc

pub returns-in-None : goal.returns-in-None
returns-in-None c = λ line lines is.
    let e : [] ≡ line ∷ lines = sym (lines_in-clean c.args.text.now c.in-None.ensures) ∙ is in
    cc
