use Rattle.std.proofs.Common.{◌≡◌, ◌==◌, ◌∷◌, true, sym, ◌∙◌, rules}
use Rattle.ncq_base.specs.Lines.{lines_in}
use Rattle.ncq_flat.proofs.SaidLaws.{alone_lines, alone_said}
use Rattle.ncq_flat.proofs.BareLaws.{lone_child}
use Rattle.ncq_flat.proofs.said.lone_text.Goals as goal

pub returns-then-last-eq41 : goal.returns-then-last-eq41
returns-then-last-eq41 c =
    let m : (c.in_ok-mark.mark.now == 45) ≡ true = search rules in
    let l : (c.in_ok-last.last.now == 41) ≡ true = search rules in
    let a : c.in_ok-line.line.now ≡ c.in_ok-mark.mark.now ∷ c.in_ok-mark.word.now = c.in_ok-mark.ensures.cases.0 in
    let b : c.in_ok-closing.closing.now ≡ c.in_ok-last.last.now ∷ c.in_ok-last.field-0-1.now = c.in_ok-last.ensures.cases.0 in
    let lines = alone_lines c.args.text.now c.in_ok-line.line.now c.in_ok-line.more.now c.in_ok-closing.closing.now c.in_ok-closing.field-0-1.now _ _ _ _
    c.in_ok-line.ensures.0 c.in_ok-line.ensures.1 c.in_ok-closing.ensures.0 c.in_ok-closing.ensures.1 a b m l in
    record {
      value = alone_said c.args.text.now c.in_ok-closing.field-0-1.now c.in_ok-mark.word.now c.in_ok-last.field-0-1.now lines;
      children = λ e more is. lone_child e more c.in_ok-mark.word.now c.in_ok-last.field-0-1.now (lines_in c.in_ok-closing.field-0-1.now) (sym lines ∙ is);
    }
