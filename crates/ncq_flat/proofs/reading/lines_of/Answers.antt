use Rattle.std.proofs.Common.{◌∷◌, ◌++◌, [], List, ℕ, ap, sym, ◌∙◌, append_assoc, append-nil}
use Rattle.ncq_base.specs.Lines.{lines_in}
use Rattle.ncq_base.proofs.LineLaws.{lines_in-cut, lines_in-clean}
use Rattle.ncq_flat.proofs.reading.lines_of.Goals as goal

pub loop-line-preserved : goal.loop-line-preserved
loop-line-preserved c =
    let cut = ap lines_in c.in-Some.ensures.1 ∙ lines_in-cut c.in-Some.line.now c.in-Some.more.now c.in-Some.ensures.0 in
    ap (λ (l : List (List ℕ)). l ++ lines_in c.in-Some.more.now) c.in_ok-push.ensures.ok
    ∙ append_assoc c.loop-line.lines (c.in-Some.line.now ∷ []) (lines_in c.in-Some.more.now)
    ∙ ap (λ (l : List (List ℕ)). c.loop-line.lines ++ l) (sym cut) ∙ c.loop-line.invariant

pub returns : goal.returns
returns c =
    sym (append-nil c.loop-line.lines)
    ∙ ap (λ (l : List (List ℕ)). c.loop-line.lines ++ l) (sym (lines_in-clean c.loop-line.rest.now c.in_default.ensures)) ∙ c.loop-line.invariant
