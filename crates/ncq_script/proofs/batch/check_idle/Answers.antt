use Rattle.std.proofs.Common.{◌∷◌, ◌∙◌, List, ℕ, length, length-append, ap, arith, sym}
use Rattle.ncq_base.specs.Lines.{lines_in}
use Rattle.ncq_base.proofs.LineLaws.{lines_in-clean}
use Rattle.ncq_pyx.specs.Faults.{max_nesting}
use Rattle.ncq_script.specs.Batches.{idle_then}
use Rattle.ncq_script.proofs.BatchLaws.{cut, idle_fault, idle_one}
use Rattle.ncq_script.proofs.batch.check_idle.Goals as goal

pub returns-then-not-branch : goal.returns-then-not-branch
returns-then-not-branch c = λ rest.
    let l = c.loop-line in
    sym (l.invariant.left rest)
    ∙ ap (λ (lines : List (List ℕ)). idle_then max_nesting l.number lines rest) (cut l.rest.now c.in-Some.line.now c.in-Some.behind.now c.in-Some.ensures.0 c.in-Some.ensures.1)
    ∙ idle_fault max_nesting l.number c.in-Some.line.now (lines_in c.in-Some.behind.now) rest (sym c.in_ok-is_idle.ensures ∙ c.if-not-branch.true)

pub loop-line-preserved : goal.loop-line-preserved
loop-line-preserved c =
    let l = c.loop-line in
    let shorter = ap length c.in-Some.ensures.1 in
    record {
      left = λ rest.
          sym (idle_one max_nesting l.number c.in-Some.line.now (lines_in c.in-Some.behind.now) rest (sym c.in_ok-is_idle.ensures ∙ c.if-not-branch.false))
          ∙ ap (λ (lines : List (List ℕ)). idle_then max_nesting l.number lines rest) (sym (cut l.rest.now c.in-Some.line.now c.in-Some.behind.now c.in-Some.ensures.0 c.in-Some.ensures.1))
          ∙ l.invariant.left rest;
      few = omega (arith, shorter, l.invariant.few, length-append c.in-Some.line.now (10 ∷ c.in-Some.behind.now));
    }

pub returns : goal.returns
returns c = λ rest.
    sym (c.loop-line.invariant.left rest)
    ∙ ap (λ (lines : List (List ℕ)). idle_then max_nesting c.loop-line.number lines rest) (lines_in-clean c.loop-line.rest.now c.in_default.ensures)
