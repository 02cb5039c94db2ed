use Rattle.std.proofs.Common.{◌∷◌, ◌∙◌, List, ℕ, ap, sym, subst, arith, length, length-append}
use Rattle.std.specs.Prelude.{Err, Result}
use Rattle.std.proofs.lemmas.Result.{err_from_is_err_and}
use Rattle.ncq_base.specs.Lines.{lines_in}
use Rattle.ncq_base.proofs.LineLaws.{lines_in-clean}
use Rattle.ncq_pyx.specs.Faults.{max_nesting}
use Rattle.ncq_pyx.specs.declared.error.PyxError.{PyxError}
use Rattle.ncq_source.specs.declared.change.Section.{Section}
use Rattle.std.specs.List.{list_all}
use Rattle.ncq_source.specs.Proper.{puts_proper}
use Rattle.ncq_script.specs.BatchReading.{Faults, IsParted, Says, StartsSection, behind, said_from}
use Rattle.ncq_script.specs.Batches.{batch_of}
use Rattle.ncq_script.proofs.BatchLaws.{batch_parted, behind_all, cut}
use Rattle.ncq_script.proofs.batch.sections_of.Goals as goal

pub returns-in_err-check_idle-clause-said : goal.returns-in_err-check_idle-clause-said
returns-in_err-check_idle-clause-said c =
    let p = err_from_is_err_and c.from_residual-in_err-check_idle.result c.from_residual-in_err-check_idle.ensures.1 in
    let all = batch_of max_nesting c.args.block.now in
    let parted = subst (λ (lines : List (List ℕ)). IsParted lines c.in_ok-front.front (lines_in c.in_ok-front.left.text.now)) c.text.ensures.lines c.in_ok-front.ensures.parted in
    subst (λ (r : Result (List Section) PyxError). Says r all) (sym (p.1 ∙ ap Err p.2))
    (subst (Faults c.in_err-check_idle.field-0.0) (sym (batch_parted max_nesting c.args.block.now c.in_ok-front.front (lines_in c.in_ok-front.left.text.now) parted)) (c.in_err-check_idle.ensures _))

pub loop-head-init : goal.loop-head-init
loop-head-init c =
    let front = c.in_ok-front in
    let parted = subst (λ (lines : List (List ℕ)). IsParted lines front.front (lines_in front.left.text.now)) c.text.ensures.lines front.ensures.parted in
    record {
      starts = parted.starts;
      left = ap (λ (sections : List Section). behind sections (said_from max_nesting front.left.number (lines_in front.left.text.now))) c.new-sections.ensures
          ∙ ap (λ (n : ℕ). said_from max_nesting n (lines_in front.left.text.now)) front.ensures.number
          ∙ sym (batch_parted max_nesting c.args.block.now front.front (lines_in front.left.text.now) parted ∙ c.in_ok-check_idle.ensures _);
      few = omega (arith, front.ensures.few);
      proper = ap (list_all puts_proper) c.new-sections.ensures;
    }

pub take_section-requires-clause-header : goal.take_section-requires-clause-header
take_section-requires-clause-header c =
    subst StartsSection (cut c.loop-head.left.text.now c.in-Some.head.now c.in-Some.behind.now c.in-Some.ensures.0 c.in-Some.ensures.1) c.loop-head.invariant.starts

pub returns-in_err-left-clause-said : goal.returns-in_err-left-clause-said
returns-in_err-left-clause-said c =
    let l = c.loop-head in
    let p = err_from_is_err_and c.from_residual-in_err-left.result c.from_residual-in_err-left.ensures.1 in
    let first = cut l.left.text.now c.in-Some.head.now c.in-Some.behind.now c.in-Some.ensures.0 c.in-Some.ensures.1 in
    subst (λ (r : Result (List Section) PyxError). Says r (batch_of max_nesting c.args.block.now)) (sym (p.1 ∙ ap Err p.2))
    (subst (Faults c.in_err-left.field-0.0) (ap (λ (lines : List (List ℕ)). behind l.sections (said_from max_nesting l.left.number lines)) (sym first) ∙ l.invariant.left)
    c.in_err-left.ensures.takes)

pub loop-head-preserved : goal.loop-head-preserved
loop-head-preserved c =
    let l = c.loop-head in
    let first = cut l.left.text.now c.in-Some.head.now c.in-Some.behind.now c.in-Some.ensures.0 c.in-Some.ensures.1 in
    let shorter = ap length c.in-Some.ensures.1 in
    record {
      starts = c.in_ok-left.ensures.takes.0;
      left = c.in_ok-left.ensures.takes.1 ∙ ap (λ (lines : List (List ℕ)). behind l.sections (said_from max_nesting l.left.number lines)) (sym first) ∙ l.invariant.left;
      few = omega (arith, shorter, l.invariant.few, c.in_ok-left.ensures.few, length-append c.in-Some.head.now (10 ∷ c.in-Some.behind.now));
      proper = c.take_section.ensures.proper;
    }

pub returns-clause-said : goal.returns-clause-said
returns-clause-said c =
    let l = c.loop-head in
    sym l.invariant.left
    ∙ ap (λ (lines : List (List ℕ)). behind l.sections (said_from max_nesting l.left.number lines)) (lines_in-clean l.left.text.now c.in_default.ensures)
    ∙ behind_all l.sections
