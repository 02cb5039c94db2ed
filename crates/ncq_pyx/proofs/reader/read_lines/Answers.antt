use Rattle.std.proofs.Common.{arith, rules, subst, sym}
use Rattle.ncq_pyx.specs.Spells.{Refusal}
use Rattle.ncq_pyx.proofs.Blocks.{line_within, lines_left, fewer, line_stands, line_refused, ended_block}
use Rattle.ncq_pyx.proofs.reader.read_lines.Goals as goal

pub loop-line-init : goal.loop-line-init
loop-line-init c = record {
  left = c.text-rest.ensures.lines;
  few = search rules;
  within = search rules;
  depth = search rules;
  stands = search rules;
}

pub returns-in-Err : goal.returns-in-Err
returns-in-Err c =
    subst (λ a. Refusal c.args.limit c.args.lines.now a) (sym c.refusal.ensures)
    (line_refused c.args.lines.now c.loop-line.number c.loop-line.rest.now c.in-Some.line.now c.in-Some.behind.now c.loop-line.invariant.left c.in-Some.ensures.0 c.in-Some.ensures.1
    c.args.limit c.loop-line.reader c.in-Err.why c.loop-line.invariant.stands c.in-Err.ensures.answer)

pub loop-line-preserved : goal.loop-line-preserved
loop-line-preserved c =
    let shorter = fewer c.args.lines.now c.loop-line.number c.loop-line.rest.now c.in-Some.line.now c.in-Some.behind.now c.loop-line.invariant.left c.in-Some.ensures.0 c.in-Some.ensures.1 in
    let within = line_within c.args.lines.now c.loop-line.number c.loop-line.rest.now c.in-Some.line.now c.in-Some.behind.now c.loop-line.invariant.left c.in-Some.ensures.0 c.in-Some.ensures.1 in
    record {
      left = lines_left c.args.lines.now c.loop-line.number c.loop-line.rest.now c.in-Some.line.now c.in-Some.behind.now c.loop-line.invariant.left c.in-Some.ensures.0 c.in-Some.ensures.1;
      few = omega (arith, shorter, c.loop-line.invariant.few);
      within = omega (arith, within);
      depth = c.in_default-step.ensures.depth;
      stands = line_stands c.args.lines.now c.loop-line.number c.loop-line.rest.now c.in-Some.line.now c.in-Some.behind.now c.loop-line.invariant.left c.in-Some.ensures.0 c.in-Some.ensures.1
          c.args.limit c.loop-line.reader c.step.new.self c.loop-line.invariant.stands c.in_default-step.ensures.answer;
    }

pub returns : goal.returns
returns c =
    ended_block c.args.limit c.args.lines.now c.loop-line.number c.loop-line.rest.now c.loop-line.reader c.finish.result
    c.loop-line.invariant.left c.in_default.ensures c.loop-line.invariant.within c.loop-line.invariant.stands c.finish.ensures
