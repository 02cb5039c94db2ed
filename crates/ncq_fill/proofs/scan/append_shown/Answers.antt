use Rattle.std.proofs.Common.{◌++◌, List, map, ◌∙◌, ap, arith}
use Rattle.std.proofs.lemmas.List.{length-map, take_all}
use Rattle.ncq_tree.specs.declared.model.Element.{Element}
use Rattle.ncq_plan.specs.Exprs.{scan_rows}
use Rattle.ncq_fill.proofs.ScanLaws.{shown_more, shown_left}
use Rattle.ncq_fill.proofs.scan.append_shown.Goals as goal

pub loop-at-preserved : goal.loop-at-preserved
loop-at-preserved g c = record {
  rows = λ source here.
      shown_more c.args.shape.now (map (λ entry. entry.1) source.shown) c.loop-at.at c.written.result.now (c.written.ensures.place source here) c.args.rows.now c.loop-at.rows c.match_written.new.rows
      (c.loop-at.invariant.rows source here) c.in_ok-match_written.ensures.ok;
  cost = λ source here.
      let left = shown_left c.args.shape.now (map (λ entry. entry.1) source.shown) c.loop-at.at c.written.result.now (c.written.ensures.place source here) in
      let before = c.loop-at.invariant.cost source here in
      let one = c.match_written.ensures.cost in
      omega arith;
}

pub returns-in_err-match_written-clause-cost : goal.returns-in_err-match_written-clause-cost
returns-in_err-match_written-clause-cost g c source here =
    let left = shown_left c.args.shape.now (map (λ entry. entry.1) source.shown) c.loop-at.at c.written.result.now (c.written.ensures.place source here) in
    let before = c.loop-at.invariant.cost source here in
    let one = c.match_written.ensures.cost in
    omega arith

pub returns-clause-rows : goal.returns-clause-rows
returns-clause-rows g c source here =
    let count = c.size-at-end.ensures.count source here in
    let past = c.loop-at-test.false in
    let len = length-map source.shown (λ entry. entry.1) in
    c.loop-at.invariant.rows source here
    ∙ ap (λ (elements : List Element). c.args.rows.now ++ scan_rows c.args.shape.now elements)
    (take_all c.loop-at.at (map (λ entry. entry.1) source.shown) (omega (arith, count, past, len)))

pub returns-clause-cost : goal.returns-clause-cost
returns-clause-cost g c source here = let before = c.loop-at.invariant.cost source here in omega arith
