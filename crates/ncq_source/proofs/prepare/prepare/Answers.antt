use Rattle.std.proofs.Common.{◌≡◌, ◌+◌, ◌∷◌, ◌<◌, [], length, drop, Err, ap, ◌∙◌, sym, length-append, arith}
use Rattle.std.proofs.lemmas.Result.{err_from_is_err_and}
use Rattle.ncq_source.specs.Changes.{prepared, front, store_after}
use Rattle.ncq_source.proofs.Folds.{one}
use Rattle.ncq_source.proofs.Trials.{one_more, decides, at_end, at_last, from_here, nothing_left, some_left}
use Rattle.ncq_source.proofs.prepare.prepare.Goals as goal

pub returns-in_err-entry-clause-tells : goal.returns-in_err-entry-clause-tells
returns-in_err-entry-clause-tells c =
    let rule = c.args.rule.now in
    let before = c.args.before in
    let es = c.loop-item.entries in
    let at = c.loop-item.item-index in
    let here = from_here c.args.items.now at c.item-item.result c.loop-item-test.true c.item-item.is in
    let left = ap (λ items. front es (prepared rule (before + length es + 1) c.loop-item.ahead items)) here ∙ c.loop-item.invariant.left in
    let p = err_from_is_err_and c.from_residual-in_err-entry.result c.from_residual-in_err-entry.ensures.1 in
    decides rule before c.loop-item.ahead c.item-item.result (drop (at + 1) c.args.items.now) es _ left
    c.entry_of.result c.from_residual-in_err-entry.result c.in_err-entry.field-0.0 c.in_err-entry.was (p.1 ∙ ap Err p.2)
    (rw c.len.ensures at c.entry_of.ensures)

pub loop-item-preserved : goal.loop-item-preserved
loop-item-preserved c =
    let rule = c.args.rule.now in
    let before = c.args.before in
    let es = c.loop-item.entries in
    let at = c.loop-item.item-index in
    let here = from_here c.args.items.now at c.item-item.result c.loop-item-test.true c.item-item.is in
    let left = ap (λ items. front es (prepared rule (before + length es + 1) c.loop-item.ahead items)) here ∙ c.loop-item.invariant.left in
    let pushed : length c.push.new.self ≡ length es + 1 = ap length c.in_ok-push.ensures.ok ∙ length-append es (c.in_ok-entry.entry ∷ []) in
    let count = c.loop-item.invariant.count in
    let held = c.len-in-loop-item.ensures in
    let good = rw c.len.ensures at c.in_ok-entry.ensures in
    record {
      count = omega (arith, pushed, count);
      left = rw c.in_ok-push.ensures.ok
          (one_more rule before c.loop-item.ahead c.item-item.result (drop (at + 1) c.args.items.now) es _ left c.in_ok-entry.entry c.note.new.ahead
          good
          (λ some. let behind : at + 1 < length c.args.items.now = some_left c.args.items.now (at + 1) some in c.in_ok-note.ensures (c.is_seen-seen.ensures.item (omega arith))));
      ahead = λ last.
          ap (λ kept. store_after rule kept (drop (at + 1) c.args.items.now)) (c.in_ok-note.ensures (c.is_seen-seen.ensures.section last) ∙ (one rule _ c.loop-item.ahead c.item-item.result c.in_ok-entry.entry good).0)
          ∙ ap (store_after rule c.loop-item.ahead) here ∙ c.loop-item.invariant.ahead last;
    }

pub returns-clause-tells : goal.returns-clause-tells
returns-clause-tells c =
    let rule = c.args.rule.now in
    let none : length (drop c.loop-item.item-index c.args.items.now) ≡ 0 = nothing_left c.args.items.now c.loop-item.item-index c.loop-item-test.false in
    sym c.loop-item.invariant.left ∙ at_end rule _ c.loop-item.ahead _ c.loop-item.entries none

pub returns-clause-ahead : goal.returns-clause-ahead
returns-clause-ahead c last =
    let rule = c.args.rule.now in
    let none : length (drop c.loop-item.item-index c.args.items.now) ≡ 0 = nothing_left c.args.items.now c.loop-item.item-index c.loop-item-test.false in
    sym (at_last rule c.loop-item.ahead _ none) ∙ c.loop-item.invariant.ahead last
