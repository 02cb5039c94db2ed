use Rattle.std.proofs.Common.{◌≡◌, ℕ, ◌++◌, List, length, take, drop, ap, sym, ◌∙◌, append_assoc, append-nil, Bool, true, false, not, ◌&&◌, true≢false, refl}
use Rattle.std.specs.List.{flat_map}
use Rattle.std.specs.BTreeMap.Range.{is_from_start, is_past_end, range_contains}
use Rattle.std.specs.Ordering.{int_cmp}
use Rattle.ncq_base.specs.Intervals.{is_above, is_below}
use Rattle.ncq_base.proofs.Tests.{both_true}
use Rattle.ncq_midfile.specs.Orders.{with_value}
use Rattle.ncq_midfile.proofs.ByValue.{none_inside, those_between}
use Rattle.ncq_midfile.proofs.order.push_ordered.Goals as goal

contained : (s t : Bool) → s ≡ true → t ≡ false → (s && not t) ≡ true
contained true false a b = refl
contained true true a b = absurd (true≢false b)
contained false t a b = absurd (true≢false (sym a))

pub loop-value-preserved : goal.loop-value-preserved
loop-value-preserved c =
    let order = c.args.order.now in
    let those = with_value order.slot c.args.interval.now c.args.n c.args.from (drop c.args.from (take (length order.index.hashes) c.args.rows.now)) in
    ap (λ (xs : List ℕ). xs ++ flat_map those c.next.new.self) c.in_ok-push_value.ensures
    ∙ append_assoc c.loop-value.found (those c.in-Some.value.now) (flat_map those c.next.new.self)
    ∙ ap (λ vs. c.loop-value.found ++ flat_map those vs) (sym c.in-Some.ensures.steps)
    ∙ c.loop-value.invariant

pub returns-then-not-is_forward : goal.returns-then-not-is_forward
returns-then-not-is_forward c =
    let order = c.args.order.now in
    let rows = drop c.args.from (take (length order.index.hashes) c.args.rows.now) in
    let interval = c.args.interval.now in
    sym (append-nil c.args.found.now)
    ∙ ap (λ (ps : List ℕ). c.args.found.now ++ ps) (sym (none_inside order.slot interval c.args.n c.args.from rows order.values.keys (λ v inside.
    let both = both_true (is_above interval.low v) (is_below interval.high v) inside in
    true≢false (sym (c.is_forward.ensures.none c.if-not-is_forward.true v (c.from_low-low.ensures v both.0)) ∙ c.to_high-high.ensures v both.1))))

pub loop-value-init : goal.loop-value-init
loop-value-init c =
    let order = c.args.order.now in
    let rows = drop c.args.from (take (length order.index.hashes) c.args.rows.now) in
    let interval = c.args.interval.now in
    let those = with_value order.slot interval c.args.n c.args.from rows in
    let low = c.from_low-low.result in
    let high = c.to_high-high.result in
    let between = c.range-value-items.ensures.between in
    let gives = c.into_iter-value-iterator.ensures.into_iter_gives in
    ap (λ vs. c.args.found.now ++ flat_map those vs) (gives ∙ between tt)
    ∙ ap (λ (ps : List ℕ). c.args.found.now ++ ps) (those_between order.slot interval c.args.n c.args.from rows (range_contains int_cmp low high) order.values.keys (λ v inside.
    let both = both_true (is_above interval.low v) (is_below interval.high v) inside in
    contained (is_from_start int_cmp low v) (is_past_end int_cmp high v) (c.from_low-low.ensures v both.0) (c.to_high-high.ensures v both.1)))
