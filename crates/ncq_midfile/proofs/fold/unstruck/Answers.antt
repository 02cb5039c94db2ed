use Rattle.std.proofs.Common.{◌≡◌, ◌+◌, length, get_or, nat_le, zero-add, ap, ◌∙◌, subst, arith, ◌++◌, ◌∷◌, []}
use Rattle.std.specs.List.{range_with_len}
use Rattle.ncq_midfile.specs.LossCounts.{AreUnstruck}
use Rattle.ncq_midfile.specs.Matching.{passes}
use Rattle.ncq_midfile.proofs.Foldeds.{unstruck_start, unstruck_next}
use Rattle.ncq_midfile.proofs.Parts.{range_push, some_at}
use Rattle.ncq_midfile.proofs.fold.unstruck.Goals as goal

pub loop-place-init : goal.loop-place-init
loop-place-init c =
    unstruck_start c.args.rows.now c.args.bounds.now c.new-places.result c.args.lost.now.entries c.new-places.ensures c.requires.lost

pub loop-place-preserved : goal.loop-place-preserved
loop-place-preserved c =
    let rows = c.args.rows.now in
    let i = c.loop-place.place in
    let bound = get_or c.args.bounds.now i 0 in
    let r = c.index-rows-place.result in
    let at = some_at rows i r c.loop-place-test.true c.index-rows-place.is in
    let ensures = c.is_unstruck-kept.ensures in
    unstruck_next rows c.args.bounds.now c.loop-place.places c.push_where.new.places (range_with_len 0 i) (range_with_len 0 (i + 1)) i r (nat_le r.number bound) c.is_unstruck-kept.result
    at (ap (passes (λ s. nat_le s.number bound)) at) c.in_ok-push_where.ensures (range_push 0 i ∙ ap (λ n. range_with_len 0 i ++ n ∷ []) (zero-add i))
    c.loop-place.lost.entries c.is_unstruck-kept.new.lost.entries ensures.late ensures.went ensures.lost c.loop-place.invariant

pub returns : goal.returns
returns c =
    let none = c.loop-place-test.false in
    let all : c.loop-place.place ≡ length c.args.rows.now = omega arith in
    subst (λ n. AreUnstruck c.args.rows.now c.args.bounds.now (range_with_len 0 n) c.loop-place.places c.loop-place.lost.entries) all c.loop-place.invariant
