use Rattle.std.proofs.Common.{◌≡◌, ◌<◌, ◌≤◌, ◌∙◌, ap, sym, length, set, rules}
use Rattle.std.specs.Ordering.{nat_cmp}
use Rattle.std.specs.declared.cmp.Ordering.TheVariants.{Less, Equal as Same}
use Rattle.ncq_plan.specs.declared.query.Within.{Within}
use Rattle.ncq_bind.specs.Ranges.{both}
use Rattle.ncq_bind.proofs.SortedLaws.{range_at, range_less, range_end, same_item}
use Rattle.ncq_bind.proofs.range.insert_range.Goals as goal
use Rattle.ncq_bind.proofs.range.insert_range.Goals.{else-loop-at-test, then-loop-at-test+in-Less}

pub returns-in-Equal : goal.returns-in-Equal
returns-in-Equal c =
    let rs = c.loop-at.ranges.items in
    let at = c.loop-at.at in
    let y = c.index.result.now in
    let h : c.loop-at.at < length c.loop-at.ranges.items = search rules in
    let tie : nat_cmp c.args.range.slot c.index.result.now.slot ≡ Same = sym c.cmp.ensures ∙ c.in-Equal.is in
    let p = same_item rs at c.index_mut.result.now y h c.index_mut.ensures.value c.index.ensures in
    let q = same_item rs at c.index-in-Equal.result.now y h c.index-in-Equal.ensures c.index.ensures in
    (λ i. set rs at (record { slot = (p i).slot; interval = (c.both-interval.ensures ∙ ap (λ (z : Within). both z.interval c.args.range.interval) q) i }))
    ∙ sym (range_at c.args.range y rs at h c.index.ensures tie) ∙ c.loop-at.invariant.left

pub returns : goal.returns
returns c =
    elim c.loop-at-test.branch [
      | else-loop-at-test w ↦
          (let h : length c.loop-at.ranges.items ≤ c.loop-at.at = search rules in
          c.in_ok-insert.ensures.items ∙ range_end c.args.range c.loop-at.ranges.items c.loop-at.at h ∙ c.loop-at.invariant.left)
      | then-loop-at-test+in-Less w ↦
          (let h : c.loop-at.at < length c.loop-at.ranges.items = search rules in
          let tie : nat_cmp c.args.range.slot w.index.result.now.slot ≡ Less = sym w.cmp.ensures ∙ w.in-Less.is in
          c.in_ok-insert.ensures.items ∙ range_less c.args.range w.index.result.now c.loop-at.ranges.items c.loop-at.at h w.index.ensures tie ∙ c.loop-at.invariant.left)
    ]
