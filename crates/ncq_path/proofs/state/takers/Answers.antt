use Rattle.std.proofs.Common.{◌+◌, arith, ap, ◌∙◌, bit_or}
use Rattle.ncq_path.specs.Positions.{has}
use Rattle.ncq_path.proofs.States.{taken_layer, taken_more, taken_none}
use Rattle.ncq_path.proofs.state.takers.Goals as goal
use Rattle.ncq_path.proofs.state.takers.Goals.{then-is_taken, else-is_taken}

pub loop-i-preserved : goal.loop-i-preserved
loop-i-preserved c = λ q.
    taken_layer c.args.links.now c.loop-i.i c.index-links-i.result c.args.bits c.args.tag.now
    c.loop-i.found c.if-is_taken.found c.is_taken.result q _ (omega arith) c.index-links-i.is
    c.is_taken.ensures
    (elim c.if-is_taken.branch [
      | then-is_taken w ↦ ap (λ n. has n q) (w.found-is ∙ ap (λ n. bit_or c.loop-i.found n) w.position-found.ensures)
          ∙ taken_more c.loop-i.found (c.loop-i.i + 1) q c.is_taken.result w.if-is_taken.true
      | else-is_taken w ↦ ap (λ n. has n q) w.found-is
          ∙ taken_none c.loop-i.found (c.loop-i.i + 1) q c.is_taken.result w.if-is_taken.false
    ])
    (c.loop-i.invariant q)
