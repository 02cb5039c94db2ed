use Rattle.std.proofs.Common.{◌<◌, length, arith}
use Rattle.ncq_callback.specs.Labels.{labels}
use Rattle.ncq_engine.proofs.Actions.{label_more}
use Rattle.ncq_engine.proofs.handed.labels_of.Goals as goal

pub loop-at-preserved : goal.loop-at-preserved
loop-at-preserved g c =
    let less : c.loop-at.at < length (labels c.args.handlers.now.items.items (λ h. h.name) (λ h. h.kind)) = omega arith in
    label_more (labels c.args.handlers.now.items.items (λ h. h.name) (λ h. h.kind)) c.loop-at.at c.name.result.now c.in_ok-copy.field-0 c.kind.result
    c.loop-at.found.items c.push.new.self.items less c.name.ensures c.kind.ensures c.in_ok-copy.ensures c.loop-at.invariant c.in_ok-push.ensures.items
