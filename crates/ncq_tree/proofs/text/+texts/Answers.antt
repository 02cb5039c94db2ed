use Rattle.std.proofs.Common.{take, append_assoc}
use Rattle.ncq_tree.specs.Texts.{texts, texts_of}
use Rattle.ncq_tree.proofs.Texts.{texts-more, following-append, has_text-append}
use Rattle.ncq_tree.proofs.text.+texts.Goals as goal

pub append_forest-loop-node-preserved : goal.append_forest-loop-node-preserved
append_forest-loop-node-preserved t c =
    let before = texts (take c.loop-node.node-index c.as_slice-node-items.result.now) in
    let more = texts-more c.as_slice-node-items.result.now c.loop-node.node-index c.node-item.result c.loop-node-test.true c.node-item.is in
    let b = following-append c.args.behind before (texts_of c.node-item.result) in
    let a = has_text-append c.args.behind before (texts_of c.node-item.result) in
    record {
      bytes = rw (more, b, ← append_assoc, ← c.loop-node.invariant.bytes, ← c.loop-node.invariant.behind) c.in_ok-behind.ensures.bytes;
      behind = rw (more, a, ← c.loop-node.invariant.behind) c.in_ok-behind.ensures.behind;
    }
