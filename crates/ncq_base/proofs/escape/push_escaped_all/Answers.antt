use Rattle.std.proofs.Common.{length, take, ap, ◌∙◌}
use Rattle.ncq_base.specs.Escapes.{escaped_byte}
use Rattle.ncq_base.proofs.Written.{all_written, front_again, front_written, turn_written}
use Rattle.ncq_base.proofs.escape.push_escaped_all.Goals as goal

pub loop-byte-preserved : goal.loop-byte-preserved
loop-byte-preserved c =
    let more = c.in_ok-push_escaped.ensures.ok in
    record {
      left = turn_written c.args.text.now _ c.loop-byte.byte-index escaped_byte c.loop-byte.out.items c.push_escaped.new.out.items c.loop-byte-test.true c.loop-byte.invariant.left more;
      front = front_again c.args.out.now.items c.loop-byte.out.items c.push_escaped.new.out.items c.loop-byte.invariant.front (front_written c.loop-byte.out.items _ c.push_escaped.new.out.items more);
    }

pub returns-clause-ok : goal.returns-clause-ok
returns-clause-ok c = all_written c.args.text.now _ c.loop-byte.byte-index escaped_byte c.loop-byte.out.items c.loop-byte-test.false c.loop-byte.invariant.left

pub returns-in_err-push_escaped-clause-front : goal.returns-in_err-push_escaped-clause-front
returns-in_err-push_escaped-clause-front c = ap (take (length c.args.out.now.items)) c.in_err-push_escaped.ensures.err ∙ c.loop-byte.invariant.front
