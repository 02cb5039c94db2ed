use Rattle.ncq_base.specs.AtomTexts.{quoted_byte}
use Rattle.ncq_base.proofs.Written.{all_written, front_again, turn_written}
use Rattle.ncq_base.proofs.atom_text.push_quoted_bytes.Goals as goal

pub loop-byte-preserved : goal.loop-byte-preserved
loop-byte-preserved c =
    record {
      left = turn_written c.args.text.now _ c.loop-byte.byte-index quoted_byte c.loop-byte.out.items c.push_quoted_byte.new.out.items c.loop-byte-test.true c.loop-byte.invariant.left c.in_ok-push_quoted_byte.ensures.ok;
      front = front_again c.args.out.now.items c.loop-byte.out.items c.push_quoted_byte.new.out.items c.loop-byte.invariant.front c.push_quoted_byte.ensures.front;
    }

pub returns-clause-ok : goal.returns-clause-ok
returns-clause-ok c = all_written c.args.text.now _ c.loop-byte.byte-index quoted_byte c.loop-byte.out.items c.loop-byte-test.false c.loop-byte.invariant.left

pub returns-in_err-push_quoted_byte-clause-front : goal.returns-in_err-push_quoted_byte-clause-front
returns-in_err-push_quoted_byte-clause-front c = front_again c.args.out.now.items c.loop-byte.out.items c.push_quoted_byte.new.out.items c.loop-byte.invariant.front c.push_quoted_byte.ensures.front
