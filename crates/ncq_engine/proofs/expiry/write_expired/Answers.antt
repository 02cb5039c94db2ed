use Rattle.ncq_base.proofs.Written.{front_still}
use Rattle.ncq_engine.proofs.expiry.write_expired.Goals as goal

pub returns-in_err-write_expired_one-clause-front : goal.returns-in_err-write_expired_one-clause-front
returns-in_err-write_expired_one-clause-front c = front_still c.args.out.now.items _ c.loop-install.out.items c.write_expired_one.new.out.items c.loop-install.invariant c.write_expired_one.ensures.front
