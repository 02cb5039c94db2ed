use Rattle.std.proofs.Common.{arith}
use Rattle.ncq_midfile.specs.Shown.{shown}
use Rattle.ncq_live.proofs.PinLaws.{last_leaves}
use Rattle.ncq_live.proofs.live_table.last_above_base.Goals as goal

pub returns-then-last-base : goal.returns-then-last-base
returns-then-last-base c = last_leaves (shown c.args.view.now) c.last-last.result c.last-last.ensures (omega arith)
