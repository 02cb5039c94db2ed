use Rattle.ncq_live.proofs.ShareLaws.{shares}
use Rattle.ncq_live.proofs.live_table.LiveTable.shares.Goals as goal

pub returns : goal.returns
returns c = shares c.args.self.now.table c.args.self.now.subscriptions c.facts.ensures.facts c.facts.ensures.shared c.facts.ensures.live_table
