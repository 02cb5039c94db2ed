use Rattle.ncq_midfile.specs.Shown.{shown}
use Rattle.ncq_feed.proofs.GrowthLaws.{there_up}
use Rattle.ncq_feed.proofs.TurnLaws.{none_later}
use Rattle.ncq_feed.proofs.turn.got_rows.Goals as goal

pub content-requires : goal.content-requires
content-requires g c = there_up g.run c.args.shelf.now c.requires.1.0 c.args.at c.requires.1.1

pub returns : goal.returns
returns g c = λ none.
    none_later g.run c.args.shelf.now c.requires.1.0 c.args.at c.requires.1.1 (shown c.content.result) c.content.ensures.content c.last.result c.args.now c.requires.0 c.last.ensures none
