use Rattle.std.proofs.Common.{◌∙◌}
use Rattle.ncq_midfile.proofs.OrderLaws.{known_more, either_known}
use Rattle.ncq_midfile.proofs.order.note_number.Goals as goal

pub returns-in_ok-insert-clause-more : goal.returns-in_ok-insert-clause-more
returns-in_ok-insert-clause-more c =
    known_more c.args.values.now.keys c.insert.new.self.keys (λ q known. c.in_ok-insert.ensures.updates.0 q ∙ either_known _ _ known)
