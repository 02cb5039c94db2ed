use Rattle.std.proofs.Common.{◌||◌, nat_eq, ap, sym, ◌∙◌}
use Rattle.ncq_feed.specs.Pending.{numbers_in}
use Rattle.ncq_feed.specs.Runs.{is_among}
use Rattle.ncq_feed.proofs.TreeLaws.{put}
use Rattle.ncq_feed.proofs.pending.Pending.note.Goals as goal

pub returns-in_ok-insert-in-Many : goal.returns-in_ok-insert-in-Many
returns-in_ok-insert-in-Many c = λ other.
    put c.in-Many.many c.insert.new.self c.args.number c.in_ok-insert-in-Many.ensures.updates other
    ∙ ap (λ b. nat_eq other c.args.number || b) (ap (λ kept. is_among other (numbers_in kept)) (sym c.in-Many.is) ∙ ap (is_among other) c.self.view_is)
