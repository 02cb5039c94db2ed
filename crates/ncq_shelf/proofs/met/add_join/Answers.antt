use Rattle.std.proofs.Common.{sym}
use Rattle.ncq_shelf.proofs.MetLaws.{inserted}
use Rattle.ncq_shelf.proofs.met.add_join.Goals as goal

pub returns-in_ok-insert-clause-gathers : goal.returns-in_ok-insert-clause-gathers
returns-in_ok-insert-clause-gathers c =
    inserted c.args.files.now.entries c.args.input c.args.met.now.keys c.insert.new.self.keys c.args.number
    (record { file = c.in-Some.file.now; at = sym c.in-Some.ensures.value; over = c.is_join_over.ensures.0 c.if-is_join_over.true }) c.in_ok-insert.ensures.updates.0
