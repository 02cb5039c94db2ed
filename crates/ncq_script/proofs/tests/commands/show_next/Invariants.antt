use Rattle.std.proofs.Common.{◌≡◌}
use Rattle.ncq_script.proofs.tests.commands.show_next.Given as goal

abbrev pub invariant-loop : goal.invariant-loop
invariant-loop l = l.reader.lines.finished ≡ l.fn.reader.lines.finished
