use Rattle.std.proofs.Common.{◌≡◌}
use Rattle.std.specs.Prelude.{false}
use Rattle.ncq_script.proofs.tests.commands.show_pieces.Given as goal

abbrev pub invariant-loop : goal.invariant-loop
invariant-loop l = l.reader.lines.finished ≡ false
