use Rattle.std.proofs.Common.{◌≡◌}
use Rattle.ncq_script.specs.ScriptReading.{is_finished}
use Rattle.ncq_script.proofs.tests.saying.show_said.Given as goal

abbrev pub invariant-loop : goal.invariant-loop
invariant-loop l = is_finished l.reader ≡ is_finished l.fn.reader
