use Rattle.std.proofs.Common.{ℕ, List}
use Rattle.ncq_script.specs.NextOfScript.{script_size}
use Rattle.ncq_run.specs.Session.{IsTallied}
use Rattle.ncq_run.proofs.Answered.{HasAdvanced}
use Rattle.ncq_run.proofs.load.tally_commands.Given as goal

abbrev pub invariant-commands : goal.invariant-commands
invariant-commands g l = record {
  advanced : HasAdvanced l.fn.reader l.fn.engine l.fn.steps l.reader l.engine l.steps;
  tallied : (bytes : List ℕ) (begun : ℕ) → IsTallied bytes l.fn.reader l.fn.engine l.fn.tally begun l.fn.steps → IsTallied bytes l.reader l.engine l.tally begun l.steps;
}

abbrev pub decreases-commands : goal.decreases-commands
decreases-commands g l = script_size l.reader
