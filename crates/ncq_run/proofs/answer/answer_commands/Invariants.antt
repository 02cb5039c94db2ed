use Rattle.std.proofs.Common.{◌≡◌, ◌≤◌, ℕ, List}
use Rattle.std.specs.Prelude.{Option}
use Rattle.std.specs.Option.{option_copied}
use Rattle.ncq_script.specs.NextOfScript.{script_size}
use Rattle.ncq_run.specs.Session.{IsAnswered}
use Rattle.ncq_run.proofs.Answered.{HasAdvanced}
use Rattle.ncq_run.proofs.answer.answer_commands.Given as goal

abbrev pub invariant-commands : goal.invariant-commands
invariant-commands g l = record {
  advanced : HasAdvanced l.fn.reader l.fn.engine l.fn.steps l.reader l.engine l.steps;
  written : (bytes : List ℕ) (before : Option (List ℕ)) (begun : ℕ) → IsAnswered (option_copied l.fn.task.whose) bytes l.fn.reader l.fn.engine before (g.O.Sink.held l.fn.output) begun l.fn.steps
      → IsAnswered (option_copied l.fn.task.whose) bytes l.reader l.engine before (g.O.Sink.held l.output) begun l.steps;
  sure : g.O.Sink.sure l.output ≡ g.O.Sink.sure l.fn.output;
  later : g.O.Sink.faults l.fn.output ≤ g.O.Sink.faults l.output;
}

abbrev pub decreases-commands : goal.decreases-commands
decreases-commands g l = script_size l.reader
