use Rattle.std.proofs.Common.{◌≡◌, false}
use Rattle.ncq_report.specs.Loads.{parts_text}
use Rattle.ncq_script.specs.ScriptReading.{is_finished, limit_of}
use Rattle.ncq_run.specs.Session.{IsTallied}
use Rattle.ncq_run.proofs.load.tally_parts.Given as goal

abbrev pub invariant-loop-number : goal.invariant-loop-number
invariant-loop-number g l = record {
  so_far : IsTallied (parts_text l.fn.n l.number) l.reader l.engine l.tally l.fn.steps l.steps;
  handed : l.engine.handed ≡ l.fn.engine.handed;
  limit : limit_of l.reader ≡ limit_of l.fn.reader;
  is_open : is_finished l.reader ≡ false;
}
