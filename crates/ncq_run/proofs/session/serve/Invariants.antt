use Rattle.std.proofs.Common.{◌≡◌, ◌-◌, length}
use Rattle.std.specs.Option.{option_copied}
use Rattle.ncq_script.specs.ScriptReading.{limit_of}
use Rattle.ncq_run.specs.Session.{IsReady, SoFar}
use Rattle.ncq_run.specs.Status.{outside}
use Rattle.ncq_run.proofs.session.serve.Given as goal

abbrev pub invariant-turns : goal.invariant-turns
invariant-turns g l = record {
  ready : IsReady l.session.reader l.engine l.session.taken l.session.most (length l.session.buffer.items) l.steps;
  so_far : SoFar (option_copied l.fn.task.whose) l.session.reader l.engine l.session.taken
      (outside (g.I.Source.left l.fn.input) (g.O.Sink.held l.fn.output) (g.I.Source.given l.fn.input) (g.I.Source.faults l.fn.input) (g.O.Sink.faults l.fn.output))
      (outside (g.I.Source.left l.input) (g.O.Sink.held l.output) (g.I.Source.given l.input) (g.I.Source.faults l.input) (g.O.Sink.faults l.output)) l.fn.steps l.steps;
  handed : l.engine.handed ≡ l.fn.engine.handed;
  is_sure : g.I.Source.is_sure l.input ≡ g.I.Source.is_sure l.fn.input;
  sure : g.O.Sink.sure l.output ≡ g.O.Sink.sure l.fn.output;
  most : l.session.most ≡ l.fn.most;
  limit : limit_of l.session.reader ≡ l.fn.limit;
}

abbrev pub decreases-turns : goal.decreases-turns
decreases-turns g l = l.session.most - l.session.taken
