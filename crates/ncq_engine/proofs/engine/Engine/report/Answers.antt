use Rattle.std.proofs.Common.{◌+◌, subst, sym, Ok}
use Rattle.ncq_script.specs.declared.command.Command.TheVariants.{Report}
use Rattle.ncq_engine.specs.Applies.{Applies}
use Rattle.ncq_engine.specs.Stands.{EngineState}
use Rattle.ncq_engine.specs.Summaries.{IsSummary}
use Rattle.ncq_engine.proofs.CachedAnswers.{keeps_as_was, keeps_itself}
use Rattle.ncq_engine.proofs.ReportAnswers.{report_answers}
use Rattle.ncq_engine.proofs.Views.{view_of}
use Rattle.ncq_engine.proofs.engine.Engine.report.Goals as goal

pub returns-clause-applies : goal.returns-clause-applies
returns-clause-applies c =
    let was = view_of c.self.inside in
    let summary = c.in_ok-summary.summary in
    let summed = subst (λ (e : EngineState). IsSummary e summary) (sym c.self.view_is) c.in_ok-summary.ensures in
    subst (λ (e : EngineState). Applies e Report c.args.out.now.items (Ok c.in_ok-answered.answered) (record was { count = was.count + 1 }) c.write_report.new.out.items) c.self.view_is
    (report_answers was c.shares.ensures summary summed c.args.out.now.items c.write_accepted.new.out.items c.write_report.new.out.items c.in_ok-answered.answered
    c.in_ok-answered.ensures.text c.in_ok-answered.ensures.places c.in_ok-write_report.ensures.ok)

-- what is kept of what was told is kept still
pub returns-in_err-answered-clause-cached : goal.returns-in_err-answered-clause-cached
returns-in_err-answered-clause-cached c = keeps_itself c.args.self.now

pub returns-in_err-summary-clause-cached : goal.returns-in_err-summary-clause-cached
returns-in_err-summary-clause-cached c = keeps_itself c.args.self.now

pub returns-in_err-write_report-clause-cached : goal.returns-in_err-write_report-clause-cached
returns-in_err-write_report-clause-cached c = keeps_itself c.args.self.now

pub returns-clause-cached : goal.returns-clause-cached
returns-clause-cached c = keeps_as_was c.self.view_is
