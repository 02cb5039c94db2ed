use Rattle.std.proofs.Common.{◌≡◌, ℕ, arith, subst}
use Rattle.std.specs.Prelude.{IfOk}
use Rattle.ncq_report.specs.Loads.{load_text}
use Rattle.ncq_report.specs.declared.tally.Tally.{Tally}
use Rattle.ncq_script.specs.Script.{script}
use Rattle.ncq_engine.specs.Languages.{language_of}
use Rattle.ncq_run.specs.Output.{AreWithinTries}
use Rattle.ncq_run.specs.Status.{StandsForThe}
use Rattle.ncq_run.specs.Tallies.{tally_of}
use Rattle.ncq_run.proofs.load.tally_load.Goals as goal

pub new-reader-requires : goal.new-reader-requires
new-reader-requires g c = let limit = c.requires.limit in omega (arith, limit)

pub returns-clause-tallied : goal.returns-clause-tallied
returns-clause-tallied g c =
    let language = language_of c.args.engine.now.handed in
    subst (λ (limit : ℕ). IfOk c.tally_parts.result (λ (tally : Tally). (tally ≡ tally_of language (script limit (load_text c.args.n))) × StandsForThe language (script limit (load_text c.args.n)) c.tally_parts.new.engine)) c.new-reader.ensures.limit
    c.tally_parts.ensures.tallied

pub returns-clause-work : goal.returns-clause-work
returns-clause-work g c =
    let language = language_of c.args.engine.now.handed in
    subst (λ (limit : ℕ). AreWithinTries language (script limit (load_text c.args.n)) c.args.steps.now c.tally_parts.new.steps) c.new-reader.ensures.limit c.tally_parts.ensures.work
