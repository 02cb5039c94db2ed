use Rattle.std.proofs.Common.{◌≡◌, ◌∙◌, List, ℕ, subst}
use Rattle.std.specs.Io.KnownBytes.{Appends}
use Rattle.ncq_engine.specs.Languages.{language_of}
use Rattle.ncq_run.specs.Output.{load_output}
use Rattle.ncq_run.specs.Status.{AppendsProperPrefix}
use Rattle.ncq_run.proofs.TallyLaws.{load_is}
use Rattle.ncq_run.proofs.load.load.Goals as goal

pub returns-in-Ok-write_all-clause-ended : goal.returns-in-Ok-write_all-clause-ended
returns-in-Ok-write_all-clause-ended g c left left' given given' faults faults' =
    let text : c.as_slice.result.now ≡ load_output (language_of c.args.engine.now.handed) c.args.limit c.args.n =
    c.as_slice.ensures.value ∙ load_is (language_of c.args.engine.now.handed) c.args.limit c.args.n _ _ _ c.in-Ok.ensures.tallied.0 c.new-text.ensures.items c.in-Ok-write_tally.ensures.ok in
    subst (λ (bytes : List ℕ). Appends (g.O.Sink.held c.args.output.now) (g.O.Sink.held c.write_all.new.output) bytes) text c.in-Ok-write_all.ensures.ok

pub returns-clause-ended : goal.returns-clause-ended
returns-clause-ended g c left left' given given' faults faults' =
    let text : c.as_slice.result.now ≡ load_output (language_of c.args.engine.now.handed) c.args.limit c.args.n =
    c.as_slice.ensures.value ∙ load_is (language_of c.args.engine.now.handed) c.args.limit c.args.n _ _ _ c.in-Ok.ensures.tallied.0 c.new-text.ensures.items c.in-Ok-write_tally.ensures.ok in
    (c.in-Err.ensures.cause.failed, subst (λ (bytes : List ℕ). AppendsProperPrefix (g.O.Sink.held c.args.output.now) (g.O.Sink.held c.write_all.new.output) bytes) text c.in-Err.ensures.err)
