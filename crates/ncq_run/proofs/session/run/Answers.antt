use Rattle.std.proofs.Common.{true, ◌≡◌, ◌∙◌, refl, ap, inl, inr}
use Rattle.std.specs.Prelude.{Err}
use Rattle.ncq_engine.specs.Languages.{language_of}
use Rattle.ncq_words.specs.Forms.{texts_of}
use Rattle.ncq_words.specs.Forms.Form.{run, alone, load}
use Rattle.ncq_run.specs.Limits.{longest_line, longest_script}
use Rattle.ncq_run.specs.Status.{StandsAs, WorksAs, is_load, outside}
use Rattle.ncq_run.specs.declared.session.Status.TheVariants.{NoMemory}
use Rattle.ncq_run.proofs.FormLaws.{three_same, ended_for, if_none, load_is, load_never_reads, load_stands, no_work, nothing_stands, not_none, not_usage, not_usage_load, nothing_yet, of_any, of_form, of_none, reads}
use Rattle.ncq_run.proofs.session.run.Goals as goal

pub serve-requires-clause-fresh : goal.serve-requires-clause-fresh
serve-requires-clause-fresh g c = (c.requires.stands, c.requires.fresh)

pub serve-requires-in-Ok-Alone-clause-fresh : goal.serve-requires-in-Ok-Alone-clause-fresh
serve-requires-in-Ok-Alone-clause-fresh g c = (c.requires.stands, c.requires.fresh)

pub load-requires-clause-fresh : goal.load-requires-clause-fresh
load-requires-clause-fresh g c = (c.requires.stands, c.requires.fresh)

pub returns-in-Ok-Run-clause-usage : goal.returns-in-Ok-Run-clause-usage
returns-in-Ok-Run-clause-usage g c = λ is. absurd (not_usage _ _ _ _ _ _ _ c.serve.ensures.over.ended is)

pub returns-in-Ok-Run-clause-no_form : goal.returns-in-Ok-Run-clause-no_form
returns-in-Ok-Run-clause-no_form g c = not_none _ run _ (rw c.in-Ok-Run.field-0-is at c.in-Ok-Run.ensures.form)

pub returns-in-Ok-Run-clause-untouched : goal.returns-in-Ok-Run-clause-untouched
returns-in-Ok-Run-clause-untouched g c = not_none _ run _ (rw c.in-Ok-Run.field-0-is at c.in-Ok-Run.ensures.form)

pub returns-in-Ok-Run-clause-ended : goal.returns-in-Ok-Run-clause-ended
returns-in-Ok-Run-clause-ended g c = of_form _ run _ (rw c.in-Ok-Run.field-0-is at c.in-Ok-Run.ensures.form) c.serve.ensures.over.ended

pub returns-in-Ok-Run-clause-unread : goal.returns-in-Ok-Run-clause-unread
returns-in-Ok-Run-clause-unread g c = of_form _ run _ (rw c.in-Ok-Run.field-0-is at c.in-Ok-Run.ensures.form) (reads run refl _)

pub returns-in-Ok-Run-clause-stands : goal.returns-in-Ok-Run-clause-stands
returns-in-Ok-Run-clause-stands g c = of_form _ run _ (rw c.in-Ok-Run.field-0-is at c.in-Ok-Run.ensures.form) c.serve.ensures.over.stands

pub returns-in-Ok-Run-clause-work : goal.returns-in-Ok-Run-clause-work
returns-in-Ok-Run-clause-work g c = of_form _ run _ (rw c.in-Ok-Run.field-0-is at c.in-Ok-Run.ensures.form) c.serve.ensures.over.work

pub returns-in-Ok-Run-clause-within : goal.returns-in-Ok-Run-clause-within
returns-in-Ok-Run-clause-within g c = c.serve.ensures.within

pub returns-in-Ok-Run-clause-sure_source : goal.returns-in-Ok-Run-clause-sure_source
returns-in-Ok-Run-clause-sure_source g c = c.serve.ensures.sure_source

pub returns-in-Ok-Run-clause-sure_sink : goal.returns-in-Ok-Run-clause-sure_sink
returns-in-Ok-Run-clause-sure_sink g c = c.serve.ensures.sure_sink

pub returns-in-Ok-Alone-clause-usage : goal.returns-in-Ok-Alone-clause-usage
returns-in-Ok-Alone-clause-usage g c = λ is. absurd (not_usage _ _ _ _ _ _ _ c.serve-in-Ok-Alone.ensures.over.ended is)

pub returns-in-Ok-Alone-clause-no_form : goal.returns-in-Ok-Alone-clause-no_form
returns-in-Ok-Alone-clause-no_form g c = not_none _ (alone c.in-Ok-Alone.name.now) _ (rw c.in-Ok-Alone.field-0-is at c.in-Ok-Alone.ensures.form)

pub returns-in-Ok-Alone-clause-untouched : goal.returns-in-Ok-Alone-clause-untouched
returns-in-Ok-Alone-clause-untouched g c = not_none _ (alone c.in-Ok-Alone.name.now) _ (rw c.in-Ok-Alone.field-0-is at c.in-Ok-Alone.ensures.form)

pub returns-in-Ok-Alone-clause-ended : goal.returns-in-Ok-Alone-clause-ended
returns-in-Ok-Alone-clause-ended g c = of_form _ (alone c.in-Ok-Alone.name.now) _ (rw c.in-Ok-Alone.field-0-is at c.in-Ok-Alone.ensures.form)
    (ended_for (language_of c.args.engine.now.handed) c.in-Ok-Alone.name.now _ _ _ _ _ _ c.as_bytes.ensures.value c.serve-in-Ok-Alone.ensures.over.ended)

pub returns-in-Ok-Alone-clause-unread : goal.returns-in-Ok-Alone-clause-unread
returns-in-Ok-Alone-clause-unread g c = of_form _ (alone c.in-Ok-Alone.name.now) _ (rw c.in-Ok-Alone.field-0-is at c.in-Ok-Alone.ensures.form) (reads (alone c.in-Ok-Alone.name.now) refl _)

pub returns-in-Ok-Alone-clause-stands : goal.returns-in-Ok-Alone-clause-stands
returns-in-Ok-Alone-clause-stands g c = of_form _ (alone c.in-Ok-Alone.name.now) _ (rw c.in-Ok-Alone.field-0-is at c.in-Ok-Alone.ensures.form) c.serve-in-Ok-Alone.ensures.over.stands

pub returns-in-Ok-Alone-clause-work : goal.returns-in-Ok-Alone-clause-work
returns-in-Ok-Alone-clause-work g c = of_form _ (alone c.in-Ok-Alone.name.now) _ (rw c.in-Ok-Alone.field-0-is at c.in-Ok-Alone.ensures.form) c.serve-in-Ok-Alone.ensures.over.work

pub returns-in-Ok-Alone-clause-within : goal.returns-in-Ok-Alone-clause-within
returns-in-Ok-Alone-clause-within g c = c.serve-in-Ok-Alone.ensures.within

pub returns-in-Ok-Alone-clause-sure_source : goal.returns-in-Ok-Alone-clause-sure_source
returns-in-Ok-Alone-clause-sure_source g c = c.serve-in-Ok-Alone.ensures.sure_source

pub returns-in-Ok-Alone-clause-sure_sink : goal.returns-in-Ok-Alone-clause-sure_sink
returns-in-Ok-Alone-clause-sure_sink g c = c.serve-in-Ok-Alone.ensures.sure_sink

pub load-requires-clause-some : goal.load-requires-clause-some
load-requires-clause-some g c = (load_is (texts_of c.args.words.now) c.in-Ok-Load.n (rw c.in-Ok-Load.field-0-is at c.in-Ok-Load.ensures.form)).0

pub load-requires-clause-few : goal.load-requires-clause-few
load-requires-clause-few g c = (load_is (texts_of c.args.words.now) c.in-Ok-Load.n (rw c.in-Ok-Load.field-0-is at c.in-Ok-Load.ensures.form)).1

pub returns-in-Ok-Load-clause-usage : goal.returns-in-Ok-Load-clause-usage
returns-in-Ok-Load-clause-usage g c = λ is. absurd (not_usage_load (language_of c.args.engine.now.handed) longest_line c.in-Ok-Load.n
    (outside (g.I.Source.left c.args.input.now) (g.O.Sink.held c.args.output.now) (g.I.Source.given c.args.input.now) (g.I.Source.faults c.args.input.now) (g.O.Sink.faults c.args.output.now))
    (outside (g.I.Source.left c.args.input.now) (g.O.Sink.held c.load.new.output) (g.I.Source.given c.args.input.now) (g.I.Source.faults c.args.input.now) (g.O.Sink.faults c.load.new.output)) c.load.result (c.load.ensures.ended (g.I.Source.left c.args.input.now) (g.I.Source.left c.args.input.now) (g.I.Source.given c.args.input.now) (g.I.Source.given c.args.input.now) (g.I.Source.faults c.args.input.now) (g.I.Source.faults c.args.input.now)) is)

pub returns-in-Ok-Load-clause-no_form : goal.returns-in-Ok-Load-clause-no_form
returns-in-Ok-Load-clause-no_form g c = not_none _ (load c.in-Ok-Load.n) _ (rw c.in-Ok-Load.field-0-is at c.in-Ok-Load.ensures.form)

pub returns-in-Ok-Load-clause-untouched : goal.returns-in-Ok-Load-clause-untouched
returns-in-Ok-Load-clause-untouched g c = not_none _ (load c.in-Ok-Load.n) _ (rw c.in-Ok-Load.field-0-is at c.in-Ok-Load.ensures.form)

pub returns-in-Ok-Load-clause-ended : goal.returns-in-Ok-Load-clause-ended
returns-in-Ok-Load-clause-ended g c = of_form _ (load c.in-Ok-Load.n) _ (rw c.in-Ok-Load.field-0-is at c.in-Ok-Load.ensures.form) (c.load.ensures.ended (g.I.Source.left c.args.input.now) (g.I.Source.left c.args.input.now) (g.I.Source.given c.args.input.now) (g.I.Source.given c.args.input.now) (g.I.Source.faults c.args.input.now) (g.I.Source.faults c.args.input.now))

pub returns-in-Ok-Load-clause-unread : goal.returns-in-Ok-Load-clause-unread
returns-in-Ok-Load-clause-unread g c = of_form _ (load c.in-Ok-Load.n) _ (rw c.in-Ok-Load.field-0-is at c.in-Ok-Load.ensures.form) (λ _. refl)

pub returns-in-Ok-Load-clause-stands : goal.returns-in-Ok-Load-clause-stands
returns-in-Ok-Load-clause-stands g c = of_form _ (load c.in-Ok-Load.n) _ (rw c.in-Ok-Load.field-0-is at c.in-Ok-Load.ensures.form)
    (load_stands (language_of c.args.engine.now.handed) longest_line longest_script c.in-Ok-Load.n (g.I.Source.left c.args.input.now) (g.I.Source.left c.args.input.now) _ _ c.load.ensures.stands)

pub returns-in-Ok-Load-clause-work : goal.returns-in-Ok-Load-clause-work
returns-in-Ok-Load-clause-work g c = of_form _ (load c.in-Ok-Load.n) _ (rw c.in-Ok-Load.field-0-is at c.in-Ok-Load.ensures.form) c.load.ensures.work

pub returns-in-Ok-Load-clause-sure_source : goal.returns-in-Ok-Load-clause-sure_source
returns-in-Ok-Load-clause-sure_source g c = load_never_reads (language_of c.args.engine.now.handed) longest_line c.in-Ok-Load.n
    (outside (g.I.Source.left c.args.input.now) (g.O.Sink.held c.args.output.now) (g.I.Source.given c.args.input.now) (g.I.Source.faults c.args.input.now) (g.O.Sink.faults c.args.output.now))
    (outside (g.I.Source.left c.args.input.now) (g.O.Sink.held c.load.new.output) (g.I.Source.given c.args.input.now) (g.I.Source.faults c.args.input.now) (g.O.Sink.faults c.load.new.output)) c.load.result _ (c.load.ensures.ended (g.I.Source.left c.args.input.now) (g.I.Source.left c.args.input.now) (g.I.Source.given c.args.input.now) (g.I.Source.given c.args.input.now) (g.I.Source.faults c.args.input.now) (g.I.Source.faults c.args.input.now))

pub returns-in-Ok-Load-clause-sure_sink : goal.returns-in-Ok-Load-clause-sure_sink
returns-in-Ok-Load-clause-sure_sink g c = c.load.ensures.sure_sink

pub returns-in-Err-Usage-clause-usage : goal.returns-in-Err-Usage-clause-usage
returns-in-Err-Usage-clause-usage g c = λ _. (c.read_words.ensures.usage (c.in-Err-Usage.is ∙ ap Err c.in-Err-Usage.field-0-is))

pub returns-in-Err-Usage-clause-no_form : goal.returns-in-Err-Usage-clause-no_form
returns-in-Err-Usage-clause-no_form g c = if_none _ _ (inl refl)

pub returns-in-Err-Usage-clause-untouched : goal.returns-in-Err-Usage-clause-untouched
returns-in-Err-Usage-clause-untouched g c = if_none _ _ (three_same _ _ _)

pub returns-in-Err-Usage-clause-ended : goal.returns-in-Err-Usage-clause-ended
returns-in-Err-Usage-clause-ended g c = of_none _ _ (c.read_words.ensures.usage (c.in-Err-Usage.is ∙ ap Err c.in-Err-Usage.field-0-is))

pub returns-in-Err-Usage-clause-unread : goal.returns-in-Err-Usage-clause-unread
returns-in-Err-Usage-clause-unread g c = of_none _ _ (c.read_words.ensures.usage (c.in-Err-Usage.is ∙ ap Err c.in-Err-Usage.field-0-is))

pub returns-in-Err-Usage-clause-stands : goal.returns-in-Err-Usage-clause-stands
returns-in-Err-Usage-clause-stands g c = of_none _ _ (c.read_words.ensures.usage (c.in-Err-Usage.is ∙ ap Err c.in-Err-Usage.field-0-is))

pub returns-in-Err-Usage-clause-work : goal.returns-in-Err-Usage-clause-work
returns-in-Err-Usage-clause-work g c = of_none _ _ (c.read_words.ensures.usage (c.in-Err-Usage.is ∙ ap Err c.in-Err-Usage.field-0-is))

pub returns-in-Err-OutOfMemory-clause-no_form : goal.returns-in-Err-OutOfMemory-clause-no_form
returns-in-Err-OutOfMemory-clause-no_form g c = if_none _ _ (inr refl)

pub returns-in-Err-OutOfMemory-clause-untouched : goal.returns-in-Err-OutOfMemory-clause-untouched
returns-in-Err-OutOfMemory-clause-untouched g c = if_none _ _ (three_same _ _ _)

pub returns-in-Err-OutOfMemory-clause-ended : goal.returns-in-Err-OutOfMemory-clause-ended
returns-in-Err-OutOfMemory-clause-ended g c = of_any _ _ (λ form. nothing_yet form (language_of c.args.engine.now.handed) _ _ _ _ _ _ _)

pub returns-in-Err-OutOfMemory-clause-unread : goal.returns-in-Err-OutOfMemory-clause-unread
returns-in-Err-OutOfMemory-clause-unread g c = of_any _ (λ form. is_load form ≡ true → c.args.input.now ≡ c.args.input.now) (λ form _. refl)

pub returns-in-Err-OutOfMemory-clause-stands : goal.returns-in-Err-OutOfMemory-clause-stands
returns-in-Err-OutOfMemory-clause-stands g c = of_any _ (λ form. StandsAs form (language_of c.args.engine.now.handed) longest_line longest_script (g.I.Source.left c.args.input.now) (g.I.Source.left c.args.input.now) c.args.engine.now NoMemory)
    (λ form. nothing_stands form (language_of c.args.engine.now.handed) longest_line longest_script (g.I.Source.left c.args.input.now) (g.I.Source.left c.args.input.now) c.args.engine.now)

pub returns-in-Err-OutOfMemory-clause-work : goal.returns-in-Err-OutOfMemory-clause-work
returns-in-Err-OutOfMemory-clause-work g c = of_any _ (λ form. WorksAs form (language_of c.args.engine.now.handed) longest_line (g.I.Source.left c.args.input.now) c.args.steps.now c.args.steps.now)
    (λ form. no_work form (language_of c.args.engine.now.handed) longest_line (g.I.Source.left c.args.input.now) c.args.steps.now)

pub returns-in-Ok-Run-clause-no_steps : goal.returns-in-Ok-Run-clause-no_steps
returns-in-Ok-Run-clause-no_steps g c = not_none _ run _ (rw c.in-Ok-Run.field-0-is at c.in-Ok-Run.ensures.form)

pub returns-in-Ok-Alone-clause-no_steps : goal.returns-in-Ok-Alone-clause-no_steps
returns-in-Ok-Alone-clause-no_steps g c = not_none _ (alone c.in-Ok-Alone.name.now) _ (rw c.in-Ok-Alone.field-0-is at c.in-Ok-Alone.ensures.form)

pub returns-in-Ok-Load-clause-no_steps : goal.returns-in-Ok-Load-clause-no_steps
returns-in-Ok-Load-clause-no_steps g c = not_none _ (load c.in-Ok-Load.n) _ (rw c.in-Ok-Load.field-0-is at c.in-Ok-Load.ensures.form)

pub returns-in-Err-Usage-clause-no_steps : goal.returns-in-Err-Usage-clause-no_steps
returns-in-Err-Usage-clause-no_steps g c = if_none _ _ refl

pub returns-in-Err-OutOfMemory-clause-no_steps : goal.returns-in-Err-OutOfMemory-clause-no_steps
returns-in-Err-OutOfMemory-clause-no_steps g c = if_none _ _ refl
