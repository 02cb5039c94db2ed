use Rattle.std.proofs.Common.{◌∙◌}
use Rattle.std.proofs.lemmas.Result.{err_from_is_err_and, on_ok_weaker}
use Rattle.ncq_engine.specs.Languages.{language_of}
use Rattle.ncq_run.proofs.Answering.{asks_after, asks_failed}
use Rattle.ncq_run.proofs.OwnLaws.{own_within, shown_own, shown_whole}
use Rattle.ncq_run.proofs.answer.make_shown.Goals as goal

pub keep_own-requires : goal.keep_own-requires
keep_own-requires g c =
    let h = c.requires.stands in
    let made = c.in_ok-make_answer.ensures in
    record { within = own_within (language_of c.args.engine.now.handed) c.in-Some.name.now h.0 _ c.args.command.now _ _ (made.made h.0 h.1) (c.spans.ensures ∙ made.spans h.0 h.1) }

pub returns-in-Some-clause-made : goal.returns-in-Some-clause-made
returns-in-Some-clause-made g c = on_ok_weaker c.keep_own.result
    (λ kept history stands.
    let made = c.in_ok-make_answer.ensures in
    kept ∙ shown_own (language_of c.args.engine.now.handed) c.args.task.now.whose c.in-Some.name history _ c.args.command.now _ _ c.in-Some.is (made.made history stands) (c.spans.ensures ∙ made.spans history stands))
    c.keep_own.ensures

pub returns-in-Some-clause-asks : goal.returns-in-Some-clause-asks
returns-in-Some-clause-asks g c = asks_after _ c.in_ok-make_answer.ensures.asks c.keep_own.result

pub returns-in-None-clause-made : goal.returns-in-None-clause-made
returns-in-None-clause-made g c history stands =
    shown_whole (language_of c.args.engine.now.handed) c.args.task.now.whose history _ c.args.command.now _ c.in-None.is (c.in_ok-make_answer.ensures.made history stands)

pub returns-in-None-clause-asks : goal.returns-in-None-clause-asks
returns-in-None-clause-asks g c = asks_after _ c.in_ok-make_answer.ensures.asks _

pub returns-in_err-make_answer-clause-asks : goal.returns-in_err-make_answer-clause-asks
returns-in_err-make_answer-clause-asks g c =
    let p = err_from_is_err_and c.from_residual.result c.from_residual.ensures.1 in
    asks_failed _ _ _ _ _ _ p.0 p.1 c.in_err-make_answer.ensures.asks.handed c.in_err-make_answer.ensures.asks.work
