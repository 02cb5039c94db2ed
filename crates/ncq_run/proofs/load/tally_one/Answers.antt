use Rattle.std.proofs.Common.{◌∙◌, arith, rules, subst, sym}
use Rattle.std.proofs.lemmas.Result.{err_from_is_err_and}
use Rattle.ncq_engine.specs.Languages.{language_of}
use Rattle.ncq_run.specs.Session.{IsSmall}
use Rattle.ncq_run.proofs.Answering.{asks_after, asks_failed}
use Rattle.ncq_run.proofs.TallyLaws.{tally_is}
use Rattle.ncq_run.proofs.load.tally_one.Goals as goal

pub count_one-requires-clause-few : goal.count_one-requires-clause-few
count_one-requires-clause-few g c = let e = c.requires.small.commands in let f = c.requires.few in omega (arith, e, f)

pub count_one-requires-clause-small : goal.count_one-requires-clause-small
count_one-requires-clause-small g c = subst (IsSmall c.args.tally.now) (sym c.requires.small.commands) c.requires.small

pub returns-clause-tallied : goal.returns-clause-tallied
returns-clause-tallied g c history stands =
    let made = c.in_ok-accepted.ensures in
    tally_is (language_of c.args.engine.now.handed) _ _ history _ _ _ _ _ _ _ c.count_one.ensures (made.accepted history stands) (search rules) (c.spans.ensures ∙ made.spans history stands) (search rules) (made.made history stands)

pub returns-clause-asks : goal.returns-clause-asks
returns-clause-asks g c = asks_after _ c.in_ok-accepted.ensures.asks _

pub returns-in_err-accepted-clause-asks : goal.returns-in_err-accepted-clause-asks
returns-in_err-accepted-clause-asks g c =
    let p = err_from_is_err_and c.from_residual.result c.from_residual.ensures.1 in
    asks_failed _ _ _ _ _ _ p.0 p.1 c.in_err-accepted.ensures.asks.handed c.in_err-accepted.ensures.asks.work
