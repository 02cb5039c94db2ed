use Rattle.std.proofs.Common.{rules, ◌≡◌, ◌<◌, length, None}
use Rattle.std.proofs.lemmas.Result.{err_from_is_err_and}
use Rattle.ncq_xmlql.specs.Times.{times, times_from}
use Rattle.ncq_xmlql.proofs.TimeLaws.{times_go_on, times_fail, times_end}
use Rattle.ncq_xmlql.proofs.time.times_at.Goals as goal

pub returns-in_err-more : goal.returns-in_err-more
returns-in_err-more c =
    let p = err_from_is_err_and c.from_residual.result c.from_residual.ensures.1 in
    let some : 0 < length c.times.rest.now = search rules in
    rw (p.1, p.2) (times_fail c.in_err-more.field-0.0 c.times.written c.times.rest.now (times_from (times None None None) c.args.tokens.now) some c.in_err-more.ensures c.times.invariant)

pub times-preserved : goal.times-preserved
times-preserved c =
    let some : 0 < length c.times.rest.now = search rules in
    times_go_on c.times.written c.times.rest.now c.in_ok-more.more c.in_ok-more.next.now (times_from (times None None None) c.args.tokens.now) some c.in_ok-more.ensures c.times.invariant

pub returns : goal.returns
returns c =
    let none : length c.times.rest.now ≡ 0 = search rules in
    times_end c.times.written c.times.rest.now (times_from (times None None None) c.args.tokens.now) none c.times.invariant
