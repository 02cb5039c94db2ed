use Rattle.std.proofs.lemmas.Result.{err_from_is_err_and}
use Rattle.ncq_xmlql.specs.Reading.{attributes_at}
use Rattle.ncq_xmlql.proofs.Loops.{attributes_go_on, attributes_fail, attributes_end, attributes_stop}
use Rattle.ncq_xmlql.proofs.parts.attributes_at.Goals as goal

pub returns-in_default-token : goal.returns-in_default-token
returns-in_default-token c =
    let cons = c.in-Some.ensures.cases.0 in
    let s = rw cons at c.loop-token.invariant in
    rw cons (attributes_end c.loop-token.attributes c.in-Some.token.now c.in-Some.after.now (attributes_at c.args.tokens.now) c.in_default-token.not-Name s)

pub returns-in_err-value : goal.returns-in_err-value
returns-in_err-value c =
    let p = err_from_is_err_and c.from_residual-in_err-value.result c.from_residual-in_err-value.ensures.1 in
    let cons = c.in-Some.ensures.cases.0 in
    let s = rw (cons, c.in-Name.is) at c.loop-token.invariant in
    rw (p.1, p.2) (attributes_fail c.in_err-value.field-0.0 c.loop-token.attributes c.in-Name.name c.in-Some.after.now (attributes_at c.args.tokens.now) c.in_err-value.ensures s)

pub loop-token-preserved : goal.loop-token-preserved
loop-token-preserved c =
    let cons = c.in-Some.ensures.cases.0 in
    let s = rw (cons, c.in-Name.is) at c.loop-token.invariant in
    let e = attributes_go_on c.loop-token.attributes c.in-Name.name c.in-Some.after.now c.in_ok-value.value c.in_ok-value.next.now (attributes_at c.args.tokens.now) c.in_ok-value.ensures s in
    rw (c.in_ok-push.ensures.ok, c.in_ok-name.ensures) e

pub returns : goal.returns
returns c = attributes_stop c.loop-token.attributes c.loop-token.rest.now (attributes_at c.args.tokens.now) c.in_default.ensures.cases c.loop-token.invariant
