use Rattle.std.proofs.Common.{rules, arith, sym}
use Rattle.ncq_token.specs.Bytes.{quoted_at}
use Rattle.ncq_token.proofs.Reading.{quoted_goes_on, quoted_ends, quoted_stops}
use Rattle.ncq_token.proofs.quoted.quoted_at.Goals as goal

pub returns-then-first-eq34-clause-value : goal.returns-then-first-eq34-clause-value
returns-then-first-eq34-clause-value c =
    let s = rw c.in-Some.ensures.cases.0 at c.loop-first.invariant.value in
    let e = quoted_ends c.loop-first.value.items c.in-Some.first.now c.in-Some.after.now (quoted_at c.args.bytes.now) (search rules) s in
    let f = c.in_ok-bytes_of.ensures in
    let g = c.deref.ensures.value in
    cc (e, f, g)

pub loop-first-preserved : goal.loop-first-preserved
loop-first-preserved c =
    let s = rw c.in-Some.ensures.cases.0 at c.loop-first.invariant.value in
    let e = quoted_goes_on c.loop-first.value.items c.in-Some.first.now c.in-Some.after.now (quoted_at c.args.bytes.now) (search rules) s in
    let p = sym c.quoted_byte-byte.ensures.value in
    let e2 = rw p at e in
    record {
      value = rw c.in_ok-push.ensures.items e2;
      within = omega (arith, c.in-Some.ensures.cases.1, c.quoted_byte-byte.ensures.within);
    }

pub returns-clause-value : goal.returns-clause-value
returns-clause-value c = sym (quoted_stops c.loop-first.value.items c.loop-first.rest.now (quoted_at c.args.bytes.now) c.in_default.ensures.cases c.loop-first.invariant.value)
