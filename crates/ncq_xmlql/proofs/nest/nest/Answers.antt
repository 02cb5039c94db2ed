use Rattle.std.proofs.Common.{rules, ◌≡◌, max, arith, nat_cmp, ℕ}
use Rattle.std.specs.Ordering.{ord_max}
use Rattle.ncq_xmlql.specs.Nesting.{nest}
use Rattle.ncq_xmlql.proofs.NestLaws.{nest_goes_on}
use Rattle.ncq_xmlql.proofs.nest.nest.Goals as goal

larger : (a b : ℕ) → ord_max nat_cmp a b ≡ max a b
larger a b = search rules

pub loop-token-preserved : goal.loop-token-preserved
loop-token-preserved c =
    let s = rw c.in-Some.ensures.cases.0 at c.loop-token.invariant.value in
    let e = nest_goes_on c.loop-token.most c.loop-token.depth c.in-Some.token.now c.in-Some.after.now (nest c.args.tokens.now) c.loop-token.invariant.reached s in
    let m = larger c.loop-token.most c.depth_after-depth.result in
    record {
      value = rw (c.max-most.ensures, m, c.depth_after-depth.ensures.value) e;
      bound = omega (arith, c.in-Some.ensures.cases.1, c.depth_after-depth.ensures.bound, c.loop-token.invariant.bound);
      reached = omega (arith, m, c.max-most.ensures);
    }
