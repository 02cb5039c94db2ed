use Rattle.std.proofs.Common.{◌≡◌, ◌+◌, ◌∷◌, length, ap, ◌∙◌, arith, length-append}
use Rattle.ncq_flat.proofs.ItemLaws.{leads_more}
use Rattle.ncq_flat.proofs.reading.behind_element.Goals as goal

pub loop-line-preserved : goal.loop-line-preserved
loop-line-preserved c =
    let size : length c.loop-line.rest.now ≡ length c.in-Some.line.now + length (10 ∷ c.in-Some.more.now) = ap length c.in-Some.ensures.1 ∙ length-append c.in-Some.line.now (10 ∷ c.in-Some.more.now) in
    record {
      leads = leads_more c.args.text.now c.loop-line.rest.now c.in-Some.line.now c.in-Some.more.now c.loop-line.count c.in-Some.ensures.0 c.in-Some.ensures.1 c.loop-line.invariant.leads;
      few = omega (arith, size, c.in-Some-open_behind.ensures.bound, c.loop-line.invariant.few);
      bound = omega (arith, size, c.loop-line.invariant.bound);
    }

pub returns-in_default-open_behind-clause-leads : goal.returns-in_default-open_behind-clause-leads
returns-in_default-open_behind-clause-leads c =
    leads_more c.args.text.now c.loop-line.rest.now c.in-Some.line.now c.in-Some.more.now c.loop-line.count c.in-Some.ensures.0 c.in-Some.ensures.1 c.loop-line.invariant.leads
