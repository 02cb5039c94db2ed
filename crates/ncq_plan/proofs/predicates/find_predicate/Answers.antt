use Rattle.std.proofs.Common.{◌∙◌, sym, ap, arith, rules}
use Rattle.std.specs.Str.{bytes_eq}
use Rattle.ncq_plan.proofs.PlaceLaws.{position-map, position_here, position_none}
use Rattle.ncq_plan.proofs.predicates.find_predicate.Goals as goal

pub returns : goal.returns
returns g c = sym (
    position-map (λ p. bytes_eq c.args.name.now p.0) (λ h. (h.name, h.relation)) c.args.predicates.now
    ∙ position_none (λ h. bytes_eq c.args.name.now h.name) c.args.predicates.now (λ k d l. c.loop-at.invariant.before k d (omega arith) (omega arith)))

pub returns-then-is_called : goal.returns-then-is_called
returns-then-is_called g c =
    let within = c.loop-at-test.true in
    sym (
    position-map (λ p. bytes_eq c.args.name.now p.0) (λ h. (h.name, h.relation)) c.args.predicates.now
    ∙ position_here (λ h. bytes_eq c.args.name.now h.name) c.args.predicates.now c.loop-at.at c.index-predicates-at.result
    (search rules)
    (λ k l. c.loop-at.invariant.before k c.index-predicates-at.result (omega arith) l)
    (sym (ap (λ h. bytes_eq c.args.name.now h.name) c.index-predicates-at.is) ∙ sym c.is_called.ensures ∙ c.if-is_called.true))
