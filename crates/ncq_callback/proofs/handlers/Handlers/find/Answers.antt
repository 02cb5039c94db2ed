use Rattle.std.proofs.Common.{◌∙◌, sym, ap, arith, rules}
use Rattle.std.specs.Str.{bytes_eq}
use Rattle.ncq_plan.proofs.PlaceLaws.{position-map, position_here, position_none}
use Rattle.ncq_callback.proofs.handlers.Handlers.find.Goals as goal

pub returns : goal.returns
returns g c = sym (
    position-map (λ label. bytes_eq c.args.name.now label.0) (λ h. (h.name, h.kind)) c.args.self.now.items.items
    ∙ position_none (λ h. bytes_eq c.args.name.now h.name) c.args.self.now.items.items (λ k d l. c.loop-at.invariant.before k d (omega arith) (omega arith)))

pub returns-then-is_called : goal.returns-then-is_called
returns-then-is_called g c =
    let within = c.loop-at-test.true in
    let len = c.len.ensures in
    sym (
    position-map (λ label. bytes_eq c.args.name.now label.0) (λ h. (h.name, h.kind)) c.args.self.now.items.items
    ∙ position_here (λ h. bytes_eq c.args.name.now h.name) c.args.self.now.items.items c.loop-at.at c.index.result.now
    (search rules)
    (λ k l. c.loop-at.invariant.before k c.index.result.now (omega arith) l)
    (sym (ap (λ h. bytes_eq c.args.name.now h.name) c.index.ensures) ∙ sym c.is_called.ensures ∙ c.if-is_called.true))
