use Rattle.std.proofs.Common.{refl, sym, subst}
use Rattle.ncq_pyx.specs.Reading.{Takes}
use Rattle.ncq_pyx.proofs.Steps.{gives}
use Rattle.ncq_pyx.proofs.reader.Reader.apply.Goals as goal

pub returns-in_ok-push-in-Give : goal.returns-in_ok-push-in-Give
returns-in_ok-push-in-Give c =
    let top = c.in-Some.top in
    subst (λ t. Takes c.args.self.now (record { alloc = c.args.self.now.alloc; stack = c.push-in-Some.new.self; in_tag = c.args.self.now.in_tag; items = c.args.self.now.items }) t) (sym c.in-Give.is)
    (gives c.args.self.now (record { alloc = c.args.self.now.alloc; stack = c.push-in-Some.new.self; in_tag = c.args.self.now.in_tag; items = c.args.self.now.items })
    c.pop.new.self.items top (record { name = top.name; attributes = c.in_ok-top-in-Give.field-0; children = top.children }) c.in-Give.attribute
    c.in-Some.ensures.items c.in_ok-push-in-Give.ensures.items refl refl
    (λ i. record { name = top.name; attributes = c.in_ok-top-in-Give.ensures i; children = top.children }))
