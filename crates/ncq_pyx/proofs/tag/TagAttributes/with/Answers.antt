use Rattle.std.proofs.Common.{ap, sym, ◌∙◌}
use Rattle.ncq_tree.specs.Normal.{has_name}
use Rattle.ncq_pyx.proofs.TagLaws.{names_more}
use Rattle.ncq_pyx.proofs.tag.TagAttributes.with.Goals as goal

pub invariant_of-result : goal.invariant_of-result
invariant_of-result c = λ name.
    names_more c.self.inside.names c.insert.new.self c.self.inside.attributes c.args.attribute c.in_ok-copy.field-0 c.in_ok-insert.ensures.updates.0 c.in_ok-copy.ensures c.self.invariant name
    ∙ ap (λ v. has_name v name) (sym c.in_ok-push.ensures.ok)
