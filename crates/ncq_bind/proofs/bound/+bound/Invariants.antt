use Rattle.std.proofs.Common.{◌≡◌, drop}
use Rattle.std.specs.List.{list_all}
use Rattle.ncq_bind.specs.Bound.{template_is_bound}
use Rattle.ncq_bind.proofs.bound.+bound.Given as goal

abbrev pub invariant-templates_are_bound-loop-template : goal.invariant-templates_are_bound-loop-template
invariant-templates_are_bound-loop-template l = list_all (template_is_bound l.names) (drop l.template-index l.templates) ≡ list_all (template_is_bound l.names) l.templates
