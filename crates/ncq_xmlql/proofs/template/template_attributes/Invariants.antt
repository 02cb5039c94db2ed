use Rattle.std.proofs.Common.{◌≡◌, map}
use Rattle.ncq_xmlql.specs.TemplateReading.{template_attribute}
use Rattle.ncq_xmlql.proofs.template.template_attributes.Given as goal

abbrev pub invariant-loop-attribute : goal.invariant-loop-attribute
invariant-loop-attribute l = l.made ≡ map template_attribute l.yielded
