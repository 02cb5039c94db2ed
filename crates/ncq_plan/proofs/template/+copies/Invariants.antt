use Rattle.std.proofs.Common.{◌≡◌, take}
use Rattle.ncq_plan.proofs.template.+copies.Given as goal

abbrev pub invariant-copy_content-loop-template : goal.invariant-copy_content-loop-template
invariant-copy_content-loop-template l = l.copy ≡ take l.template-index l.content
