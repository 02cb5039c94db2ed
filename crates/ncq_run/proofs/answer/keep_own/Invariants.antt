use Rattle.std.proofs.Common.{◌≡◌, take}
use Rattle.ncq_run.proofs.OwnLaws.{pieces}
use Rattle.ncq_run.proofs.answer.keep_own.Given as goal

abbrev pub invariant-loop-span : goal.invariant-loop-span
invariant-loop-span l = l.own.items ≡ pieces l.name l.text.items (take l.span-index l.spans)
