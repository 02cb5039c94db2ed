use Rattle.std.proofs.Common.{ℕ, ◌<◌, arith}
use Rattle.ncq_midfile.specs.Files.{FileState}
use Rattle.ncq_midfile.specs.Shown.{shown}
use Rattle.ncq_midfile.specs.Views.{IsLast}
use Rattle.ncq_engine.specs.Compactions.{IsWorn}
use Rattle.ncq_engine.proofs.compaction.is_due.Goals as goal

-- no row of a worn file is above the number
not_above : (content : FileState) (number last : ℕ) → IsLast content last → number < last → IsWorn number content → ⊥
not_above content number last is over w = let few = is.least number (let a = w.above in omega (arith, a)) w.last in omega (arith, few, over)

pub returns-clause-worn : goal.returns-clause-worn
returns-clause-worn c = λ w. absurd (not_above (shown c.args.view.now) c.args.number c.last.result c.last.ensures c.if-last-number.false w)
