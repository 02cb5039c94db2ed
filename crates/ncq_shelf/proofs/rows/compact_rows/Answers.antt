use Rattle.std.proofs.Common.{sym, subst}
use Rattle.ncq_midfile.specs.Files.{FileState}
use Rattle.ncq_shelf.specs.Groups.{HasBase}
use Rattle.ncq_shelf.proofs.Compactions.{compacted}
use Rattle.ncq_shelf.proofs.Grouped.{own_content}
use Rattle.ncq_shelf.proofs.rows.compact_rows.Goals as goal

pub returns-in-Whole-clause-own : goal.returns-in-Whole-clause-own
returns-in-Whole-clause-own c =
    compacted c.compact.result c.args.change c.in-Whole.content c.compact.new.self c.compact.ensures.base c.compact.ensures.left c.compact.ensures.stays
    (λ h none groups expr. subst (λ (s : FileState). HasBase c.args.change s c.compact.new.self) (sym (own_content groups expr c.args.rows.now c.in-Whole.content c.in-Whole.is)) h)
