use Rattle.ncq_plan.specs.declared.expr.Expr.{Expr}
use Rattle.ncq_readers.specs.Readings.{Reading}
use Rattle.ncq_shelf.specs.Wired.{Reads}
use Rattle.ncq_shelf.proofs.Turns.{alike_nowhere, err_more}
use Rattle.ncq_shelf.proofs.admit.announce.Goals as goal

pub returns-clause-alike : goal.returns-clause-alike
returns-clause-alike c =
    err_more _ (λ (nothing : (inner : Expr) (reading : Reading) → Reads inner reading c.args.expr.now → ⊥).
    alike_nowhere c.args.files.now.entries c.args.expr.now c.args.number nothing c.enroll.new.files.entries c.in_ok-enroll.ensures.ok) c.enroll_scan.ensures.scan
