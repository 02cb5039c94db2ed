use Rattle.ncq_shelf.proofs.Turns.{ok_more}
use Rattle.ncq_shelf.proofs.ScanLaws.{gains_by}
use Rattle.ncq_shelf.proofs.scans.enroll_scan.Goals as goal

pub returns-in-Scan-clause-ok : goal.returns-in-Scan-clause-ok
returns-in-Scan-clause-ok c = ok_more c.add_scan.result (gains_by c.args.expr.now c.in-Scan.source c.in-Scan.shape c.in-Scan.is c.args.scans.now.entries c.add_scan.new.scans.entries c.args.number) c.add_scan.ensures.ok
