use Rattle.ncq_shelf.proofs.ScanLaws.{loses_by}
use Rattle.ncq_shelf.proofs.scans.strike_scan.Goals as goal

pub returns-in-Scan : goal.returns-in-Scan
returns-in-Scan c = loses_by c.args.expr.now c.in-Scan.source c.in-Scan.shape c.in-Scan.is c.args.scans.now.entries c.remove_scan.new.scans.entries c.args.number c.remove_scan.ensures
