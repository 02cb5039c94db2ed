use Rattle.std.proofs.Common.{sym, ap, ◌∙◌}
use Rattle.ncq_plan.specs.declared.expr.Expr.TheVariants.{Scan}
use Rattle.ncq_feed.proofs.ScanLaws.{scan_formed}
use Rattle.ncq_feed.proofs.Variants.{scan_parts}
use Rattle.ncq_feed.proofs.scan.shape_of.Goals as goal

pub unreachable-requires : goal.unreachable-requires
unreachable-requires c =
    let r = c.requires.scan in
    c.in_default.not-Scan r.source r.shape (c.expr.ensures r.stands.file r.stands.at ∙ r.stands.of)

pub returns-clause-shape : goal.returns-clause-shape
returns-clause-shape c source shape s =
    c.get.ensures ∙ (scan_parts c.in-Scan.source source c.in-Scan.shape shape (sym c.in-Scan.is ∙ c.expr.ensures s.file s.at ∙ s.of)).1

pub returns-clause-formed : goal.returns-clause-formed
returns-clause-formed c =
    let s = c.requires.scan.stands in
    scan_formed c.in-Scan.source c.get.result.now s.file.expr
    (sym (c.expr.ensures s.file s.at) ∙ c.in-Scan.is ∙ ap (Scan c.in-Scan.source) (sym c.get.ensures)) (c.requires.formed c.args.at s.file s.at)
