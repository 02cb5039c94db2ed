use Rattle.std.proofs.Common.{◌≡◌, ◌++◌, map}
use Rattle.ncq_signature.specs.Groups.{line_of}
use Rattle.ncq_count.specs.FileExprs.{exprs_of}
use Rattle.ncq_count.proofs.LineLaws.{AreRight, signatures_of}
use Rattle.ncq_count.proofs.lines.lines_of.Given as goal

-- what is left decides
abbrev pub invariant-loop-key : goal.invariant-loop-key
invariant-loop-key l = record {
  right : AreRight l.shelf l.key-iterator;
  left : l.lines.items ++ map (line_of (exprs_of l.shelf)) (signatures_of l.shelf l.key-iterator) ≡ map (line_of (exprs_of l.shelf)) (signatures_of l.shelf l.counts.entries);
}
