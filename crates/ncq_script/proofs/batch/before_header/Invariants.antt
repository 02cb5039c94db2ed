use Rattle.std.proofs.Common.{◌≡◌, ◌+◌, ◌++◌, ◌≤◌, false, length}
use Rattle.std.specs.List.{AllByRecursion}
use Rattle.ncq_base.specs.Lines.{lines_in}
use Rattle.ncq_script.specs.SpellsBatch.{is_header}
use Rattle.ncq_script.proofs.batch.before_header.Given as goal

abbrev pub invariant-loop-line : goal.invariant-loop-line
invariant-loop-line l = record {
  split : lines_in l.text ≡ l.lines ++ lines_in l.left.text.now;
  plain : AllByRecursion (λ line. is_header line ≡ false) l.lines;
  number : l.left.number ≡ l.number + length l.lines;
  few : l.left.number + length l.left.text.now ≤ l.number + length l.text;
}

abbrev pub decreases-loop-line : goal.decreases-loop-line
decreases-loop-line l = length l.left.text.now
