use Rattle.std.proofs.Common.{◌≡◌, ◌+◌, ◌<◌, ◌≤◌, ◌^◌, drop, length, take, vec_len}
use Rattle.ncq_base.specs.Lines.{lines_in}
use Rattle.ncq_pyx.specs.Reading.{Stands}
use Rattle.ncq_pyx.proofs.reader.read_lines.Given as goal

abbrev pub invariant-loop-line : goal.invariant-loop-line
invariant-loop-line l = record {
  left : lines_in l.rest ≡ drop l.number l.lines;
  few : l.number + length l.rest < 2 ^ 63;
  within : l.number ≤ length l.lines;
  depth : vec_len l.reader.stack ≤ l.limit;
  stands : Stands l.limit (take l.number l.lines) l.reader;
}

abbrev pub decreases-loop-line : goal.decreases-loop-line
decreases-loop-line l = length l.rest
