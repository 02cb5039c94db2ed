use Rattle.std.proofs.Common.{◌≡◌, ◌+◌, ◌≤◌, ℕ, List, length}
use Rattle.ncq_script.specs.OpenCommands.{opened}
use Rattle.ncq_script.specs.Reading.{Follows}
use Rattle.ncq_script.specs.NextOfCommands.{size}
use Rattle.ncq_script.proofs.command_reader.next_command.Given as goal

abbrev pub invariant-lines : goal.invariant-lines
invariant-lines l = record {
  follows : (pushed : List ℕ) (count : ℕ) → Follows (record { lines = l.fn.lines; current = opened l.fn.current }) pushed count → Follows (record { lines = l.lines; current = opened l.current }) pushed count;
  size : size (record { lines = l.lines; current = opened l.current }) ≤ size (record { lines = l.fn.lines; current = opened l.fn.current });
  limit : l.lines.limit ≡ l.fn.lines.limit;
  finished : l.lines.finished ≡ l.fn.lines.finished;
}

abbrev pub decreases-lines : goal.decreases-lines
decreases-lines l = length l.lines.kept + length l.lines.ahead
