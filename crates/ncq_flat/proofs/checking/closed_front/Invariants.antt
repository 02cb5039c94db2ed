use Rattle.std.proofs.Common.{◌+◌, ◌≤◌, length}
use Rattle.ncq_flat.specs.Checked.{open_names, place_of}
use Rattle.ncq_flat.proofs.FrontLaws.{Taken}
use Rattle.ncq_flat.proofs.checking.closed_front.Given as goal

abbrev pub invariant-loop-place : goal.invariant-loop-place
invariant-loop-place l = record {
  taken : Taken (open_names l.initial.names.items) (open_names l.names.items) (place_of l.place) l.text l.rest l.count;
  bound : l.count + length l.rest ≤ length l.text;
}

abbrev pub decreases-loop-place : goal.decreases-loop-place
decreases-loop-place l = length l.rest
