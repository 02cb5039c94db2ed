use Rattle.std.proofs.Common.{◌≡◌, ◌≤◌, length, drop}
use Rattle.ncq_midfile.specs.Pairs.{taken_out}
use Rattle.ncq_midfile.proofs.index.Index.forget.Given as goal

abbrev pub invariant-loop-left : goal.invariant-loop-left
invariant-loop-left l = record {
  few : l.left ≤ length l.places;
  seed : l.self.seed ≡ l.initial.self.seed;
  slots : l.self.slots ≡ l.initial.self.slots;
  hashes : l.self.hashes ≡ taken_out (drop l.left l.places) l.initial.self.hashes;
}

abbrev pub decreases-loop-left : goal.decreases-loop-left
decreases-loop-left l = l.left
