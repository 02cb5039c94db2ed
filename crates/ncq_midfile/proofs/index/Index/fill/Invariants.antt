use Rattle.std.proofs.Common.{◌≡◌, length}
use Rattle.ncq_midfile.specs.Indexes.{Covers}
use Rattle.ncq_midfile.proofs.index.Index.fill.Given as goal

abbrev pub invariant-loop-at : goal.invariant-loop-at
invariant-loop-at l = record {
  slots : l.self.slots ≡ l.initial.self.slots;
  covers : Covers l.self l.rows;
  at : length l.self.hashes ≡ l.at;
}
