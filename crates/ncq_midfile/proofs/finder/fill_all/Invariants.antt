use Rattle.std.proofs.Common.{◌≡◌, ◌<◌, ℕ, length, get_or}
use Rattle.ncq_midfile.specs.Finders.{AreFinders}
use Rattle.ncq_midfile.specs.Pairs.{HasAll}
use Rattle.ncq_midfile.specs.declared.finder.Finder.{Finder}
use Rattle.ncq_midfile.proofs.finder.fill_all.Given as goal

abbrev pub invariant-loop-at : goal.invariant-loop-at
invariant-loop-at l = record {
  finders : AreFinders l.finders.items l.rows;
  len : length l.finders.items ≡ length l.initial.finders.items;
  full : (k : ℕ) (d : Finder) → k < l.at → HasAll l.rows (get_or l.finders.items k d);
}
