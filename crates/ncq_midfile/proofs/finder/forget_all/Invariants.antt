use Rattle.std.proofs.Common.{◌≡◌, ◌<◌, ◌≤◌, ℕ, length, get_or}
use Rattle.ncq_midfile.specs.Finders.{IsFinder}
use Rattle.ncq_midfile.specs.Pairs.{HasAll, taken_out}
use Rattle.ncq_midfile.specs.declared.finder.Finder.{Finder}
use Rattle.ncq_midfile.proofs.finder.forget_all.Given as goal

abbrev pub invariant-loop-at : goal.invariant-loop-at
invariant-loop-at l = record {
  finders : (k : ℕ) (d : Finder) → k < l.at → IsFinder (taken_out l.places l.rows) (get_or l.finders.items k d);
  full : (k : ℕ) (d : Finder) → l.at ≤ k → k < length l.finders.items → HasAll l.rows (get_or l.finders.items k d);
  len : length l.finders.items ≡ length l.initial.finders.items;
}
