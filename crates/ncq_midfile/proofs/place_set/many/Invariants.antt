use Rattle.std.proofs.Common.{◌≡◌, ℕ, ◌||◌, drop, nat_eq}
use Rattle.std.specs.BTreeSet.{contains}
use Rattle.std.specs.List.{list_any}
use Rattle.std.specs.Ordering.{nat_cmp}
use Rattle.ncq_midfile.proofs.place_set.many.Given as goal

abbrev pub invariant-loop-at : goal.invariant-loop-at
invariant-loop-at l = (q : ℕ) → (list_any (nat_eq q) (drop l.at-index l.places) || contains nat_cmp l.all q) ≡ list_any (nat_eq q) l.places
