use Rattle.std.proofs.Common.{◌≡◌, ℕ, ◌||◌, [], take}
use Rattle.ncq_feed.specs.Runs.{is_among}
use Rattle.ncq_feed.proofs.falling.Falling.tree_with.Given as goal

abbrev pub invariant-loop-noted : goal.invariant-loop-noted
invariant-loop-noted l = (other : ℕ) → is_among other l.tree.keys ≡ (is_among other (take l.noted-index l.noted-items) || is_among other [])
