use Rattle.std.proofs.Common.{◌≡◌, ℕ, ◌||◌, take}
use Rattle.ncq_feed.specs.Runs.{is_among}
use Rattle.ncq_feed.proofs.pending.Pending.note_all.Given as goal

abbrev pub invariant-loop-number : goal.invariant-loop-number
invariant-loop-number l = (other : ℕ) → is_among other l.self ≡ (is_among other (take l.number-index l.numbers) || is_among other l.initial.self)
