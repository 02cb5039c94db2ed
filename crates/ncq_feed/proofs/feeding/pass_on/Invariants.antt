use Rattle.std.proofs.Common.{ℕ, ◌+◌, ◌≤◌}
use Rattle.ncq_feed.specs.Runs.{IsUnderWay, ArePassed, AreCounted, all_in, own_in, held_below}
use Rattle.ncq_feed.specs.Turns.{AreNamed}
use Rattle.ncq_feed.proofs.PendingLaws.{room_above}
use Rattle.ncq_feed.proofs.feeding.pass_on.Given as goal

abbrev pub ghost-feed_scans : goal.ghost-feed_scans
ghost-feed_scans g a = g.run

abbrev pub ghost-take_turn : goal.ghost-take_turn
ghost-take_turn g a = g.run

abbrev pub invariant-loop-at : goal.invariant-loop-at
invariant-loop-at g l = record {
  under : IsUnderWay g.run l.shelf;
  spent : l.steps ≤ l.fn.steps + all_in g.run l.shelf;
  next : ℕ;
  shared : (held : ℕ → ℕ → ℕ) → AreCounted g.run held → l.steps ≤ l.fn.steps + (own_in g.run l.shelf + held_below g.run held next);
  passed : ArePassed g.run next l.pending l.shelf;
  named : AreNamed g.run next l.numbers l.shelf;
}

abbrev pub decreases-loop-at : goal.decreases-loop-at
decreases-loop-at g l = room_above l.pending
