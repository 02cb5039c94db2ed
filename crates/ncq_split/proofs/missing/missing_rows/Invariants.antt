use Rattle.std.proofs.Common.{◌≡◌, ◌+◌, ◌≤◌, length, take}
use Rattle.std.specs.Map.{keys_of}
use Rattle.ncq_midfile.specs.Content.{signed_at}
use Rattle.ncq_midfile.specs.Shown.{rows_below}
use Rattle.ncq_midfile.specs.Views.{is_unheld}
use Rattle.ncq_split.proofs.SplitLaws.{brought}
use Rattle.ncq_split.proofs.missing.missing_rows.Given as goal

abbrev pub invariant-loop-place : goal.invariant-loop-place
invariant-loop-place g l = record {
  rows : l.added ≡ brought (is_unheld l.slot (keys_of l.standing)) l.n (signed_at (take l.place-index l.place-items) (rows_below l.input));
  cost : l.steps ≤ l.initial.steps + length (brought (is_unheld l.slot (keys_of l.standing)) l.n (signed_at (take l.place-index l.place-items) (rows_below l.input)));
}
