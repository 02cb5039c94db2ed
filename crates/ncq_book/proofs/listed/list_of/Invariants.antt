use Rattle.std.proofs.Common.{◌≡◌, map, take}
use Rattle.ncq_book.specs.Questions.{asked_by, standing_at, StandEach}
use Rattle.ncq_book.proofs.listed.list_of.Given as goal

-- what stands under the numbers so far is listed, and those ahead stand in the map
abbrev pub invariant-loop-install : goal.invariant-loop-install
invariant-loop-install l = (map asked_by l.list.items ≡ standing_at l.subscriptions.entries (take l.install-index l.installs)) × StandEach l.subscriptions.entries l.ahead
