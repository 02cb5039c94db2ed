use Rattle.std.proofs.Common.{take}
use Rattle.std.specs.List.{AllByRecursion}
use Rattle.ncq_midfile.specs.Shown.{shown}
use Rattle.ncq_shelf.specs.Keyed.{AreHeld}
use Rattle.ncq_shelf.proofs.keys.note_slots.Given as goal

-- the rows are noted at the slots so far
abbrev pub invariant-loop-slot : goal.invariant-loop-slot
invariant-loop-slot l = AllByRecursion (λ slot. AreHeld l.holders l.number slot (shown l.content).rows) (take l.slot-index l.slots)
