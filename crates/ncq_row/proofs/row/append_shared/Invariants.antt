use Rattle.std.proofs.Common.{◌≡◌, ◌++◌, map, take}
use Rattle.ncq_row.proofs.row.append_shared.Given as goal

abbrev pub invariant-loop-slot : goal.invariant-loop-slot
invariant-loop-slot l =
    map (λ s. s.value) l.slots.items
    ≡ map (λ s. s.value) l.initial.slots.items ++ map (λ s. s.value) (take l.slot-index l.more)
