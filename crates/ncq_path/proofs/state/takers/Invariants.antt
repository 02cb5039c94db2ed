use Rattle.std.proofs.Common.{◌≡◌, ℕ, drop}
use Rattle.std.specs.Prelude.{◌||◌}
use Rattle.ncq_path.specs.Positions.{has}
use Rattle.ncq_path.specs.Links.{takes}
use Rattle.ncq_path.proofs.state.takers.Given as goal

-- what stands and what is left is the whole
abbrev pub invariant-loop-i : goal.invariant-loop-i
invariant-loop-i l = (position : ℕ)
    → (has l.found position || takes (drop l.i l.links) l.i l.bits l.tag position)
    ≡ takes l.links 0 l.bits l.tag position
