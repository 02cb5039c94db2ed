use Rattle.std.proofs.Common.{◌≡◌, drop}
use Rattle.std.specs.List.{list_any}
use Rattle.ncq_base.specs.Atoms.{same_atom}
use Rattle.ncq.proofs.tests.embedded.is_member.Given as goal

-- what is left decides
abbrev pub invariant-loop-atom : goal.invariant-loop-atom
invariant-loop-atom l = list_any (same_atom l.value) (drop l.atom-index l.atoms) ≡ list_any (same_atom l.value) l.atoms
