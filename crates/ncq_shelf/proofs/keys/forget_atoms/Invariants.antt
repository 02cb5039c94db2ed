use Rattle.ncq_shelf.specs.Keyed.{HoldsOthers}
use Rattle.ncq_shelf.proofs.keys.forget_atoms.Given as goal

abbrev pub invariant-loop-atom : goal.invariant-loop-atom
invariant-loop-atom l = HoldsOthers l.number l.initial.holders l.holders
