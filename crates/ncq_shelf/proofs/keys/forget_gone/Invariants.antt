use Rattle.ncq_shelf.specs.Keyed.{HoldsOthers, HoldsBoth}
use Rattle.ncq_shelf.proofs.keys.forget_gone.Given as goal

abbrev pub invariant-loop-atom : goal.invariant-loop-atom
invariant-loop-atom l = record {
  others : HoldsOthers l.number l.initial.holders l.holders;
  both : HoldsBoth l.fresh l.number l.initial.holders l.holders;
}
