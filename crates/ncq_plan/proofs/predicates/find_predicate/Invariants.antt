use Rattle.std.proofs.Common.{◌≡◌, ◌≤◌, ◌-◌, false, length}
use Rattle.std.specs.List.{AllWithin}
use Rattle.std.specs.Str.{bytes_eq}
use Rattle.ncq_plan.proofs.predicates.find_predicate.Given as goal

-- none so far has the name
abbrev pub invariant-loop-at : goal.invariant-loop-at
invariant-loop-at g l = record {
  within : l.at ≤ length l.predicates;
  before : AllWithin (λ h. bytes_eq l.name h.name ≡ false) l.predicates 0 l.at;
}

abbrev pub decreases-loop-at : goal.decreases-loop-at
decreases-loop-at g l = length l.predicates - l.at
