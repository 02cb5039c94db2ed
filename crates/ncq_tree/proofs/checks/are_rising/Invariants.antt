use Rattle.std.proofs.Common.{◌≡◌, drop}
use Rattle.std.specs.Option.{option_copied}
use Rattle.ncq_tree.specs.Normal.{are_rising, are_rising_behind}
use Rattle.ncq_tree.proofs.checks.are_rising.Given as goal

-- what is left decides
abbrev pub invariant-loop-attribute : goal.invariant-loop-attribute
invariant-loop-attribute l =
    are_rising_behind (option_copied l.last) (drop l.attribute-index l.attributes) ≡ are_rising l.attributes
