use Rattle.std.proofs.Common.{◌≡◌, drop}
use Rattle.std.specs.List.{flat_map}
use Rattle.std.specs.Option.{option_map}
use Rattle.ncq_source.specs.Keys.{attribute_keys, only, only_behind}
use Rattle.ncq_source.proofs.key.attribute_key.Given as goal

abbrev pub invariant-loop-attribute : goal.invariant-loop-attribute
invariant-loop-attribute l =
    only_behind (option_map (λ b. b.now) l.found) (flat_map (attribute_keys l.name) (drop l.attribute-index l.attributes)) ≡ only (flat_map (attribute_keys l.name) l.attributes)
