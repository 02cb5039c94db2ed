use Rattle.std.proofs.Common.{◌≡◌, drop}
use Rattle.std.specs.List.{list_all}
use Rattle.ncq_xmlql.specs.PatternPaths.{item_paths, is_few}
use Rattle.ncq_xmlql.proofs.few.all_are_few.Given as goal

-- what is left decides
abbrev pub invariant-loop-item : goal.invariant-loop-item
invariant-loop-item l = list_all (item_paths is_few) (drop l.item-index l.items) ≡ list_all (item_paths is_few) l.items
